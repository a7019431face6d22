-- Good text is well-formed text without the bytes 0 and 13: no later byte of a character is one of them.
use Prim.Native.Nat.{ℕ, ◌≤◌}
use native.Mathlib.Omega.{arith}
use mathlib.Core.Path.{◌≡◌, refl, sym, ap, ◌∙◌}
use mathlib.Core.Logic.{◌↔◌, ⊎_elim}
use mathlib.Core.Bool.{true, false≢true}
use mathlib.Core.List.{List, [], ◌∷◌}
use Rattle.scan.specs.Member.{In}
use Rattle.scan.proofs.Member.{in_nil, in_here, in_cons, in_front, in_back, in_either}
use Rattle.text.specs.Utf8.{Character, GoodCharacter, Run, none, more, GoodText, Clean}
use Rattle.text.specs.Reading.{barred}
use Rattle.text.proofs.Character.{not_barred, barred_cases, later_byte}

-- ---- no byte of a good character is barred
not_later : (b : ℕ) → 128 ≤ b → barred b ≡ true → ⊥
not_later b h t = barred_cases b t (λ e. omega arith) (λ e. omega arith)

module _ {b : ℕ} (t : barred b ≡ true) where
  in_good : {c : List ℕ} → GoodCharacter c → In b c → ⊥
  in_good {c = []} w m = in_nil m
  in_good {c = x ∷ c} w m =
      ⊎_elim (λ q. false≢true (sym (not_barred (x ∷ c) [] w) ∙ ap barred (sym q) ∙ t))
      (λ k. not_later b (later_byte w.character k) t) (in_cons c m)

  in_run : {s : List ℕ} {n : ℕ} → Run GoodCharacter s n → In b s → ⊥
  in_run none m = in_nil m
  in_run (more {c = c} {s = s} w r) m = ⊎_elim (λ k. in_good w k) (λ k. in_run r k) (in_either c s b m)

-- ---- the theorem
characters_of : {s : List ℕ} {n : ℕ} → Run GoodCharacter s n → Run Character s n
characters_of none = none
characters_of (more w r) = more w.character (characters_of r)

only : {b : ℕ} {c : List ℕ} → c ≡ b ∷ [] → In b c
only q = rw q (in_here [] refl)

good_of : {s : List ℕ} {n : ℕ} → Run Character s n → (In 0 s → ⊥) → (In 13 s → ⊥) → Run GoodCharacter s n
good_of none f g = none
good_of (more {c = c} {s = s} w r) f g =
    more (record {
      character = w;
      not_0 = λ q. f (in_front c s 0 (only q));
      not_13 = λ q. g (in_front c s 13 (only q));
    }) (good_of r (λ m. f (in_back c s 0 m)) (λ m. g (in_back c s 13 m)))

pub good_text : (s : List ℕ) → GoodText s ↔ Clean s
good_text s = (
  λ g. record { well_formed = record { count = g.count; run = characters_of g.run }; no_0 = in_run refl g.run; no_13 = in_run refl g.run },
  λ k. record { count = k.well_formed.count; run = good_of k.well_formed.run k.no_0 k.no_13 },
)
