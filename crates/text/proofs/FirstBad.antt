-- `first_bad` against the law: it gives the one place where reading from the start first meets no good character, and none exactly for good text.
use Rattle.std.specs.Prelude.{None, Option, Some}
use Prim.Native.Nat.{ℕ, zero, suc, ◌+◌, ◌≤◌, ◌<◌}
use native.Mathlib.Nat.{zero-add, add-zero, add_assoc}
use native.Mathlib.Omega.{arith}
use mathlib.Core.Path.{◌≡◌, refl, sym, ap, ◌∙◌}
use mathlib.Core.Logic.{◌↔◌, ◌⊎◌, inl, inr, ⊎_elim}
use mathlib.Core.List.{List, [], ◌∷◌, ◌++◌, append_assoc, append-nil}
use lib.ListN.{length, length-append}
use lib.Seq.{drop-append_seam}
use Rattle.text.specs.Utf8.{GoodCharacter, Run, none, more, GoodText, Begins, FirstBad}
use Rattle.text.specs.Reading.{good_length, first_bad}
use Rattle.text.proofs.Rows.{good_size}
use Rattle.text.proofs.Steps.{first_end, first_here, first_on}
use Rattle.text.proofs.Character.{good_complete, good_sound}

-- ---- over good text reading goes on
begins : {c : List ℕ} → GoodCharacter c → (rest : List ℕ) → good_length (c ++ rest) ≡ Some (length c)
begins {c} w rest = good_complete (record { one = c; rest = rest; whole = refl; size = refl; class = w })

over_character : {c : List ℕ} (rest : List ℕ) (at : ℕ) → GoodCharacter c → first_bad (c ++ rest) at ≡ first_bad rest (at + length c)
over_character {c} rest at w = first_on (c ++ rest) at (length c) (begins w rest) ∙ rw drop-append_seam

over : {s : List ℕ} {n : ℕ} → Run GoodCharacter s n → (rest : List ℕ) (at : ℕ) → first_bad (s ++ rest) at ≡ first_bad rest (at + length s)
over none rest at = rw add-zero
over (more {c = c} {s = s} w r) rest at =
    rw (append_assoc c s rest, length-append c s, ← add_assoc at (length c) (length s))
    (over_character (s ++ rest) at w ∙ over r rest (at + length c))

pub good_nothing : {s : List ℕ} → GoodText s → (at : ℕ) → first_bad s at ≡ None
good_nothing {s} g at = (rw append-nil at (over g.run [] at)) ∙ first_end (at + length s)

-- ---- where no good character starts
none_starts : (s : List ℕ) (a : Option ℕ) → good_length s ≡ a → ((n : ℕ) → Begins GoodCharacter s n → ⊥) → good_length s ≡ None
none_starts s None e f = e
none_starts s (Some n) e f = absurd (f n (good_sound s n e))

here : (s : List ℕ) → (s ≡ [] → ⊥) → ((n : ℕ) → Begins GoodCharacter s n → ⊥) → (at : ℕ) → first_bad s at ≡ Some at
here [] m f at = absurd (m refl)
here (b ∷ s) m f at = first_here b s at (none_starts (b ∷ s) _ refl f)

pub bad_place : {s : List ℕ} {k : ℕ} → FirstBad s k → (at : ℕ) → first_bad s at ≡ Some (at + k)
bad_place w at = rw (w.whole, ← w.place) (over w.good.run w.rest at ∙ here w.rest w.more w.bad (at + length w.front))

-- ---- every text is good or has such a place
at_front : (b : ℕ) (s : List ℕ) → good_length (b ∷ s) ≡ None → FirstBad (b ∷ s) 0
at_front b s e =
    record {
      front = [];
      rest = b ∷ s;
      whole = refl;
      place = refl;
      good = record { count = 0; run = none };
      more = λ q. let z : ◌≡◌ {A = ℕ} 0 1 = cc in omega arith;
      bad = λ n w. let f = good_complete w in absurd cc;
    }

module _ {s : List ℕ} {n : ℕ} (w : Begins GoodCharacter s n) where
  good_more : GoodText w.rest → GoodText s
  good_more g = record { count = suc g.count; run = rw w.whole (more w.class g.run) }

  bad_more : {k : ℕ} → FirstBad w.rest k → FirstBad s (n + k)
  bad_more v =
      record {
        front = w.one ++ v.front;
        rest = v.rest;
        whole = w.whole ∙ ap (λ (l : List ℕ). w.one ++ l) v.whole ∙ sym (append_assoc w.one v.front v.rest);
        place = rw (length-append w.one v.front, w.size, v.place);
        good = record { count = suc v.good.count; run = more w.class v.good.run };
        more = v.more;
        bad = v.bad;
      }

  shorter : (m : ℕ) → 0 < n → length s ≤ suc m → length w.rest ≤ m
  shorter m p h = omega (arith, simp length-append at (ap length w.whole), w.size)

abbrev Read : List ℕ → Type 0
Read s = GoodText s ⊎ ((k : ℕ) × FirstBad s k)

read_on : (m b : ℕ) (s : List ℕ) → length (b ∷ s) ≤ suc m → ((t : List ℕ) → length t ≤ m → Read t) → (a : Option ℕ) → good_length (b ∷ s) ≡ a → Read (b ∷ s)
read_on m b s h f None e = inr (0, at_front b s e)
read_on m b s h f (Some n) e =
    let w : Begins GoodCharacter (b ∷ s) n = good_sound (b ∷ s) n e in
    ⊎_elim (λ g. inl (good_more w g)) (λ v. inr (n + v.0, bad_more w v.1)) (f w.rest (shorter w m (good_size (b ∷ s) e).0 h))

read : (m : ℕ) (s : List ℕ) → length s ≤ m → Read s
read zero [] h = inl (record { count = 0; run = none })
read zero (b ∷ s) h = let no : ⊥ = omega arith in absurd no
read (suc m) [] h = inl (record { count = 0; run = none })
read (suc m) (b ∷ s) h = read_on m b s h (λ t l. read m t l) (good_length (b ∷ s)) refl

pub good_or_bad : (s : List ℕ) → GoodText s ⊎ ((k : ℕ) × FirstBad s k)
good_or_bad s = read (length s) s (omega arith)

-- ---- the theorems
pub first_bad_at : (s : List ℕ) (k : ℕ) → (first_bad s 0 ≡ Some k) ↔ FirstBad s k
first_bad_at s k = (sound, λ w. rw zero-add at (bad_place w 0))
  where
    sound : first_bad s 0 ≡ Some k → FirstBad s k
    sound e =
        ⊎_elim (λ g. let f = good_nothing g 0 in let z : ◌≡◌ {A = ℕ} 0 1 = cc in let no : ⊥ = omega arith in absurd no)
        (λ v. let f = bad_place v.1 0 in let q : 0 + v.0 ≡ k = cc in let p : v.0 ≡ k = omega arith in rw p at v.1)
        (good_or_bad s)

pub first_bad_nothing : (s : List ℕ) → (first_bad s 0 ≡ None) ↔ GoodText s
first_bad_nothing s = (sound, λ g. good_nothing g 0)
  where
    sound : first_bad s 0 ≡ None → GoodText s
    sound e =
        ⊎_elim (λ g. g)
        (λ v. let f = bad_place v.1 0 in let z : ◌≡◌ {A = ℕ} 0 1 = cc in let no : ⊥ = omega arith in absurd no)
        (good_or_bad s)

pub first_bad_unique : {s : List ℕ} {j k : ℕ} → FirstBad s j → FirstBad s k → j ≡ k
first_bad_unique {j = j} {k = k} v w =
    let e = bad_place v 0 in let f = bad_place w 0 in let q : 0 + j ≡ 0 + k = cc in omega arith
