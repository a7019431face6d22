-- `folds` is the folding of a label, and the only one.
use Prim.Native.Nat.{ℕ, zero, suc, ◌≤◌, ◌<◌}
use native.Mathlib.Omega.{arith}
use mathlib.Core.Path.{◌≡◌, refl, sym, ap, ◌∙◌}
use mathlib.Core.Logic.{◌↔◌}
use mathlib.Core.List.{List, [], ◌∷◌, ◌++◌}
use mathlib.Core.Bool.{true}
use borrow.Author.Tests.{ltb-true, ltb-false}
use lib.Dec.{ltb}
use lib.ListN.{length, length-append}
use Rattle.std.specs.Prelude.{Option, Some, None}
use Rattle.scan.proofs.Test.{by}
use Rattle.text.specs.Utf8.{◌‥◌, table, Character, Begins}
use Rattle.text.specs.Reading.{character_length}
use Rattle.text.proofs.Character.{character_sound, character_complete, character_size}
use Rattle.casefold.specs.Fold.{expand}
use Rattle.folding.specs.Pair.{pair}
use Rattle.folding.proofs.Pair.{pair_bounds}
use Rattle.matching.specs.Form.{code_point, Folded, none, good, bad}
use Rattle.matching.specs.Reading.{folds_from, folds}
use Rattle.matching.proofs.Spelled.{passes, no_pair_0, second_high}
use Rattle.matching.proofs.Characters.{character_folds}

-- ---- a byte that starts no character
abbrev Starts : List ℕ → Type 0
Starts l = (n : ℕ) → Begins Character l n → ⊥

one_begins : (b : ℕ) (l : List ℕ) → b < 128 → Begins Character (b ∷ l) 1
unfolding table
one_begins b l h =
    record {
      one = b ∷ [];
      rest = l;
      whole = refl;
      size = refl;
      class = record { row = 0x00 ‥ 0x7F ∷ []; listed = (0, refl); fits = (omega arith, omega arith, tt) };
    }

two_begins : (b x : ℕ) (l : List ℕ) → pair b x ≡ true → Begins Character (b ∷ x ∷ l) 2
unfolding table
two_begins b x l p =
    let k = pair_bounds b x p in
    let m = second_high b x p in
    record {
      one = b ∷ x ∷ [];
      rest = l;
      whole = refl;
      size = refl;
      class = record {
        row = 0xC2 ‥ 0xDF ∷ 0x80 ‥ 0xBF ∷ [];
        listed = (1, refl);
        fits = (omega arith, omega arith, (omega arith, omega arith, tt));
      };
    }

bad_high : (b : ℕ) (l : List ℕ) → Starts (b ∷ l) → 91 ≤ b
bad_high b l n = by (ltb b 91) (λ e. let k = ltb-true b 91 e in absurd (n 1 (one_begins b l (omega arith)))) (ltb-false b 91)

bad_folds : (b : ℕ) (l : List ℕ) → Starts (b ∷ l) → folds (b ∷ l) ≡ b ∷ folds l
bad_folds b [] n = passes b [] (bad_high b [] n) (no_pair_0 b)
bad_folds b (x ∷ l) n = passes b (x ∷ l) (bad_high b (x ∷ l) n) (by (pair b x) (λ p. absurd (n 2 (two_begins b x l p))) (λ p. p))

-- ---- `folds` is the folding, and the only one
pub folded_read : {l f : List ℕ} → Folded l f → folds l ≡ f
unfolding folds_from
folded_read none = refl
folded_read (good {c} {l} w h) = character_folds l w ∙ ap (λ (r : List ℕ). expand (code_point c) ++ r) (folded_read h)
folded_read (bad {b} {l} n h) = bad_folds b l n ∙ ap (λ (r : List ℕ). b ∷ r) (folded_read h)

from_character : {l : List ℕ} {n : ℕ} (w : Begins Character l n) → Folded w.rest (folds w.rest) → Folded l (folds l)
from_character w h = rw w.whole (rw (character_folds w.rest w.class) (good w.class h))

none_starts : (l : List ℕ) → character_length l ≡ None → Starts l
none_starts l e n w = let a : None ≡ Some n = sym e ∙ character_complete w in grind (arith, a)

rest_length : {l : List ℕ} {n : ℕ} (w : Begins Character l n) → length w.rest < length l
rest_length w =
    let b : 0 < length w.one = character_size w.class in
    rw w.whole (rw length-append (omega arith))

abbrev Has : List ℕ → Type 0
Has l = Folded l (folds l)

has_by : (b : ℕ) (l : List ℕ) → ((m : List ℕ) → length m ≤ length l → Has m) → (c : Option ℕ) → character_length (b ∷ l) ≡ c → Has (b ∷ l)
has_by b l f None e = let n = none_starts (b ∷ l) e in rw (bad_folds b l n) (bad n (f l (omega arith)))
has_by b l f (Some n) e =
    let w : Begins Character (b ∷ l) n = character_sound (b ∷ l) n e in
    let m = rest_length w in
    from_character w (f w.rest (omega arith))

has_next : (k : ℕ) → ((m : List ℕ) → length m ≤ k → Has m) → (l : List ℕ) → length l ≤ suc k → Has l
unfolding folds_from
has_next k f [] h = none
has_next k f (b ∷ l) h = has_by b l (λ m g. f m (omega arith)) (character_length (b ∷ l)) refl

has_none : (l : List ℕ) → length l ≤ 0 → Has l
unfolding folds_from
has_none [] h = none
has_none (b ∷ l) h = let no : ⊥ = omega arith in absurd no

pub has_folded : (k : ℕ) (l : List ℕ) → length l ≤ k → Has l
has_folded zero l h = has_none l h
has_folded (suc k) l h = has_next k (λ m g. has_folded k m g) l h

pub folded_iff : (l f : List ℕ) → Folded l f ↔ (folds l ≡ f)
folded_iff l f = (folded_read, λ e. rw e at (has_folded (length l) l (omega arith)))
