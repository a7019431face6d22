-- Where a block ends: after an LF, or where the note ends; and so its paragraph's end tells it.
use Prim.Native.Nat.{ℕ, suc, ◌+◌, ◌-◌, ◌≤◌, ◌<◌}
use native.Mathlib.Omega.{arith}
use mathlib.Core.Path.{◌≡◌, sym, ap, ◌∙◌}
use mathlib.Core.List.{List, [], ◌∷◌}
use mathlib.Core.Bool.{true, false, true≢false, ◌&&◌}
use borrow.Author.Tests.{eqb-true, eqb-false, ltb-true, ltb-false, lt-ltb}
use lib.Dec.{eqb, ltb, leb}
use lib.ListN.{length, get_or, take, drop, length-drop}
use lib.Seq.{length-take-le, get_or-take, get_or-drop}
use Rattle.scan.specs.Reading.{run}
use Rattle.scan.proofs.Test.{by, and_left, neither}
use Rattle.block.specs.Reading.{blank_line, block_rest, block_length}
use Rattle.block.proofs.Parts.{block_some, other_some}
use Rattle.definition.specs.Reading.{paragraph_end}
use Rattle.walk.specs.Reading.{next_of}
use Rattle.walk.specs.Promise.{LineEnds}

-- after the byte b the block goes on over some of s, and ends before the rest: an LF is the last that it takes
rest_lf : (b : ℕ) (s : List ℕ) → block_rest (eqb b 10) s < length s → get_or (b ∷ s) (block_rest (eqb b 10) s) 0 ≡ 10
unfolding block_rest
rest_lf b [] h = let no : ⊥ = omega arith in absurd no
rest_lf b (a ∷ s) h =
    by (eqb b 10 && blank_line (a ∷ s)) (λ e. rw (e, block_rest) (eqb-true b 10 (and_left (eqb b 10) (blank_line (a ∷ s)) e)))
    (λ e.
    let h' : suc (block_rest (eqb a 10) s) < length (a ∷ s) = rw (e, block_rest) at h in
    rw (e, block_rest) (rest_lf a s (omega arith)))

block_lf : (s : List ℕ) → block_length s < length s → get_or s (block_length s - 1) 0 ≡ 10
unfolding block_length block_rest
block_lf [] h = let no : ⊥ = omega arith in absurd no
block_lf (b ∷ s) h =
    let size : block_length (b ∷ s) - 1 ≡ block_rest (eqb b 10) s = omega arith in
    ap (λ (n : ℕ). get_or (b ∷ s) n 0) size ∙ rest_lf b s (omega arith)

-- a line that is not blank does not start with an LF
no_lf : (s : List ℕ) → blank_line s ≡ false → get_or s 0 0 ≡ 10 → ⊥
unfolding blank_line run
no_lf [] e q = omega arith
no_lf (b ∷ s) e q = true≢false (neither (leb (length (b ∷ s)) 0) true (rw q at e)).1

-- ---- the block from place i on
module _ (s : List ℕ) (i : ℕ) (other : blank_line (drop i s) ≡ false) where
  pub block_lined : LineEnds s (i + block_length (drop i s))
  block_lined p h =
      let k : block_length (drop i s) < length (drop i s) = omega (arith, length-drop i s) in
      let some = block_some (drop i s) (other_some (drop i s) other) in
      let place : i + block_length (drop i s) - 1 ≡ i + (block_length (drop i s) - 1) = omega arith in
      ap (λ (n : ℕ). get_or s n 0) place ∙ sym (get_or-drop i s (block_length (drop i s) - 1) 0) ∙ block_lf (drop i s) k

  pub block_room : i + block_length (drop i s) < length s → i + 2 ≤ i + block_length (drop i s)
  block_room h =
      let some = block_some (drop i s) (other_some (drop i s) other) in
      by (ltb 1 (block_length (drop i s))) (λ e. omega (arith, ltb-true 1 (block_length (drop i s)) e))
      (λ e.
      let one : block_length (drop i s) ≡ 1 = omega (arith, ltb-false 1 (block_length (drop i s)) e) in
      let lf = block_lf (drop i s) (omega (arith, length-drop i s)) in
      absurd (no_lf (drop i s) other (rw one at lf)))

-- ---- the text up to place z, where a line ends
module _ (s : List ℕ) (z : ℕ) (some : 0 < z) (inside : z ≤ length s) (lined : LineEnds s z) where
  pub ends_next : next_of s (paragraph_end (take z s)) ≡ z
  unfolding next_of paragraph_end
  ends_next =
      rw (length-take-le z s inside, get_or-take z s (z - 1) 0 (omega arith))
      (by (eqb (get_or s (z - 1) 0) 10) (λ e. rw (e, lt-ltb (z - 1) (length s) (omega arith)) (omega arith))
      (λ e.
      by (ltb z (length s)) (λ l. absurd (eqb-false (get_or s (z - 1) 0) 10 e (lined some (ltb-true z (length s) l)))) (λ l. rw (e, l))))
