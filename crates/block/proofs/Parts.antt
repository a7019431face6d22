-- The parts that a note is read by, blank lines and blocks: each has a byte, lies within the note, and is one leap. A block is read line by line.
use Prim.Native.Nat.{ℕ, zero, suc, ◌+◌, ◌-◌, ◌≤◌, ◌<◌}
use native.Mathlib.Omega.{arith}
use mathlib.Core.Path.{◌≡◌, refl, sym, ap, ◌∙◌}
use mathlib.Core.List.{List, [], ◌∷◌, ◌++◌}
use mathlib.Core.Bool.{Bool, true, false, true≢false, ◌&&◌}
use lib.ListN.{length, take, drop, length-drop}
use lib.Seq.{drop-drop}
use lib.Dec.{eqb}
use Rattle.std.specs.Bool.{beq}
use Rattle.scan.proofs.Test.{by}
use Rattle.scan.specs.Reading.{run, past_strides, leap}
use Rattle.scan.proofs.Leap.{leap_cons}
use Rattle.scan.proofs.Strides.{told_apart, strides_through}
use Rattle.block.specs.Reading.{blank_line, line_length, block_rest, block_length, part_length, block_here}

pub line_some : (s : List ℕ) → 0 < length s → 0 < line_length s
unfolding line_length
line_some [] h = h
line_some (b ∷ s) h = by (eqb b 10) (λ e. rw (e, line_length) (omega arith)) (λ e. rw (e, line_length) (omega arith))

pub line_fits : (s : List ℕ) → line_length s ≤ length s
unfolding line_length
line_fits [] = omega arith
line_fits (b ∷ s) = by (eqb b 10) (λ e. rw (e, line_length) (omega arith)) (λ e. rw (e, line_length) (let h = line_fits s in omega arith))

-- it is m, or where `same` is not so, it is not
abbrev pub like : ℕ → Bool → ℕ → Bool
like m same b = beq (eqb b m) same

-- strides without an LF are within the line
line_byte : (b : ℕ) (l : List ℕ) (k : ℕ) → like 10 false b ≡ true → k + line_length (b ∷ l) ≡ k + 1 + line_length l
unfolding line_length
line_byte b l k e = rw (told_apart (like 10 false) b 10 e refl, line_length) (omega arith)

pub line_strides : (s : List ℕ) (at : ℕ) {i : ℕ} → i ≡ past_strides (like 10 false) s at → i + line_length (drop i s) ≡ at + line_length (drop at s)
line_strides s at e = rw e (strides_through (like 10 false) (λ (l : List ℕ) (k : ℕ). k + line_length l) line_byte s at)

-- the next line starts later
pub line_less : (s : List ℕ) (i : ℕ) {n : ℕ} → i < length s → n ≡ i + line_length (drop i s) → length s - n < length s - i
line_less s i h e = omega (arith, line_some (drop i s) (omega (arith, length-drop i s)))

rest_fits : (fresh : Bool) (s : List ℕ) → block_rest fresh s ≤ length s
unfolding block_rest
rest_fits fresh [] = omega arith
rest_fits fresh (b ∷ s) =
    by (fresh && blank_line (b ∷ s)) (λ e. rw (e, block_rest) (omega arith))
    (λ e. rw (e, block_rest) (let h = rest_fits (eqb b 10) s in omega arith))

-- ---- where a line starts a block ends, or goes on as within the line
pub fresh_over : (s : List ℕ) → blank_line s ≡ true → block_rest true s ≡ 0
unfolding block_rest
fresh_over [] e = refl
fresh_over (b ∷ s) e = rw (e, block_rest)

pub fresh_on : (s : List ℕ) → blank_line s ≡ false → block_rest true s ≡ block_rest false s
unfolding block_rest
fresh_on [] e = refl
fresh_on (b ∷ s) e = rw (e, block_rest)

-- within a line it goes on to the next
rest_next : (s : List ℕ) → block_rest false s ≡ line_length s + block_rest true (drop (line_length s) s)
unfolding line_length block_rest
rest_next [] = refl
rest_next (b ∷ s) =
    by (eqb b 10) (λ e. let q : line_length (b ∷ s) ≡ 1 = rw (e, line_length) in rw (q, e) (omega arith))
    (λ e. let q : line_length (b ∷ s) ≡ suc (line_length s) = rw (e, line_length) in rw (q, e) (let h = rest_next s in omega arith))

-- ---- a loop over the lines of a block: from the first line on, and with its invariant in hand; p and n are what calls answered
module _ (s : List ℕ) (i : ℕ) where
  pub block_starts : {n : ℕ} → n ≡ i + line_length (drop i s) → n + block_rest true (drop n s) ≡ i + block_length (drop i s)
  unfolding block_length
  block_starts e = rw (e, ← drop-drop (line_length (drop i s)) i s) (let h = rest_next (drop i s) in omega arith)

  module _ {r : ℕ} (inv : i + block_rest true (drop i s) ≡ r) where
    pub block_on : {p : Bool} {n : ℕ} → p ≡ blank_line (drop i s) → p ≡ false → n ≡ i + line_length (drop i s) → n + block_rest true (drop n s) ≡ r
    unfolding block_length
    block_on e k q = block_starts q ∙ ap (λ (m : ℕ). i + m) (sym (fresh_on (drop i s) (sym e ∙ k))) ∙ inv

    pub block_stop : {p : Bool} → p ≡ blank_line (drop i s) → p ≡ true → i ≡ r
    block_stop e k = let h = fresh_over (drop i s) (sym e ∙ k) in omega (arith, inv)

    pub block_done : length s ≤ i → i ≡ r
    block_done h = let q = rest_fits true (drop i s) in omega (arith, inv, length-drop i s)

pub block_some : (s : List ℕ) → 0 < length s → 0 < block_length s
unfolding block_length block_rest
block_some [] h = h
block_some (b ∷ s) h = omega arith

pub block_fits : (s : List ℕ) → block_length s ≤ length s
unfolding block_length
block_fits s = rest_fits false s

-- where a line is not blank the note has not ended
pub other_some : (s : List ℕ) → blank_line s ≡ false → 0 < length s
unfolding blank_line run
other_some [] h = absurd (true≢false h)
other_some (b ∷ s) h = omega arith

one_leap : (s : List ℕ) (at k : ℕ) → part_length s ≡ k → 0 < length s → 0 < k
    → leap part_length block_here 0 s at ≡ block_here s at ++ leap part_length block_here 0 (drop k s) (at + k)
one_leap [] at k e h p = let no : ⊥ = omega arith in absurd no
one_leap (b ∷ s) at zero e h p = let no : ⊥ = omega arith in absurd no
one_leap (b ∷ s) at (suc k) e h p = leap_cons part_length block_here b s at k e

pub leap_blank : (s : List ℕ) (at : ℕ) → 0 < length s → blank_line s ≡ true
    → leap part_length block_here 0 s at ≡ leap part_length block_here 0 (drop (line_length s) s) (at + line_length s)
unfolding part_length block_here
leap_blank s at h e = one_leap s at (line_length s) (rw e) h (line_some s h) ∙ rw e

pub leap_block : (s : List ℕ) (at : ℕ) → blank_line s ≡ false
    → leap part_length block_here 0 s at
    ≡ record { at = at; bytes = take (block_length s) s } ∷ leap part_length block_here 0 (drop (block_length s) s) (at + block_length s)
unfolding part_length block_here
leap_block s at e = let h = other_some s e in one_leap s at (block_length s) (rw e) h (block_some s h) ∙ rw e
