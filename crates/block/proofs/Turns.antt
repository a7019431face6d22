-- The end of a line and a blank line from a place on.
use Prim.Native.Nat.{ℕ, ◌+◌, ◌≤◌, ◌<◌}
use native.Mathlib.Omega.{arith}
use mathlib.Core.Path.{◌≡◌, refl, sym, ◌∙◌}
use mathlib.Core.List.{List, [], ◌∷◌}
use lib.Dec.{eqb}
use lib.ListN.{length, get_or, drop, length-drop}
use lib.Seq.{get_or-drop}
use Rattle.scan.specs.Reading.{run, past, past_strides}
use Rattle.scan.proofs.Test.{by, leb_same}
use Rattle.scan.proofs.Scan.{run_yes, run_no, past_none, peek_inside}
use Rattle.scan.proofs.Strides.{past_through}
use Rattle.block.specs.Line.{padding, in_line}
use Rattle.block.specs.Reading.{line_ends, blank_line, line_length}

-- an end of line of what is left from a place on
ends_moved : (s : List ℕ) (at n : ℕ) → line_ends (drop at s) n ≡ line_ends s (at + n)
ends_moved s at n =
    rw (get_or-drop, leb_same (length (drop at s)) n (length s) (at + n) (λ h. omega (arith, length-drop at s)) (λ h. omega (arith, length-drop at s)))

pub blank_moved : (s : List ℕ) (at : ℕ) → line_ends s (past padding s at) ≡ blank_line (drop at s)
unfolding blank_line past
blank_moved s at = sym (ends_moved s at (run padding (drop at s)))

-- ---- a line is a run of bytes that are no LF, and the LF after it
line_fed : (l : List ℕ) → run in_line l < length l → line_length l ≡ run in_line l + 1
unfolding line_length
line_fed [] h = absurd (omega arith)
line_fed (b ∷ l) h =
    by (eqb b 10) (λ e. rw (e, line_length, run_no in_line b l (simp e)))
    (λ e. let q = run_yes in_line b l (simp e) in rw (e, line_length, q) (omega (arith, line_fed l (omega arith))))

line_ended : (l : List ℕ) → length l ≤ run in_line l → line_length l ≡ run in_line l
unfolding line_length run
line_ended [] h = refl
line_ended (b ∷ l) h =
    by (eqb b 10) (λ e. absurd (omega (arith, run_no in_line b l (simp e))))
    (λ e. let q = run_yes in_line b l (simp e) in rw (e, line_length, q) (omega (arith, line_ended l (omega arith))))

module _ (s : List ℕ) (at : ℕ) {end : ℕ} (e : end ≡ past in_line s at) where
  pub feed_taken : end < length s → end + 1 ≡ at + line_length (drop at s)
  unfolding past
  feed_taken h = omega (arith, line_fed (drop at s) (omega (arith, length-drop at s)))

  pub text_ended : length s ≤ end → end ≡ at + line_length (drop at s)
  unfolding past
  text_ended h = omega (arith, line_ended (drop at s) (omega (arith, length-drop at s)))

module _ (s : List ℕ) (at : ℕ) where
  pub empty_line : {b : ℕ} → b ≡ get_or s at 0 → b ≡ 10 → at + 1 ≡ at + line_length (drop at s)
  empty_line e f =
      let here : get_or s at 0 ≡ 10 = sym e ∙ f in
      feed_taken s at (past_none in_line s at (rw here refl)) (peek_inside s at (λ z. let no : ⊥ = omega (arith, here, z) in no))

  -- by strides, and then byte by byte
  pub line_past : {near end : ℕ} → near ≡ past_strides in_line s at → end ≡ past in_line s near → end ≡ past in_line s at
  line_past e f = f ∙ past_through in_line in_line (λ b q. q) s at e
