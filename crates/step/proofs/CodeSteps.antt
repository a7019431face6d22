-- Backticks at a place: a code span to the end of the run that closes it, or plain text.
use Rattle.std.specs.Prelude.{None, Option, Some}
use Prim.Native.Nat.{ℕ, ◌+◌, ◌-◌, ◌≤◌, ◌<◌, ◌^◌}
use native.Mathlib.Omega.{arith}
use mathlib.Core.Path.{◌≡◌, sym, ap, ◌∙◌}
use mathlib.Core.List.{List}
use mathlib.Core.Bool.{false}
use borrow.Author.Tests.{eq-eqb}
use lib.ListN.{length, get_or, drop, length-drop}
use Rattle.scan.specs.Reading.{run, past}
use Rattle.marking.specs.Marking.{code, plain}
use Rattle.marking.specs.Spans.{code_span}
use Rattle.row.specs.declared.Range.{Range}
use Rattle.row.specs.declared.Definition.{Definition}
use Rattle.row.specs.Row.{range}
use Rattle.span.specs.declared.Span.{Span}
use Rattle.span.specs.Row as row
use Rattle.inline.specs.Pieces.{backtick}
use Rattle.inline.specs.ReadingPieces.{closing_run, piece, span_or_text, ticked, piece_from}
use Rattle.inline.proofs.Turns.{from_backticks}
use Rattle.inline.proofs.PieceBounds.{closing_run_within, run_fits}
use Rattle.ticks.proofs.Passing.{past_halts, past_some}
use Rattle.inline.specs.ReadingRows.{row_for}
use Rattle.step.specs.Promise.{BacktickAt}
use Rattle.step.specs.declared.Walk.{Walk}
use Rattle.inline.proofs.Pieces.{no_escape}

module _ (p : List ℕ) (w : Walk) (b : BacktickAt p w) (first : ℕ) (ea : first ≡ past backtick p w.at) where
  abbrev n : ℕ
  n = first - w.at

  run_is : n ≡ run backtick (drop w.at p)
  unfolding past
  run_is = omega arith

  pub first_after : w.at ≤ first
  unfolding past
  first_after = omega arith

  pub first_inside : first ≤ length p
  first_inside = omega (arith, b.inside, run_is, first_after, run_fits backtick (drop w.at p), length-drop w.at p)

  -- what the search for the closing run asks
  pub first_halts : backtick (get_or p first 0) ≡ false
  first_halts = rw ea (past_halts p w.at)

  pub first_some : 0 < first - w.at
  first_some = omega (arith, past_some p w.at b.inside b.tick, ea)

  ticks : piece_from p w.at ≡ span_or_text w.at first (closing_run n (drop first p) first)
  ticks =
      let e : w.at + n ≡ first = omega (arith, first_after) in
      from_backticks p w.at (no_escape p w.at (λ q. omega (arith, b.tick))) (eq-eqb (get_or p w.at 0) 96 b.tick)
      ∙ ap (ticked p w.at) (sym run_is)
      ∙ ap (λ (a : ℕ). span_or_text w.at a (closing_run n (drop a p) a)) e

  module _ {f : Option ℕ} (ef : f ≡ closing_run n (drop first p) first) where
    pub text_here : f ≡ None → piece_from p w.at ≡ piece plain w.at first
    text_here q = ticks ∙ ap (span_or_text w.at first) (sym ef ∙ q)

    module _ (e : ℕ) (q : f ≡ Some e) where
      pub code_here : piece_from p w.at ≡ piece code w.at e
      code_here = ticks ∙ ap (span_or_text w.at first) (sym ef ∙ q)

      pub code_ends : (first ≤ e) × (e ≤ length p)
      code_ends = let l = closing_run_within n (drop first p) first e (sym ef ∙ q) in omega (arith, first_inside, length-drop first p)

      module _ (start : ℕ) {r : Span} {whole text : Range} (er : r ≡ row.code_span_row whole text) (ew : whole ≡ range (start + w.at) (start + e))
          (ex : text ≡ range (start + first) (start + (e - n))) where
        pub code_row : (ds : List Definition) → r ≡ row_for start p ds (code_span (piece code w.at e))
        code_row ds =
            let m : first ≡ w.at + run backtick (drop w.at p) = omega (arith, first_after, run_is) in
            rw (er, ew, ex, run_is, m)

        pub code_small : start + length p < 2 ^ 32 → row.Small r
        code_small h =
            let l = code_ends in
            rw (er, ew, ex)
            (record {
              whole = record { start = omega (arith, b.inside); end = omega arith };
              text = record { start = omega arith; end = omega arith };
              definition = omega arith;
              destination = record { start = omega arith; end = omega arith };
              title = record { start = omega arith; end = omega arith };
            })
