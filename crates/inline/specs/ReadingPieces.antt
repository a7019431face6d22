-- The piece that starts at a place, by the bytes there.
use Rattle.std.specs.Prelude.{ℕ, ◌+◌, List, Bool, true, false, cond, not, ◌&&◌, ◌||◌, get_or, drop, eqb, None, Option, Some}
use Rattle.scan.specs.Byte.{escapes}
use Rattle.scan.specs.Reading.{Step, stop, next, scan, run}
use Rattle.marking.specs.Marking.{Kind, Piece, link, image, escape, code, plain, opens, closes}
use Rattle.inline.specs.Pieces.{backtick, image_opens, marks}

-- ---- where the run of backticks that closes a code span ends: one pass, with a count of the backticks just before the place
-- a place, and how many backticks stand just before it
pub record Counted : Type 0 where
  pub at : ℕ
  pub count : ℕ

unfoldable pub count_after : ℕ → ℕ → ℕ
count_after c b = cond (backtick b) (c + 1) 0

module _ (n : ℕ) where
  unfoldable pub run_step : Counted → ℕ → List ℕ → Step Counted (Option ℕ)
  run_step t b s =
      cond (not (backtick b) && eqb t.count n) (stop (Some t.at)) (next (record { at = t.at + 1; count = count_after t.count b }))

  unfoldable pub run_done : Counted → Option ℕ
  run_done t = cond (eqb t.count n) (Some t.at) None

  abbrev pub run_from : List ℕ → Counted → Option ℕ
  run_from = scan run_step run_done

  -- where the first maximal run of exactly n ends, in a text that starts at place `at` and not inside a run
  unfoldable pub closing_run : List ℕ → ℕ → Option ℕ
  closing_run s at = run_from s (record { at = at; count = 0 })

-- ---- the piece
-- bytes that start a piece of plain text whatever stands after them
abbrev pub quiet : ℕ → Bool
quiet b = not (marks b || eqb b 92 || eqb b 33)

abbrev pub piece : Kind → ℕ → ℕ → Piece
piece k a e = record { kind = k; start = a; end = e }

-- a run of backticks from a to e, by where the run that closes it ends
abbrev pub span_or_text : ℕ → ℕ → Option ℕ → Piece
span_or_text a e (Some c) = piece code a c
span_or_text a e None = piece plain a e

abbrev pub ticked : List ℕ → ℕ → ℕ → Piece
ticked p a n = span_or_text a (a + n) (closing_run n (drop (a + n) p) (a + n))

-- of a byte that starts neither an escape nor a run of backticks nor `![`
abbrev pub kind_of : ℕ → Kind
kind_of b = cond (eqb b 91) (opens link) (cond (eqb b 93) closes plain)

abbrev pub bracket_or_text : List ℕ → ℕ → Piece
bracket_or_text p a = cond (image_opens (drop a p)) (piece (opens image) a (a + 2)) (piece (kind_of (get_or p a 0)) a (a + 1))

unfoldable pub piece_from : List ℕ → ℕ → Piece
piece_from p a =
    elim (escapes (drop a p)) [
      | true ↦ piece escape a (a + 2)
      | false ↦ elim (backtick (get_or p a 0)) [ true ↦ ticked p a (run backtick (drop a p)) | false ↦ bracket_or_text p a ]
    ]
