-- What is claimed of the places in a row.
use Rattle.std.specs.Prelude.{ℕ, ◌+◌, ◌≤◌, ◌≡◌, List, length, get_or}
use Rattle.std.proofs.Math.Option.{Option, none, some}
use Rattle.row.specs.declared.Range.{Range}
use Rattle.span.specs.Row.{width}
use Rattle.inline.specs.Rows.{row_end}

-- a row has its width, and its span and text lie within a paragraph of n bytes at place `offset`, the text within the span
pub record RowWithin (offset n : ℕ) (row : List ℕ) : Type 0 where
  pub wide : length row ≡ width
  pub from : offset ≤ get_or row 1 0
  pub text_from : get_or row 1 0 ≤ get_or row 3 0
  pub text_ordered : get_or row 3 0 ≤ get_or row 4 0
  pub text_to : get_or row 4 0 ≤ row_end row
  pub to : row_end row ≤ offset + n

-- a part, where there is one, lies between two places
abbrev pub PartBetween : ℕ → ℕ → Option Range → Type 0
PartBetween lo hi none = Unit {0}
PartBetween lo hi (some r) = (lo ≤ r.start) × (r.start ≤ r.end) × (r.end ≤ hi)
