-- The row of a link or an image, and the definition that its tail names.
use Rattle.std.specs.Prelude.{ℕ, ◌+◌, ◌≤◌, ◌<◌, List, [], Bool, true, false}
use Rattle.marking.specs.Marking.{Sort, link, image, opens, closes}
use Rattle.marking.specs.Spans.{pair_span}
use Rattle.row.specs.declared.Definition.{Definition}
use Rattle.row.specs.Row.{whole_rows}
use Rattle.span.specs.declared.Span.{Span}
use Rattle.inline.specs.Tails.{Tail}
use Rattle.inline.specs.ReadingPieces.{piece}
use Rattle.inline.specs.ReadingRows.{row_for}
use Rattle.tail.specs.declared.Way.{Way}
use Rattle.tail.specs.declared.Way.TheVariants.{Parts, Full, Collapsed, Shortcut}

-- the sort of a pair, by whether `![` opens it
abbrev pub sort_by : Bool → Sort
sort_by true = image
sort_by false = link

-- where the text of a pair starts that opens at place o: after `[`, or after `![`
abbrev pub text_from : Bool → ℕ → ℕ
text_from true o = o + 2
text_from false o = o + 1

-- the row of a link or an image from its `[` or `![` at place o and its `]` at place c
abbrev pub pair_row : ℕ → List Definition → Bool → ℕ → ℕ → Tail → Span
pair_row offset ds b o c t = row_for offset [] ds (pair_span (sort_by b) (piece (opens (sort_by b)) o (text_from b o)) (piece closes c (c + 1)) t)

-- the definition that a tail names, if any, is one of the first `count` rows of the table
abbrev pub InRows : ℕ → List ℕ → ℕ → Type 0
InRows count t k = (k < count) × (count ≤ whole_rows t)

abbrev pub Names : ℕ → List ℕ → Way → Type 0
Names count t (Parts d e) = Unit {0}
Names count t (Full k) = InRows count t k
Names count t (Collapsed k) = InRows count t k
Names count t (Shortcut k) = InRows count t k
