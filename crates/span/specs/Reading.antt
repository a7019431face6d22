-- Reading spans and their lines back from a table.
use Rattle.std.specs.Prelude.{ℕ, ◌+◌, ◌*◌, List, get_or}
use Rattle.row.specs.Reading.{range_at}
use Rattle.span.specs.declared.Span.{Span}
use Rattle.span.specs.Row.{width, span}

-- the span whose row is row k
abbrev pub span_at : List ℕ → ℕ → Span
span_at t k =
    let at = k * width in
    span (get_or t at 0) (range_at t (at + 1)) (range_at t (at + 3)) (get_or t (at + 5) 0) (range_at t (at + 6)) (range_at t (at + 8))

-- the line in row k
abbrev pub line_in : List ℕ → ℕ → ℕ
line_in t k = get_or t (k * width + 10) 0
