-- The rows of a paragraph's spans, computed.
use Rattle.std.specs.Prelude.{ℕ, ◌+◌, ◌-◌, List, map, drop}
use Rattle.scan.specs.Reading.{run}
use Rattle.marking.specs.Spans as marked
use Rattle.marking.specs.Marking.{Sort, link, image}
use Rattle.marking.specs.Spans.{code_span, pair_span}
use Rattle.marking.specs.ReadingSpans.{spans}
use Rattle.row.specs.declared.Range.{Range}
use Rattle.row.specs.declared.Definition.{Definition}
use Rattle.row.specs.Row.{range}
use Rattle.span.specs.declared.Span.{Span}
use Rattle.span.specs.Row.{span, numbers, code_span_kind, inline_kind, full_kind, collapsed_kind, shortcut_kind, inline_image_kind, full_image_kind, collapsed_image_kind, shortcut_image_kind}
use Rattle.inline.specs.Pieces.{backtick}
use Rattle.inline.specs.Tails.{Tail, inline, full, collapsed, shortcut}
use Rattle.inline.specs.Reading.{grammar}
use Rattle.inline.specs.Rows.{Target, whole_of, link_text, from_note, target_of}

-- of a link or an image
abbrev pub tail_kind : Sort → Tail → ℕ
tail_kind link (inline n d t) = inline_kind
tail_kind link (full n k) = full_kind
tail_kind link (collapsed k) = collapsed_kind
tail_kind link (shortcut k) = shortcut_kind
tail_kind image (inline n d t) = inline_image_kind
tail_kind image (full n k) = full_image_kind
tail_kind image (collapsed k) = collapsed_image_kind
tail_kind image (shortcut k) = shortcut_image_kind

abbrev pub kind_number : marked.Span Tail → ℕ
kind_number (code_span q) = code_span_kind
kind_number (pair_span x o c t) = tail_kind x t

abbrev pub text_of : List ℕ → marked.Span Tail → Range
text_of p (code_span q) = let n = run backtick (drop q.start p) in range (q.start + n) (q.end - n)
text_of p (pair_span x o c t) = link_text o c

-- a span of the paragraph p, which starts at place `offset` of the note s, and its row; ds are the definitions
abbrev pub row_for : ℕ → List ℕ → List Definition → marked.Span Tail → Span
row_for offset p ds x =
    let t : Target = target_of offset ds x in span (kind_number x) (from_note offset (whole_of x)) (from_note offset (text_of p x)) t.number t.destination t.title

abbrev pub span_row : List ℕ → ℕ → List ℕ → List Definition → marked.Span Tail → List ℕ
span_row s offset p ds x = numbers s (row_for offset p ds x)

-- of all spans that are read, in order
abbrev pub span_rows : List ℕ → ℕ → List ℕ → List (List ℕ) → List Definition → List (List ℕ)
span_rows s offset p labels ds = map (span_row s offset p ds) (spans (grammar p labels))
