-- How far rows reach: none is empty, the text of a link or an image lies within its span, and a span lies within its paragraph.
use Prim.Native.Nat.{ℕ, ◌+◌, ◌≤◌, ◌<◌}
use native.Mathlib.Omega.{arith}
use mathlib.Core.Path.{◌≡◌, ap, ◌∙◌, subst}
use mathlib.Core.List.{List}
use mathlib.Core.Bool.{false, true≢false}
use lib.ListN.{length}
use Rattle.marking.specs.Marking.{Marking}
use Rattle.scan.specs.Member.{In}
use Rattle.marking.specs.Spans.{Span, code_span, pair_span, SpanOf}
use Rattle.texts.specs.Texts.{Texts}
use Rattle.block.specs.Block.{Placed}
use Rattle.row.specs.Row.{Listed, definitions_of}
use Rattle.row.specs.First.{labels_of}
use Rattle.inline.specs.Tails.{Tail}
use Rattle.inline.specs.Rows.{whole_of, row_end}
use Rattle.inline.proofs.SpanBounds.{span_within}
use Rattle.inline.proofs.SpanRows.{row_read}
use Rattle.note.specs.Note.{MarkingOf, Marked, RowOf}
use Rattle.note.specs.Reading.{span_rows}
use Rattle.note.proofs.Markings.{marked}
use Rattle.note.proofs.Members.{pair_at}
use Rattle.note.proofs.Rows.{in_rows_iff}
use Rattle.note.proofs.Spans.{link_read, code_some}
use Rattle.page.specs.Reading.{is_code, row_start, text_start, text_end}
use Rattle.page.proofs.Pieces.{row_in}

module _ (T : Texts) (js : List Listed) (q : Placed) (m : Marking Tail) (c : MarkingOf T js q m) where
  span_some : (x : Span Tail) → SpanOf m x → row_start (row_in T js q x) < row_end (row_in T js q x)
  span_some (code_span y) o = omega (arith, code_some q.bytes (labels_of T js) m c y o)
  span_some (pair_span x a b t) o =
      let r = link_read q.bytes (labels_of T js) m c x a b t o in
      let w = span_within q.bytes (labels_of T js) m c (pair_span x a b t) o in
      omega (arith, r.some_bracket, r.one_bracket, w.text_ordered)

  -- the text of a row
  abbrev TextLies : List ℕ → Type 0
  TextLies r = (row_start r < text_start r) × (text_start r ≤ text_end r) × (text_end r < row_end r)

  pub pair_ends : (x : Span Tail) → SpanOf m x → is_code (row_in T js q x) ≡ false → TextLies (row_in T js q x)
  pair_ends (code_span y) o e = absurd (true≢false e)
  pair_ends (pair_span x a b t) o e =
      let r = link_read q.bytes (labels_of T js) m c x a b t o in
      let w = span_within q.bytes (labels_of T js) m c (pair_span x a b t) o in
      (omega (arith, r.some_bracket), omega (arith, w.text_ordered), omega (arith, r.one_bracket))

module _ (T : Texts) (n : Marked T) where
  -- the row of a span as it is read
  pub read : (row : List ℕ) (r : RowOf T.note (definitions_of n.list) n.paragraphs n.markings row) → row_in T n.list r.paragraph r.span ≡ row
  read row r = row_read T.note r.paragraph.at r.paragraph.bytes (definitions_of n.list) r.row_is

  pub row_reaches : (row : List ℕ) (r : RowOf T.note (definitions_of n.list) n.paragraphs n.markings row)
      → (r.paragraph.at ≤ row_start row) × (row_start row ≤ row_end row) × (row_end row ≤ r.paragraph.at + length r.paragraph.bytes)
  row_reaches row r =
      let c = pair_at n.each r.index r.paragraph r.marking r.paragraph_at r.marking_at in
      let w = span_within r.paragraph.bytes (labels_of T n.list) r.marking c r.span r.of_marking in
      let st : r.paragraph.at + (whole_of r.span).start ≡ row_start row = ap row_start (read row r) in
      let en : r.paragraph.at + (whole_of r.span).end ≡ row_end row = ap row_end (read row r) in
      (omega arith, omega (arith, w.text_from, w.text_ordered, w.text_to), omega (arith, w.to))

module _ (T : Texts) where
  pub row_some : (row : List ℕ) → In row (span_rows T) → row_start row < row_end row
  row_some row i =
      let r = (in_rows_iff T (marked T) row).0 i in
      let c = pair_at (marked T).each r.index r.paragraph r.marking r.paragraph_at r.marking_at in
      subst (λ (x : List ℕ). row_start x < row_end x) (read T (marked T) row r) (span_some T (marked T).list r.paragraph r.marking c r.span r.of_marking)

  pub link_text : (row : List ℕ) → In row (span_rows T) → is_code row ≡ false → (row_start row < text_start row) × (text_start row ≤ text_end row) × (text_end row < row_end row)
  link_text row i e =
      let r = (in_rows_iff T (marked T) row).0 i in
      let c = pair_at (marked T).each r.index r.paragraph r.marking r.paragraph_at r.marking_at in
      subst (λ (x : List ℕ). (row_start x < text_start x) × (text_start x ≤ text_end x) × (text_end x < row_end x)) (read T (marked T) row r)
      (pair_ends T (marked T).list r.paragraph r.marking c r.span r.of_marking (ap is_code (read T (marked T) row r) ∙ e))
