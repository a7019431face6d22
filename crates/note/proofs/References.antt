-- Demand 2 in the span rows: a reference's definition is the first of the joined list whose label equals the one that stands in the note.
use Prim.Native.Nat.{ℕ, ◌+◌, ◌-◌, ◌≤◌}
use native.Mathlib.Omega.{arith}
use mathlib.Core.Path.{◌≡◌, refl, sym, ap, ◌∙◌, subst}
use mathlib.Core.Bool.{true, false, true≢false}
use mathlib.Core.List.{List, [], ◌∷◌, ◌++◌}
use lib.ListN.{length, get_or, take, drop, length-map}
use lib.Seq.{drop-drop, take_at}
use Rattle.marking.specs.Marking.{Sort, link, image, Piece, Marking}
use Rattle.scan.specs.Member.{In}
use Rattle.marking.specs.Spans.{Span, code_span, pair_span, SpanOf}
use Rattle.texts.specs.Texts.{Texts, text_of}
use Rattle.block.specs.Block.{Placed}
use Rattle.row.specs.Row.{range, Listed, definitions_of}
use Rattle.row.specs.First.{bytes_of, labels_of, past_end, named_text, FirstEqual}
use Rattle.joined.specs.Reading.{joined}
use Rattle.definition.proofs.NotePlaces.{Inside}
use Rattle.span.specs.Row.{is_reference}
use Rattle.inline.specs.Tails.{Tail, full, collapsed, shortcut, LabelFollows, InlineFollows, empty, untitled, titled, TailOf, first, second, third, third_alone}
use Rattle.inline.specs.Rows.{Target, defined, target_of}
use Rattle.inline.specs.Claims.{RowWithin}
use Rattle.inline.specs.ReadingRows.{tail_kind, kind_number, span_row}
use Rattle.note.specs.Note.{MarkingOf, Marked}
use Rattle.note.specs.Claims.{looked_up, RefersTo}
use Rattle.note.specs.Reading.{span_rows}
use Rattle.note.proofs.Markings.{list_is_read}
use Rattle.note.proofs.Named.{defined_at, named_at}
use Rattle.note.proofs.Spans.{link_read}
use Rattle.note.proofs.Placing.{from_span, at_get_d, part_bytes}

no_reference : {s : List ℕ} {at : ℕ} {t : Tail} (x : Sort) → InlineFollows s at t → is_reference (tail_kind x t) ≡ false
no_reference link (empty body rest op cl) = refl
no_reference image (empty body rest op cl) = refl
no_reference link (untitled body content more rest from op de cl) = refl
no_reference image (untitled body content more rest from op de cl) = refl
no_reference link (titled body content more quoted content' after rest from op de ap' ti cl) = refl
no_reference image (titled body content more quoted content' after rest from op de ap' ti cl) = refl

-- the label after `[`, as bytes of the paragraph
label_bytes : (p : List ℕ) (c : ℕ) (label : List ℕ) → LabelFollows (drop (c + 1) p) label → take (length label) (drop (c + 2) p) ≡ label
label_bytes p c label f =
    let e : drop (c + 2) p ≡ label ++ 93 ∷ f.rest = ap (λ (k : ℕ). drop k p) (let z : c + 2 ≡ (c + 1) + 1 = omega arith in z) ∙ sym (drop-drop 1 (c + 1) p) ∙ ap (drop 1) f.whole in
    ap (take (length label)) e ∙ take_at label (93 ∷ f.rest) (length label) refl

module _ (T : Texts) (q : Placed) (w : Inside T.note q) (x : Sort) (o d : Piece) where
  abbrev row_of : Tail → List ℕ
  row_of t = span_row T.note q.at q.bytes (definitions_of (joined T)) (pair_span x o d t)

  abbrev text_in : List ℕ
  text_in = take (d.start - o.end) (drop o.end q.bytes)

  abbrev Lies : Tail → Type 0
  Lies t = RowWithin q.at (length q.bytes) (row_of t)

  -- where the label stands that each reference is looked up by
  full_looked : (n k : ℕ) → looked_up (row_of (full n k)) ≡ range (q.at + d.start + 2) (q.at + (d.end + n) - 1)
  full_looked n k =
      elim x as (λ (y : Sort). looked_up (span_row T.note q.at q.bytes (definitions_of (joined T)) (pair_span y o d (full n k))) ≡ range (q.at + d.start + 2) (q.at + (d.end + n) - 1))
      [ link ↦ refl | image ↦ refl ]

  collapsed_looked : (k : ℕ) → looked_up (row_of (collapsed k)) ≡ range (q.at + o.end) (q.at + d.start)
  collapsed_looked k =
      elim x as (λ (y : Sort). looked_up (span_row T.note q.at q.bytes (definitions_of (joined T)) (pair_span y o d (collapsed k))) ≡ range (q.at + o.end) (q.at + d.start))
      [ link ↦ refl | image ↦ refl ]

  shortcut_looked : (k : ℕ) → looked_up (row_of (shortcut k)) ≡ range (q.at + o.end) (q.at + d.start)
  shortcut_looked k =
      elim x as (λ (y : Sort). looked_up (span_row T.note q.at q.bytes (definitions_of (joined T)) (pair_span y o d (shortcut k))) ≡ range (q.at + o.end) (q.at + d.start))
      [ link ↦ refl | image ↦ refl ]

  -- the row of a tail whose target is definition k, found by a label that stands in the note
  refers : (t : Tail) (label : List ℕ) (k : ℕ) → target_of q.at (definitions_of (joined T)) (pair_span x o d t) ≡ defined (definitions_of (joined T)) k → bytes_of T.note (looked_up (row_of t)) ≡ label
      → FirstEqual (labels_of T (joined T)) label k → RefersTo T (joined T) (row_of t)
  refers t label k e b f =
      record {
        index = k;
        first_equal = subst (λ (l : List ℕ). FirstEqual (labels_of T (joined T)) l k) (sym b) f;
        entry = get_or (joined T) k past_end;
        is_there = at_get_d (joined T) k past_end (omega (arith, f.within, length-map (joined T) (λ (j : Listed). bytes_of (text_of T j.text) j.definition.label)));
        number_is = ap (λ (y : Target). y.number) e;
        target_is = ap (λ (y : Target). y.destination.start ∷ y.destination.end ∷ y.title.start ∷ y.title.end ∷ []) (e ∙ defined_at (joined T) k);
        text_is = ap (λ (y : Target). named_text T (joined T) y.number) e ∙ named_at T (joined T) k;
      }

  second_label : (label : List ℕ) (k : ℕ) → d.end ≡ d.start + 1 → Lies (full (length label + 2) k) → LabelFollows (drop (d.start + 1) q.bytes) label
      → bytes_of T.note (looked_up (row_of (full (length label + 2) k))) ≡ label
  second_label label k e r f =
      let h : (d.start + 2) + length label ≤ length q.bytes = omega (arith, r.to) in
      ap (bytes_of T.note) (full_looked (length label + 2) k)
      ∙ part_bytes T.note q w (d.start + 2) (length label) h (q.at + d.start + 2) (q.at + (d.end + (length label + 2)) - 1) (omega arith) (omega arith)
      ∙ label_bytes q.bytes d.start label f

  text_label : (t : Tail) → Lies t → d.end ≡ d.start + 1 → bytes_of T.note (range (q.at + o.end) (q.at + d.start)) ≡ text_in
  text_label t r e =
      part_bytes T.note q w o.end (d.start - o.end) (omega (arith, r.text_ordered, r.text_to, r.to)) (q.at + o.end) (q.at + d.start) refl (omega (arith, r.text_ordered))

  tail_refers : {t : Tail} → d.end ≡ d.start + 1 → Lies t → TailOf (labels_of T (joined T)) text_in (drop (d.start + 1) q.bytes) (d.start + 1) t
      → is_reference (kind_number (pair_span x o d t)) ≡ true → RefersTo T (joined T) (row_of t)
  tail_refers e r (first i) h = absurd (true≢false (sym h ∙ no_reference x i))
  tail_refers e r (second label {k} a b f) h = refers (full (length label + 2) k) label k refl (second_label label k e r b) f
  tail_refers e r (third {k} a b l f y) h = refers (collapsed k) text_in k refl (ap (bytes_of T.note) (collapsed_looked k) ∙ text_label (collapsed k) r e) f
  tail_refers e r (third_alone {k} a b l f y) h = refers (shortcut k) text_in k refl (ap (bytes_of T.note) (shortcut_looked k) ∙ text_label (shortcut k) r e) f

module _ (T : Texts) where
  span_refers : (q : Placed) → Inside T.note q → (m : Marking Tail) → MarkingOf T (joined T) q m → (x : Span Tail) → SpanOf m x
      → RowWithin q.at (length q.bytes) (span_row T.note q.at q.bytes (definitions_of (joined T)) x) → is_reference (kind_number x) ≡ true → RefersTo T (joined T) (span_row T.note q.at q.bytes (definitions_of (joined T)) x)
  span_refers q w m c (code_span p) y r h = absurd (true≢false (sym h))
  span_refers q w m c (pair_span x o d t) y r h =
      let l = link_read q.bytes (labels_of T (joined T)) m c x o d t y in
      tail_refers T q w x o d l.one_bracket r l.reads h

  refers_to : (row : List ℕ) → In row (span_rows T) → is_reference (get_or row 0 0) ≡ true → RefersTo T (joined T) row
  refers_to row i h =
      let f = from_span T row i in
      let q = f.paragraph in
      let e = f.row_is in
      let k : is_reference (kind_number f.span) ≡ true = subst (λ (x : List ℕ). is_reference (get_or x 0 0) ≡ true) (sym e) h in
      subst (RefersTo T (joined T)) e (span_refers q f.inside f.marking f.meets f.span f.of_marking (subst (RowWithin q.at (length q.bytes)) (sym e) f.within) k)

  -- rows of the kinds 3, 4 and 5, and of 7, 8 and 9
  pub references_refer : (n : Marked T) (row : List ℕ) → In row (span_rows T) → is_reference (get_or row 0 0) ≡ true → RefersTo T n.list row
  references_refer n row i h = subst (λ (js : List Listed). RefersTo T js row) (list_is_read T n) (refers_to row i h)
