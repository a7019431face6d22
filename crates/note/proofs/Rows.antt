-- The members of the list of rows: the rows of the links, images and code spans in the markings, and no others.
use Prim.Native.Nat.{ℕ, zero, suc}
use mathlib.Core.Path.{◌≡◌, refl, sym, subst}
use mathlib.Core.Logic.{◌↔◌, ⊎_elim}
use mathlib.Core.Option.{some, some-injective, none-ne-some}
use mathlib.Core.List.Forall₂
use mathlib.Core.List.{List, ◌∷◌}
use lib.ListN.{get_elem?}
use Rattle.marking.specs.Marking.{Marking}
use Rattle.scan.specs.Member.{In}
use Rattle.scan.proofs.Member.{in_either, in_front, in_back}
use Rattle.marking.specs.Spans.{Span, SpanOf}
use Rattle.marking.specs.ReadingSpans.{spans}
use Rattle.marking.proofs.Sorted.{in_none}
use Rattle.texts.specs.Texts.{Texts}
use Rattle.block.specs.Block.{Placed}
use Rattle.row.specs.Row.{Listed, definitions_of}
use Rattle.row.specs.First.{labels_of}
use Rattle.joined.proofs.Joined.{joined_one}
use Rattle.inline.specs.Tails.{Tail}
use Rattle.inline.specs.Reading.{grammar}
use Rattle.inline.specs.ReadingRows as paragraph
use Rattle.inline.specs.ReadingRows.{span_row}
use Rattle.inline.proofs.Demand3.{its_spans_are_read}
use Rattle.inline.proofs.SpanRows.{row_read, row_iff}
use Rattle.note.specs.Note.{MarkingOf, MarkingsAre, Marked, RowOf}
use Rattle.note.specs.Reading.{labels, rows_in, span_rows}
use Rattle.note.proofs.Members.{in_mapped, mapped_in, pair_at}

module _ (T : Texts) (js : List Listed) (row : List ℕ) where
  abbrev here : Placed → List (List ℕ)
  here q = paragraph.span_rows T.note q.at q.bytes (labels_of T js) (definitions_of js)

  -- ---- one paragraph
  row_here : (q : Placed) (ps : List Placed) (m : Marking Tail) (ms : List (Marking Tail)) → MarkingOf T js q m → In row (here q) → RowOf T.note (definitions_of js) (q ∷ ps) (m ∷ ms) row
  row_here q ps m ms c h =
      let found = in_mapped (span_row T.note q.at q.bytes (definitions_of js)) (spans (grammar q.bytes (labels_of T js))) row h in
      let of : SpanOf m found.from = (its_spans_are_read q.bytes (labels_of T js) m c).no_others found.from found.there in
      record {
        index = 0;
        paragraph = q;
        paragraph_at = refl;
        marking = m;
        marking_at = refl;
        span = found.from;
        of_marking = of;
        row_is = (row_iff q.bytes (labels_of T js) m c T.note q.at (definitions_of js) found.from of row).1 found.is;
      }

  row_later : (q : Placed) {ps : List Placed} (m : Marking Tail) {ms : List (Marking Tail)} → RowOf T.note (definitions_of js) ps ms row → RowOf T.note (definitions_of js) (q ∷ ps) (m ∷ ms) row
  row_later q m r =
      record {
        index = suc r.index;
        paragraph = r.paragraph;
        paragraph_at = r.paragraph_at;
        marking = r.marking;
        marking_at = r.marking_at;
        span = r.span;
        of_marking = r.of_marking;
        row_is = r.row_is;
      }

  pub in_here : (q : Placed) (m : Marking Tail) → MarkingOf T js q m → (x : Span Tail) → SpanOf m x → span_row T.note q.at q.bytes (definitions_of js) x ≡ row → In row (here q)
  in_here q m c x o e =
      subst (λ (r : List ℕ). In r (here q)) e
      (mapped_in (span_row T.note q.at q.bytes (definitions_of js)) (spans (grammar q.bytes (labels_of T js))) x ((its_spans_are_read q.bytes (labels_of T js) m c).each x o))

  -- ---- all of them
  rows_of : {ps : List Placed} {ms : List (Marking Tail)} → MarkingsAre T js ps ms → In row (rows_in T.note (labels_of T js) (definitions_of js) ps) → RowOf T.note (definitions_of js) ps ms row
  unfolding rows_in
  rows_of Forall₂.nil h = absurd (in_none row h)
  rows_of (Forall₂.cons {a = q} {b = m} {l₁ = ps} {l₂ = ms} c t) h =
      ⊎_elim (row_here q ps m ms c) (λ i. row_later q m (rows_of t i)) (in_either (here q) (rows_in T.note (labels_of T js) (definitions_of js) ps) row h)

  rows_in_lem : {ps : List Placed} {ms : List (Marking Tail)} → MarkingsAre T js ps ms
      → (k : ℕ) (q : Placed) (m : Marking Tail) → get_elem? ps k ≡ some q → get_elem? ms k ≡ some m → In row (here q) → In row (rows_in T.note (labels_of T js) (definitions_of js) ps)
  unfolding rows_in
  rows_in_lem Forall₂.nil k q m e d i = absurd (none-ne-some q e)
  rows_in_lem (Forall₂.cons {a = p} {l₁ = ps} c t) zero q m e d i =
      in_front (here p) (rows_in T.note (labels_of T js) (definitions_of js) ps) row (subst (λ (x : Placed). In row (here x)) (sym (some-injective p q e)) i)
  rows_in_lem (Forall₂.cons {a = p} {l₁ = ps} c t) (suc k) q m e d i = in_back (here p) (rows_in T.note (labels_of T js) (definitions_of js) ps) row (rows_in_lem t k q m e d i)

module _ (T : Texts) (n : Marked T) (row : List ℕ) where
  -- a row is read exactly where it is that of a link, an image or a code span
  pub in_rows_iff : In row (span_rows T) ↔ RowOf T.note (definitions_of n.list) n.paragraphs n.markings row
  unfolding span_rows labels
  in_rows_iff =
      let (d, p) = joined_one T n.joined in (
        (λ h. rows_of T n.list row n.each (rw (d, p) at h)),
        (λ r. rw (d, p)
            (rows_in_lem T n.list row n.each r.index r.paragraph r.marking r.paragraph_at r.marking_at
            (in_here T n.list row r.paragraph r.marking (pair_at n.each r.index r.paragraph r.marking r.paragraph_at r.marking_at) r.span r.of_marking
            (row_read T.note r.paragraph.at r.paragraph.bytes (definitions_of n.list) r.row_is)))),
      )
