-- Demand 3: the span rows that are read are those of the markings, paragraph by paragraph.
use Prim.Native.Nat.{ℕ}
use mathlib.Core.Path.{◌≡◌, refl, sym, ap₂, subst}
use mathlib.Core.Logic.{◌↔◌}
use mathlib.Core.List.Forall₂
use mathlib.Core.List.{List, [], ◌∷◌, ◌++◌}
use Rattle.marking.specs.Marking.{Marking}
use Rattle.texts.specs.Texts.{Texts}
use Rattle.block.specs.Block.{Placed}
use Rattle.row.specs.Row.{Listed, definitions_of}
use Rattle.row.specs.First.{labels_of}
use Rattle.definition.specs.Reading.{paragraphs}
use Rattle.joined.specs.Reading.{joined}
use Rattle.joined.proofs.Joined.{joined_one}
use Rattle.inline.specs.Tails.{Tail}
use Rattle.inline.proofs.Demand3.{the_marking, the_marking_meets}
use Rattle.inline.proofs.SpanRows.{rows_are_read, no_other_rows}
use Rattle.note.specs.Note.{MarkingsAre, RowsIn, none, more, SpanRowsAre}
use Rattle.note.specs.Reading.{labels, rows_in, span_rows}
use Rattle.note.proofs.Markings.{markings_in, marked}

module _ (T : Texts) (js : List Listed) where
  rows_read : (ps : List Placed) → RowsIn T js ps (markings_in (labels_of T js) ps) (rows_in T.note (labels_of T js) (definitions_of js) ps)
  unfolding rows_in
  rows_read [] = none
  rows_read (q ∷ ps) =
      more (rows_are_read T.note q.at q.bytes (labels_of T js) (definitions_of js) (the_marking q.bytes (labels_of T js)) (the_marking_meets q.bytes (labels_of T js))) (rows_read ps)

  rows_one : {ps : List Placed} {ms : List (Marking Tail)} {rows : List (List ℕ)} → MarkingsAre T js ps ms → RowsIn T js ps ms rows → rows ≡ rows_in T.note (labels_of T js) (definitions_of js) ps
  unfolding rows_in
  rows_one Forall₂.nil none = refl
  rows_one (Forall₂.cons {a = q} {b = m} h t) (more {rows = rows} r rs) =
      ap₂ {A = List (List ℕ)} {B = List (List ℕ)} {C = List (List ℕ)} ◌++◌ (no_other_rows T.note q.at q.bytes (labels_of T js) (definitions_of js) m h rows r) (rows_one t rs)

-- the rows that are read are exactly those of the note's markings
pub span_rows_iff : (T : Texts) (rows : List (List ℕ)) → (span_rows T ≡ rows) ↔ SpanRowsAre T rows
unfolding span_rows labels
span_rows_iff T rows = (
  (λ e. record { marked = marked T; rows_are = subst (RowsIn T (joined T) (paragraphs T.note) (marked T).markings) e (rows_read T (joined T) (paragraphs T.note)) }),
  (λ r.
      let n = r.marked in
      let (d, p) = joined_one T n.joined in
      rw (d, p) (sym (rows_one T n.list n.each r.rows_are))),
)
