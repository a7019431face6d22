-- Demand 3: the span rows that are read are those of the links, images and code spans in the markings, each once, and no others, in increasing order of end.
use Prim.Native.Nat.{ℕ, ◌<◌}
use native.Mathlib.Omega.{arith}
use mathlib.Core.Path.{◌≡◌, subst}
use mathlib.Core.Logic.{◌↔◌}
use mathlib.Core.List.{List}
use Rattle.marking.proofs.Sorted.{sorted_same}
use Rattle.texts.specs.Texts.{Texts}
use Rattle.inline.specs.Rows.{row_end}
use Rattle.note.specs.Note.{EachRowOnce, SpanRowsAre}
use Rattle.note.specs.Reading.{span_rows}
use Rattle.note.proofs.Markings.{marked}
use Rattle.note.proofs.SpanRows.{span_rows_iff}
use Rattle.note.proofs.Rows.{in_rows_iff}
use Rattle.note.proofs.Order.{rows_in_order}

module _ (T : Texts) where
  each_once : EachRowOnce T (span_rows T)
  each_once =
      record {
        marked = marked T;
        each = λ row r. (in_rows_iff T (marked T) row).1 r;
        no_others = λ row i. (in_rows_iff T (marked T) row).0 i;
        in_order = rows_in_order T;
      }

  pub each_row_iff : (rows : List (List ℕ)) → (span_rows T ≡ rows) ↔ EachRowOnce T rows
  each_row_iff rows = (
    (λ e. subst (EachRowOnce T) e each_once),
    (λ r.
        sorted_same (λ (x y : List ℕ). row_end x < row_end y) (λ x y z h k. omega arith) (λ x h. omega arith) (span_rows T) rows (rows_in_order T) r.in_order
        (λ z i. r.each z ((in_rows_iff T r.marked z).0 i)) (λ z i. (in_rows_iff T r.marked z).1 (r.no_others z i))),
  )

  -- paragraph after paragraph they are the same rows
  pub by_paragraph : (rows : List (List ℕ)) → EachRowOnce T rows ↔ SpanRowsAre T rows
  by_paragraph rows = ((λ r. (span_rows_iff T rows).0 ((each_row_iff rows).1 r)), λ r. (each_row_iff rows).0 ((span_rows_iff T rows).1 r))
