-- Demand 3, for every list of bytes: so for every note, refused or not.
use mathlib.Core.Path.{refl, sym, subst}
use mathlib.Core.List.{List}
use Rattle.texts.specs.Texts.{Texts}
use Rattle.row.specs.Row.{Listed}
use Rattle.note.specs.Claims.{RowFits, Demand3}
use Rattle.note.specs.Reading.{span_rows}
use Rattle.note.proofs.Markings.{list_is_read, one_marking_each}
use Rattle.note.proofs.EachRow.{each_row_iff, by_paragraph}
use Rattle.note.proofs.Order.{each_row_once}
use Rattle.note.proofs.Fits.{rows_fit}
use Rattle.note.proofs.References.{references_refer}

-- the rows are those that are read
pub demand_3 : (T : Texts) → Demand3 T
demand_3 T =
    record {
      one_marking_each = one_marking_each T;
      rows = span_rows T;
      each_row_once = (each_row_iff T (span_rows T)).0 refl;
      no_other_rows = λ others r. sym ((each_row_iff T others).1 r);
      each_at_one_place = each_row_once T;
      by_paragraph = by_paragraph T;
      fits = λ n row i. subst (λ (js : List Listed). RowFits T js row) (list_is_read T n) (rows_fit T row i);
      refers = references_refer T;
    }
