-- The span rows that stand in a table, one by one.
use Prim.Native.Nat.{ℕ, ◌*◌, ◌<◌}
use mathlib.Core.Path.{◌≡◌, refl, sym, ap, ◌∙◌}
use mathlib.Core.Option.{some}
use mathlib.Core.List.{List, [], ◌++◌}
use lib.ListN.{length, get_or, drop, get_elem?}
use Rattle.texts.specs.Texts.{Texts}
use Rattle.rows.proofs.Standing.{row_placed}
use Rattle.span.specs.Row.{width, row_at}
use Rattle.note.specs.Reading.{span_rows}
use Rattle.note.proofs.EachRow.{each_row_iff}
use Rattle.note.proofs.Placing.{at_get_d}
use Rattle.note.proofs.Fits.{rows_fit}
use Rattle.paragraphs.specs.Spans.{span_numbers}
use Rattle.notice.specs.Claims.{SpanRows}

-- row k of the table is the note's span row k
pub rows_stand : (T : Texts) (u : List ℕ) {u' : List ℕ} → SpanRows T u u' → (k : ℕ) → k < length (span_rows T) → get_elem? (span_rows T) k ≡ some (row_at u' k)
rows_stand T u {u'} v k h =
    let e : span_rows T ≡ v.rows = (each_row_iff T v.rows).1 v.each_once in
    let holds : u' ≡ span_numbers (span_rows T) ++ drop (length v.rows * width) u = v.holds ∙ rw e refl in
    let row : List ℕ = get_or (span_rows T) k [] in
    let there : get_elem? (span_rows T) k ≡ some row = at_get_d (span_rows T) k [] h in
    there
    ∙ ap some
    (sym (ap (λ (l : List ℕ). row_at l k) holds ∙ row_placed width (λ (x : List ℕ). x) (span_rows T) (drop (length v.rows * width) u) (λ j x i. (rows_fit T x (j, i)).wide) k row there))
