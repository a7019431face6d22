-- What the tables hold after each answer.
use Prim.Native.Nat.{ℕ, suc, ◌*◌, ◌≤◌}
use native.Mathlib.Nat.{suc-mul}
use native.Mathlib.Omega.{arith}
use mathlib.Core.Path.{◌≡◌, refl, sym, ap, ◌∙◌}
use mathlib.Core.List.{List, [], ◌∷◌, ◌++◌}
use mathlib.Core.Bool.{Bool}
use lib.ListN.{length, drop, length-append, length-drop}
use lib.Seq.{take_all}
use Rattle.scan.specs.Member.{In}
use Rattle.texts.specs.Texts.{Texts}
use Rattle.rows.specs.Rows
use Rattle.rows.proofs.Filled.{rows_fit}
use Rattle.row.specs.Row as definition_table
use Rattle.row.proofs.Filled.{filled_whole, length_filled}
use Rattle.definition.specs.Reading.{paragraphs}
use Rattle.joined.specs.Reading.{joined}
use Rattle.joined.proofs.Joined.{joined_some}
use Rattle.span.specs.Row as span_table
use Rattle.note.specs.Note.{EachRowOnce}
use Rattle.note.specs.Reading.{span_rows}
use Rattle.note.proofs.EachRow.{each_row_iff}
use Rattle.note.proofs.Fits as fitting
use Rattle.note.proofs.References.{references_refer}
use Rattle.notice.specs.Answers.{Reading, number_of, DefinitionsCounted, SpansCounted, Enough, Answers, long, bad, few_definitions, conflicting, deep, few_spans, read}
use Rattle.paragraphs.specs.Spans.{span_numbers, spans_filled}
use Rattle.notice.specs.Reading.{definition_table_of, span_table_of}
use Rattle.notice.specs.Claims.{DefinitionRows, SpanRows, Tables}
use Rattle.notice.proofs.Answers.{definitions_number, spans_number}

-- ---- rows of eleven numbers
length_numbers : (rows : List (List ℕ)) → ((row : List ℕ) → In row rows → length row ≡ span_table.width) → length (span_numbers rows) ≡ length rows * span_table.width
unfolding Rows.rows
length_numbers [] w = refl
length_numbers (x ∷ rows) w =
    rw length-append (omega (arith, w x (0, refl), length_numbers rows (λ row (k, e). w row (suc k, e)), suc-mul (length rows) span_table.width))

module _ (T : Texts) where
  span_numbers_lem : length (span_numbers (span_rows T)) ≡ length (span_rows T) * span_table.width
  span_numbers_lem = length_numbers (span_rows T) (λ row i. (fitting.rows_fit T row i).wide)

  spans_filled_whole : (u : List ℕ) → length (span_rows T) ≤ span_table.whole_rows u
      → spans_filled (span_rows T) u ≡ span_numbers (span_rows T) ++ drop (length (span_rows T) * span_table.width) u
  unfolding Rows.filled
  spans_filled_whole u h = rw (take_all (span_table.whole_rows u) (span_rows T) h, span_numbers_lem)

  definition_rows : (t : List ℕ) {t' : List ℕ} → Enough (definition_table.whole_rows t) (DefinitionsCounted T) → t' ≡ definition_table.filled T (joined T) t → DefinitionRows T t t'
  definition_rows t w e =
      let h : length (joined T) ≤ definition_table.whole_rows t = omega (arith, definitions_number T w.counted, w.enough) in
      record { list = joined T; paragraphs = paragraphs T.note; joins = joined_some T; fit = h; holds = e ∙ filled_whole T (joined T) t h }

  rows_of_spans : (u : List ℕ) {u' : List ℕ} → Enough (span_table.whole_rows u) (SpansCounted T) → u' ≡ spans_filled (span_rows T) u → SpanRows T u u'
  rows_of_spans u w e =
      let h : length (span_rows T) ≤ span_table.whole_rows u = omega (arith, spans_number T w.counted, w.enough) in
      let each : EachRowOnce T (span_rows T) = (each_row_iff T (span_rows T)).0 refl in
      record {
        rows = span_rows T;
        each_once = each;
        no_other_rows = λ others r. sym ((each_row_iff T others).1 r);
        refer = references_refer T each.marked;
        fit = h;
        holds = e ∙ spans_filled_whole u h;
      }

  size_of : (u : List ℕ) {u' : List ℕ} → SpanRows T u u' → length u' ≡ length u
  size_of u r =
      let e : span_rows T ≡ r.rows = (each_row_iff T r.rows).1 r.each_once in
      let n : length (span_numbers r.rows) ≡ length r.rows * span_table.width = rw e at span_numbers_lem in
      ap length r.holds ∙ rw (length-append, length-drop) (omega (arith, n, rows_fit span_table.width (length r.rows) u r.fit))

  -- ---- after each answer
  module _ (t u : List ℕ) {t' u' : List ℕ} (x : Reading) where
    after_1_2_3 : 1 ≤ number_of x → number_of x ≤ 3 → t' ≡ t → u' ≡ u → Tables T t u x t' u'
    after_1_2_3 lo hi p q =
        record {
          unchanged = λ h k. (p, q);
          definitions_only = λ h. absurd (omega arith);
          success = λ h. absurd (omega arith);
          definitions_size = ap length p;
          spans_size = ap length q;
        }

    -- and 9
    after_4_5 : 4 ≤ number_of x → Enough (definition_table.whole_rows t) (DefinitionsCounted T) → t' ≡ definition_table.filled T (joined T) t → u' ≡ u → Tables T t u x t' u'
    after_4_5 lo w p q =
        record {
          unchanged = λ h k. absurd (omega arith);
          definitions_only = λ h. (definition_rows t w p, q);
          success = λ h. absurd (omega arith);
          definitions_size = ap length p ∙ length_filled T (joined T) t;
          spans_size = ap length q;
        }

    after_0 : number_of x ≡ 0 → Enough (definition_table.whole_rows t) (DefinitionsCounted T) → Enough (span_table.whole_rows u) (SpansCounted T)
        → t' ≡ definition_table.filled T (joined T) t → u' ≡ spans_filled (span_rows T) u → Tables T t u x t' u'
    after_0 e w v p q =
        record {
          unchanged = λ h k. absurd (omega arith);
          definitions_only = λ h. absurd (omega arith);
          success = λ h. (definition_rows t w p, rows_of_spans u v q);
          definitions_size = ap length p ∙ length_filled T (joined T) t;
          spans_size = size_of u (rows_of_spans u v q);
        }

  pub tables_after : (release : Bool) (t u : List ℕ) {t' u' : List ℕ} (x : Reading) → Answers release T (definition_table.whole_rows t) (span_table.whole_rows u) x
      → t' ≡ definition_table_of T (number_of x) t → u' ≡ span_table_of T (number_of x) u → Tables T t u x t' u'
  tables_after release t u x (long w) p q = after_1_2_3 t u x (omega arith) (omega arith) p q
  tables_after release t u x (bad w f) p q = after_1_2_3 t u x (omega arith) (omega arith) p q
  tables_after release t u x (few_definitions w) p q = after_1_2_3 t u x (omega arith) (omega arith) p q
  tables_after release t u x (conflicting (g, w, s) c) p q = after_4_5 t u x (omega arith) w p q
  tables_after release t u x (deep (g, w, s, d) f) p q = after_4_5 t u x (omega arith) w p q
  tables_after release t u x (few_spans (g, w, s, n, v)) p q = after_4_5 t u x (omega arith) w p q
  tables_after release t u x (read (g, w, s, n, v)) p q = after_0 t u x refl w v p q
