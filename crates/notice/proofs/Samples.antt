-- The answers where as many brackets are open as may be, and one more: what is read of opening brackets alone is known, the rest is computed.
use Prim.Native.Nat.{ℕ}
use mathlib.Core.Path.{◌≡◌, refl, ap, ◌∙◌}
use mathlib.Core.Option.{Option, none, some}
use mathlib.Core.List.{List, [], ◌∷◌}
use mathlib.Core.Bool.{false}
use lib.ListN.{length}
use Rattle.scan.specs.Ascii.{ascii}
use Rattle.line.specs.Line.{feeds, line_of}
use Rattle.texts.specs.Texts.{Texts}
use Rattle.texts.specs.Reading.{check_of}
use Rattle.block.specs.Block.{Placed}
use Rattle.rows.specs.Rows.{rows, filled}
use Rattle.row.specs.Row as definition_table
use Rattle.row.specs.Row.{Listed}
use Rattle.row.specs.First.{labels_of}
use Rattle.span.specs.Row as span_table
use Rattle.joined.specs.Reading.{joined}
use Rattle.conflict.specs.Reading.{first_conflict}
use Rattle.note.specs.Reading.{labels, span_rows, place_or, deep_in, first_deep}
use Rattle.note.specs.Samples.{brackets, openings, alone, parts_of, holds}
use Rattle.note.proofs.Openings.{deep_openings}
use Rattle.note.proofs.Samples as note
use Rattle.std.specs.Prelude.{Ok, Err}
use Rattle.notice.specs.declared.Refusal.TheVariants.{Deep}
use Rattle.notice.specs.Answers.{Reading, counts, number_of}
use Rattle.paragraphs.specs.Spans.{spans_filled}
use Rattle.notice.specs.Reading.{with_definitions, reading_of, definition_table_of, span_table_of}
use Rattle.notice.specs.Samples.{beside, sample, lent, read_one, deep, edges, Hold, samples_hold}

answer_by : (T : Texts) (a b d n : ℕ) (f : Option ℕ) → check_of T ≡ Ok tt → length (joined T) ≡ d → first_deep T ≡ f → length (span_rows T) ≡ n
    → reading_of false T a b ≡ with_definitions false (first_conflict T) d f n a b
unfolding reading_of
answer_by T a b d n f good ed ef en = rw (good, ed, ef, en)

sample_by : (T : Texts) (t u t' u' : List ℕ) (r : Reading) → reading_of false T (definition_table.whole_rows t) (span_table.whole_rows u) ≡ r → definition_table_of T (number_of r) t ≡ t'
    → span_table_of T (number_of r) u ≡ u' → read_one (beside T t u r t' u') ≡ beside T t u r t' u'
sample_by T t u t' u' r er et eu = rw (er, et, eu)

abbrev Parts : Type 0
Parts = List Listed × List Placed

deep_first : first_deep (alone deep) ≡ some 1037
unfolding first_deep labels deep_in
deep_first =
    ap (λ (x : Parts). deep_in (labels_of (alone deep) x.0) x.1) samples_hold.deep_parts
    ∙ ap (λ (o : Option ℕ). place_or 8 o (deep_in (ascii "a" ∷ []) (openings 13 1025 ∷ []))) samples_hold.shallow_first
    ∙ deep_openings (ascii "a" ∷ []) 13 1025 []

module _ (s : List ℕ) {js : List Listed} {ps : List Placed} (e : parts_of s ≡ (js, ps)) where
  -- how many definitions a note of these parts has
  count_by : length (joined (alone s)) ≡ length js
  count_by = ap (λ (x : Parts). length x.0) e

  -- and the table that holds their rows
  table_by : (t : List ℕ) → definition_table.filled (alone s) (joined (alone s)) t ≡ definition_table.filled (alone s) js t
  table_by t = ap (λ (x : Parts). definition_table.filled (alone s) x.0 t) e

no_rows : span_table_of (alone (brackets 1024)) 0 [] ≡ []
unfolding rows filled
no_rows = ap (λ (x : List (List ℕ)). spans_filled x []) (note.edges).no_span

pub edges_hold : Hold edges
unfolding feeds line_of rows filled
edges_hold = rw (full, over, first)
  where
    full : read_one (sample (brackets 1024) [] [] (Ok (counts 0 0)) [] []) ≡ sample (brackets 1024) [] [] (Ok (counts 0 0)) [] []
    full =
        let s = brackets 1024 in
        sample_by (alone s) [] [] [] [] (Ok (counts 0 0))
        (answer_by (alone s) 0 0 0 0 none samples_hold.good_1024 (count_by s holds.parts_1024) (note.edges).shallow (ap length (note.edges).no_span))
        (table_by s holds.parts_1024 []) no_rows

    over : read_one (sample (brackets 1025) [] [] (Err (Deep 1024)) [] []) ≡ sample (brackets 1025) [] [] (Err (Deep 1024)) [] []
    over =
        let s = brackets 1025 in
        sample_by (alone s) [] [] [] [] (Err (Deep 1024))
        (answer_by (alone s) 0 0 0 _ (some 1024) samples_hold.good_1025 (count_by s holds.parts_1025) (note.edges).deep refl)
        (table_by s holds.parts_1025 []) refl

    row : List ℕ
    row = 0 ∷ 1 ∷ 2 ∷ 5 ∷ 6 ∷ 0 ∷ 0 ∷ 1 ∷ []

    first : read_one (sample deep (lent 8) [] (Err (Deep 1037)) row []) ≡ sample deep (lent 8) [] (Err (Deep 1037)) row []
    first =
        sample_by (alone deep) (lent 8) [] row [] (Err (Deep 1037))
        (answer_by (alone deep) 1 0 1 _ (some 1037) samples_hold.good_deep (count_by deep samples_hold.deep_parts) deep_first refl)
        (table_by deep samples_hold.deep_parts (lent 8)) refl
