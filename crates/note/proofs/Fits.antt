-- Every span row has eleven numbers; its places lie within their texts, its definition number is that of a definition, and its line that of its start.
use Prim.Native.Nat.{ℕ, ◌+◌, ◌≤◌, ◌<◌}
use native.Mathlib.Omega.{arith}
use mathlib.Core.Path.{◌≡◌, refl, sym, ap, subst}
use mathlib.Core.Option.{Option, none, some}
use mathlib.Core.List.{List}
use lib.ListN.{length, get_or, length-map}
use Rattle.marking.specs.Marking.{Marking}
use Rattle.scan.specs.Member.{In}
use Rattle.marking.specs.Spans.{Span, code_span, pair_span, SpanOf}
use Rattle.texts.specs.Texts.{Texts, text_of}
use Rattle.block.specs.Block.{Placed}
use Rattle.row.specs.declared.Range.{Range}
use Rattle.row.specs.Row.{absent, Listed, definitions_of}
use Rattle.row.specs.First.{bytes_of, labels_of, past_end, named_text}
use Rattle.definition.proofs.NotePlaces.{Inside, definitions_inside}
use Rattle.definition.proofs.Places.{Numbers}
use Rattle.joined.specs.Reading.{joined}
use Rattle.joined.proofs.Places.{entry_at}
use Rattle.span.specs.Row.{definition_number}
use Rattle.inline.specs.Tails.{Tail, inline, full, collapsed, shortcut}
use Rattle.inline.specs.Rows.{Target, defined, target_of, from_note?}
use Rattle.inline.specs.Claims.{RowWithin, PartBetween}
use Rattle.inline.specs.ReadingRows.{span_row}
use Rattle.inline.proofs.SpanBounds.{inline_parts_within, number_defined}
use Rattle.note.specs.Note.{MarkingOf}
use Rattle.note.specs.Claims.{RowFits}
use Rattle.note.specs.Reading.{span_rows}
use Rattle.note.proofs.Named.{defined_at, named_at}
use Rattle.note.proofs.Placing.{from_span}

-- both places of a part are at most n
record PartFits (n : ℕ) (r : Range) : Type 0 where
  start : r.start ≤ n
  end : r.end ≤ n

-- every place of a target is at most n, and its definition number at most k
record TargetFits (n k : ℕ) (t : Target) : Type 0 where
  number : t.number ≤ k
  destination : PartFits n t.destination
  title : PartFits n t.title

absent_fits : (n : ℕ) → PartFits n absent
absent_fits n = record { start = omega arith; end = omega arith }

part_fits : (offset lo hi n : ℕ) (r : Option Range) → offset + hi ≤ n → PartBetween lo hi r → PartFits n (from_note? offset r)
part_fits offset lo hi n none h p = absent_fits n
part_fits offset lo hi n (some r) h p = record { start = omega (arith, p.1, p.2); end = omega (arith, p.2) }

-- the places of a target that names no definition, and of one that does
module _ (T : Texts) where
  abbrev room : Target → ℕ
  room t = length (named_text T (joined T) t.number)

  abbrev Fits : Target → Type 0
  Fits t = TargetFits (room t) (length (joined T)) t

  defined_fits : (k : ℕ) → k + 1 ≤ length (labels_of T (joined T)) → Fits (defined (definitions_of (joined T)) k)
  defined_fits k f =
      let h : k < length (joined T) = omega (arith, length-map (joined T) (λ (j : Listed). bytes_of (text_of T j.text) j.definition.label)) in
      let j = get_or (joined T) k past_end in
      let n = entry_at T Numbers definitions_inside k h in
      let size : length (named_text T (joined T) (definition_number k)) ≡ length (text_of T j.text) = ap length (named_at T (joined T) k) in
      rw (defined_at (joined T) k)
      (record {
        number = omega arith;
        destination = record { start = omega (arith, size, n.destination_start); end = omega (arith, size, n.destination_end) };
        title = record { start = omega (arith, size, n.title_start); end = omega (arith, size, n.title_end) };
      })

  module _ (q : Placed) (w : Inside T.note q) (m : Marking Tail) (c : MarkingOf T (joined T) q m) where
    abbrev row : Span Tail → List ℕ
    row x = span_row T.note q.at q.bytes (definitions_of (joined T)) x

    abbrev numbered : (x : Span Tail) → SpanOf m x → (target_of q.at (definitions_of (joined T)) x).number ≤ length (labels_of T (joined T))
    numbered = number_defined q.bytes (labels_of T (joined T)) m c q.at (definitions_of (joined T))

    target_fits : (x : Span Tail) → SpanOf m x → RowWithin q.at (length q.bytes) (row x) → Fits (target_of q.at (definitions_of (joined T)) x)
    target_fits (code_span p) y r = record { number = omega arith; destination = absent_fits (length T.note); title = absent_fits (length T.note) }
    target_fits (pair_span x o d (inline n a b)) y r =
        let (l, t) = inline_parts_within q.bytes (labels_of T (joined T)) m c x o d n a b y in
        let h : q.at + (d.end + n) ≤ length T.note = omega (arith, w.inside, r.to) in
        record {
          number = omega arith;
          destination = part_fits q.at d.end (d.end + n) (length T.note) a h l;
          title = part_fits q.at d.end (d.end + n) (length T.note) b h t;
        }
    target_fits (pair_span x o d (full n k)) y r = defined_fits k (numbered (pair_span x o d (full n k)) y)
    target_fits (pair_span x o d (collapsed k)) y r = defined_fits k (numbered (pair_span x o d (collapsed k)) y)
    target_fits (pair_span x o d (shortcut k)) y r = defined_fits k (numbered (pair_span x o d (shortcut k)) y)

    span_fits : (x : Span Tail) → SpanOf m x → RowWithin q.at (length q.bytes) (row x) → RowFits T (joined T) (row x)
    span_fits x y r =
        let t = target_fits x y r in
        record {
          wide = refl;
          start = r.text_from;
          text = r.text_ordered;
          text_ends_at = r.text_to;
          end = omega (arith, r.to, w.inside);
          number = t.number;
          destination_start = t.destination.start;
          destination_end = t.destination.end;
          title_start = t.title.start;
          title_end = t.title.end;
          line = refl;
        }

  pub rows_fit : (row : List ℕ) → In row (span_rows T) → RowFits T (joined T) row
  rows_fit row i =
      let f = from_span T row i in
      let q = f.paragraph in
      subst (RowFits T (joined T)) f.row_is
      (span_fits q f.inside f.marking f.meets f.span f.of_marking (subst (RowWithin q.at (length q.bytes)) (sym f.row_is) f.within))
