-- Where a span row comes from: a link, an image or a code span in the marking of a paragraph that lies within the note.
use Prim.Native.Nat.{ℕ, zero, suc, ◌+◌, ◌-◌, ◌≤◌, ◌<◌}
use native.Mathlib.Omega.{arith}
use mathlib.Core.Path.{◌≡◌, refl, sym, ap, ◌∙◌, subst}
use mathlib.Core.Option.{some, some-injective, none-ne-some}
use mathlib.Core.List.{List, [], ◌∷◌, ◌++◌}
use lib.ListN.{length, get_or, take, drop, length-drop, get_elem?, take-append-drop}
use lib.Seq.{drop-drop, drop-append-le, take-append-le}
use Rattle.marking.specs.Marking.{Marking}
use Rattle.scan.specs.Member.{In}
use Rattle.marking.specs.Spans.{Span, SpanOf}
use Rattle.texts.specs.Texts.{Texts}
use Rattle.block.specs.Block.{Placed}
use Rattle.row.specs.Row.{range, definitions_of}
use Rattle.row.specs.First.{bytes_of, labels_of}
use Rattle.joined.specs.Reading.{joined}
use Rattle.definition.proofs.NotePlaces.{Inside, Ordered, done, next, paragraphs_in_order}
use Rattle.inline.specs.Tails.{Tail}
use Rattle.inline.specs.Claims.{RowWithin}
use Rattle.inline.specs.ReadingRows.{span_row}
use Rattle.inline.proofs.SpanRows.{row_read, row_within}
use Rattle.note.specs.Note.{MarkingOf}
use Rattle.note.specs.Reading.{span_rows}
use Rattle.note.proofs.Members.{pair_at}
use Rattle.note.proofs.Markings.{marked}
use Rattle.note.proofs.Rows.{in_here, in_rows_iff}

pub record FromSpan (T : Texts) (row : List ℕ) : Type 0 where
  pub paragraph : Placed
  pub inside : Inside T.note paragraph
  pub marking : Marking Tail
  pub meets : MarkingOf T (joined T) paragraph marking
  pub span : Span Tail
  pub of_marking : SpanOf marking span
  pub row_is : span_row T.note paragraph.at paragraph.bytes (definitions_of (joined T)) span ≡ row
  pub within : RowWithin paragraph.at (length paragraph.bytes) row

pub each_inside : {s : List ℕ} {from : ℕ} {ps : List Placed} → Ordered s from ps → (k : ℕ) (q : Placed) → get_elem? ps k ≡ some q → Inside s q
each_inside done k q e = absurd (none-ne-some q e)
each_inside {s} (next {p = p} h w o) zero q e = subst (Inside s) (some-injective p q e) w
each_inside (next h w o) (suc k) q e = each_inside o k q e

pub from_span : (T : Texts) (row : List ℕ) → In row (span_rows T) → FromSpan T row
from_span T row i =
    let r = (in_rows_iff T (marked T) row).0 i in
    let q = r.paragraph in
    let ds = definitions_of (joined T) in
    let c : MarkingOf T (joined T) q r.marking = pair_at (marked T).each r.index q r.marking r.paragraph_at r.marking_at in
    let is : span_row T.note q.at q.bytes ds r.span ≡ row = row_read T.note q.at q.bytes ds r.row_is in
    let (k, e) = in_here T (joined T) row q r.marking c r.span r.of_marking is in
    record {
      paragraph = q;
      inside = each_inside (paragraphs_in_order T.note) r.index q r.paragraph_at;
      marking = r.marking;
      meets = c;
      span = r.span;
      of_marking = r.of_marking;
      row_is = is;
      within = row_within T.note q.at q.bytes (labels_of T (joined T)) ds k row e;
    }

-- ---- lists
pub at_get_d : {A : Type 0} (xs : List A) (k : ℕ) (a : A) → k < length xs → get_elem? xs k ≡ some (get_or xs k a)
at_get_d [] k a h = absurd (omega arith)
at_get_d (x ∷ xs) zero a h = refl
at_get_d (x ∷ xs) (suc k) a h = at_get_d xs k a (omega arith)

-- n bytes of the paragraph q, from its place a on, are the bytes of the note from b to e
module _ (s : List ℕ) (q : Placed) (w : Inside s q) (a n : ℕ) (h : a + n ≤ length q.bytes) where
  part_there : take n (drop (q.at + a) s) ≡ take n (drop a q.bytes)
  part_there =
      let rest = drop (length q.bytes) (drop q.at s) in
      let whole : drop q.at s ≡ q.bytes ++ rest = sym (take-append-drop (length q.bytes) (drop q.at s)) ∙ ap (λ (l : List ℕ). l ++ rest) (sym w.bytes_there) in
      ap (take n) (sym (drop-drop a q.at s) ∙ ap (drop a) whole ∙ drop-append-le a q.bytes rest (omega arith))
      ∙ take-append-le n (drop a q.bytes) rest (omega (arith, length-drop a q.bytes))

  pub part_bytes : (b e : ℕ) → b ≡ q.at + a → e ≡ b + n → bytes_of s (range b e) ≡ take n (drop a q.bytes)
  part_bytes b e x y = let z : e - b ≡ n = omega arith in rw (z, x) part_there
