-- The rows that stand in a paragraph are those of its marking: paragraphs do not overlap.
use Prim.Native.Nat.{ℕ, zero, suc, ◌+◌, ◌-◌, ◌≤◌, ◌<◌}
use native.Mathlib.Omega.{arith}
use mathlib.Core.Path.{◌≡◌, refl, sym, ap, ◌∙◌, subst}
use mathlib.Core.Option.{some, some-injective, none-ne-some}
use mathlib.Core.List.{List}
use lib.ListN.{length, get_elem?}
use Rattle.marking.specs.Marking.{Marking}
use Rattle.marking.specs.Spans.{SpanOf}
use Rattle.texts.specs.Texts.{Texts}
use Rattle.block.specs.Block.{Placed}
use Rattle.row.specs.Row.{definitions_of}
use Rattle.row.specs.First.{labels_of}
use Rattle.definition.proofs.NotePlaces.{Ordered, done, next, paragraphs_in_order}
use Rattle.joined.proofs.Joined.{joined_one}
use Rattle.inline.specs.Tails.{Tail}
use Rattle.inline.proofs.SpanRows.{row_iff}
use Rattle.note.specs.Note.{MarkingOf, Marked, RowOf}
use Rattle.note.specs.Reading.{span_rows}
use Rattle.note.proofs.Members.{pair_at}
use Rattle.note.proofs.Rows.{in_rows_iff}
use Rattle.page.proofs.Extent.{read, row_some, link_text, row_reaches}
use Rattle.page.proofs.Pieces.{row_in, RowHere, RowsHere}

pub starts_after : {s : List ℕ} {from : ℕ} {ps : List Placed} → Ordered s from ps → (k : ℕ) (q : Placed) → get_elem? ps k ≡ some q → from ≤ q.at
starts_after done k q e = absurd (none-ne-some q e)
starts_after (next {from = f} {p = p} h w o) zero q e = subst (λ (x : Placed). f ≤ x.at) (some-injective p q e) h
starts_after (next h w o) (suc k) q e = omega (arith, starts_after o k q e)

-- two paragraphs that share a place are one
same_paragraph : {s : List ℕ} {from : ℕ} {ps : List Placed} → Ordered s from ps → (j k : ℕ) (a b : Placed) → get_elem? ps j ≡ some a → get_elem? ps k ≡ some b
    → (x y : ℕ) → x < length a.bytes → y < length b.bytes → a.at + x ≡ b.at + y → j ≡ k
same_paragraph done j k a b e d x y h l z = absurd (none-ne-some a e)
same_paragraph (next w i o) zero zero a b e d x y h l z = refl
same_paragraph (next {p = p} w i o) zero (suc k) a b e d x y h l z =
    let t : p.at + length p.bytes ≤ b.at = starts_after o k b d in
    let u : a.at + length a.bytes ≤ b.at = subst (λ (v : Placed). v.at + length v.bytes ≤ b.at) (some-injective p a e) t in
    absurd (omega arith)
same_paragraph (next {p = p} w i o) (suc j) zero a b e d x y h l z =
    let t : p.at + length p.bytes ≤ a.at = starts_after o j a e in
    let u : b.at + length b.bytes ≤ a.at = subst (λ (v : Placed). v.at + length v.bytes ≤ a.at) (some-injective p b d) t in
    absurd (omega arith)
same_paragraph (next w i o) (suc j) (suc k) a b e d x y h l z = ap suc (same_paragraph o j k a b e d x y h l z)

module _ (T : Texts) (n : Marked T) where
  pub in_order : Ordered T.note 0 n.paragraphs
  in_order = subst (Ordered T.note 0) (joined_one T n.joined).1 (paragraphs_in_order T.note)

  pub marking_of : (k : ℕ) (q : Placed) (m : Marking Tail) → get_elem? n.paragraphs k ≡ some q → get_elem? n.markings k ≡ some m → MarkingOf T n.list q m
  marking_of k q m e d = pair_at n.each k q m e d

  module _ (k : ℕ) (q : Placed) (m : Marking Tail) (e : get_elem? n.paragraphs k ≡ some q) (d : get_elem? n.markings k ≡ some m) where
    -- a row whose paragraph has the index k
    pub row_of : (row : List ℕ) (r : RowOf T.note (definitions_of n.list) n.paragraphs n.markings row) → r.index ≡ k → RowHere T n.list q m row
    row_of row r z =
        let a : r.paragraph ≡ q = some-injective r.paragraph q (sym r.paragraph_at ∙ ap (get_elem? n.paragraphs) z ∙ e) in
        let b : r.marking ≡ m = some-injective r.marking m (sym r.marking_at ∙ ap (get_elem? n.markings) z ∙ d) in
        record {
          span = r.span;
          of_marking = subst (λ (y : Marking Tail). SpanOf y r.span) b r.of_marking;
          row_is = ap (λ (y : Placed). row_in T n.list y r.span) (sym a) ∙ read T n row r;
        }

    pub rows_here : RowsHere T n.list q m (span_rows T)
    rows_here =
        record {
          each = λ x o.
              (in_rows_iff T n (row_in T n.list q x)).1
              (record {
                index = k;
                paragraph = q;
                paragraph_at = e;
                marking = m;
                marking_at = d;
                span = x;
                of_marking = o;
                row_is = (row_iff q.bytes (labels_of T n.list) m (marking_of k q m e d) T.note q.at (definitions_of n.list) x o _).1 refl;
              });
          covering = λ row h i l lo hi.
              let r = (in_rows_iff T n row).0 h in
              let (a, b, c) = row_reaches T n row r in
              row_of row r (same_paragraph in_order r.index k r.paragraph q r.paragraph_at e (q.at + i - r.paragraph.at) i (omega arith) l (omega arith));
          not_empty = row_some T;
          text_ends = link_text T;
        }
