-- The rows of a paragraph: they are those of its marking, their ends increase, and spans and texts lie within it.
use Prim.Native.Nat.{ℕ, zero, suc, ◌+◌, ◌-◌, ◌<◌}
use native.Mathlib.Omega.{arith}
use mathlib.Core.Path.{◌≡◌, refl, sym, ap, ap₂, ◌∙◌, subst}
use mathlib.Core.Logic.{◌↔◌}
use mathlib.Core.Option.{some, some-injective, none-ne-some}
use mathlib.Core.List.{List, [], ◌∷◌, map, Forall₂}
use lib.ListN.{length, drop, get_elem?}
use Rattle.scan.specs.Reading.{run}
use Rattle.scan.proofs.Every.{run_iff}
use Rattle.marking.specs.Marking.{link, image, Piece, Marking, Meets}
use Rattle.marking.specs.Spans.{Span, code_span, pair_span, SpanOf, span_end, EndsBefore, SpansAre}
use Rattle.marking.specs.ReadingSpans.{spans}
use Rattle.row.specs.declared.Range.{Range}
use Rattle.row.specs.declared.Definition.{Definition}
use Rattle.span.specs.Row.{numbers, code_span_row}
use Rattle.inline.specs.Pieces.{backtick}
use Rattle.inline.specs.Tails.{Tail, inline, full, collapsed, shortcut}
use Rattle.inline.specs.Paragraph.{rules}
use Rattle.inline.specs.Reading.{grammar}
use Rattle.inline.specs.Rows.{whole_of, CodeText, from_note, RowIs, a_code_span, inline_one, full_reference, collapsed_reference, shortcut_reference, RowsAre, EndsIncrease}
use Rattle.inline.specs.Claims.{RowWithin}
use Rattle.inline.specs.ReadingRows.{text_of, span_row, span_rows}
use Rattle.inline.proofs.Demand3.{the_marking, the_marking_meets, its_spans_are_read, no_other_span_list}
use Rattle.inline.proofs.SpanBounds.{code_text, SpanWithin, span_within}

record Mapped {A B : Type 0} (f : A → B) (xs : List A) (k : ℕ) (y : B) : Type 0 where
  from : A
  at : get_elem? xs k ≡ some from
  is : f from ≡ y

mapped : {A B : Type 0} (f : A → B) (xs : List A) (k : ℕ) (y : B) → get_elem? (map f xs) k ≡ some y → Mapped f xs k y
mapped f [] k y e = absurd (none-ne-some y e)
mapped f (x ∷ xs) zero y e = record { from = x; at = refl; is = some-injective (f x) y e }
mapped f (x ∷ xs) (suc k) y e = let m = mapped f xs k y e in record { from = m.from; at = m.at; is = m.is }

-- ---- the text of a code span, and the row of a span: what the law says is what is read
pub code_text_read : (p : List ℕ) (q : Piece) (text : Range) → CodeText p q text → text_of p (code_span q) ≡ text
code_text_read p q text t =
    let e : run backtick (drop q.start p) ≡ t.count = (run_iff backtick (drop q.start p) t.count).1 t.opening_string.run in
    let from : q.start + run backtick (drop q.start p) ≡ text.start = omega (arith, t.from) in
    let to : q.end - run backtick (drop q.start p) ≡ text.end = omega (arith, t.to) in
    rw (from, to) refl

pub row_read : (s : List ℕ) (offset : ℕ) (p : List ℕ) (ds : List Definition) {x : Span Tail} {row : List ℕ} → RowIs s offset p ds x row → span_row s offset p ds x ≡ row
row_read s offset p ds (a_code_span {q} {text} t) = ap (λ (r : Range). numbers s (code_span_row (from_note offset (whole_of (code_span q))) (from_note offset r))) (code_text_read p q text t)
row_read s offset p ds (inline_one {x = link}) = refl
row_read s offset p ds (inline_one {x = image}) = refl
row_read s offset p ds (full_reference {x = link}) = refl
row_read s offset p ds (full_reference {x = image}) = refl
row_read s offset p ds (collapsed_reference {x = link}) = refl
row_read s offset p ds (collapsed_reference {x = image}) = refl
row_read s offset p ds (shortcut_reference {x = link}) = refl
row_read s offset p ds (shortcut_reference {x = image}) = refl

rows_read : (s : List ℕ) (offset : ℕ) (p : List ℕ) (ds : List Definition) {xs : List (Span Tail)} {rows : List (List ℕ)} → Forall₂ (RowIs s offset p ds) xs rows
    → rows ≡ map (span_row s offset p ds) xs
rows_read s offset p ds Forall₂.nil = refl
rows_read s offset p ds (Forall₂.cons {a = x} {b = row} h t) =
    ap₂ {A = List ℕ} {B = List (List ℕ)} {C = List (List ℕ)} ◌∷◌ (sym (row_read s offset p ds h)) (rows_read s offset p ds t)

module _ (p : List ℕ) (labels : List (List ℕ)) (m : Marking Tail) (c : Meets (rules p labels) m) where
  pub code_text_is : (q : Piece) → SpanOf m (code_span q) → CodeText p q (text_of p (code_span q))
  code_text_is q o =
      let b = code_text p labels m c q o in
      rw b.text_is (record { count = b.count; opening_string = b.opening_string; from = refl; to = omega (arith, b.apart) })

  module _ (s : List ℕ) (offset : ℕ) (ds : List Definition) where
    as_read : {x : Span Tail} {row : List ℕ} → RowIs s offset p ds x row → RowIs s offset p ds x (span_row s offset p ds x)
    as_read {x} r = subst (RowIs s offset p ds x) (sym (row_read s offset p ds r)) r

    row_made : (x : Span Tail) → SpanOf m x → RowIs s offset p ds x (span_row s offset p ds x)
    row_made (code_span q) o = a_code_span (code_text_is q o)
    row_made (pair_span x o d (inline n a b)) l = as_read inline_one
    row_made (pair_span x o d (full n k)) l = as_read full_reference
    row_made (pair_span x o d (collapsed k)) l = as_read collapsed_reference
    row_made (pair_span x o d (shortcut k)) l = as_read shortcut_reference

    -- for the spans of a marking that meets the conditions the two say the same
    pub row_iff : (x : Span Tail) → SpanOf m x → (row : List ℕ) → RowIs s offset p ds x row ↔ (span_row s offset p ds x ≡ row)
    row_iff x o row = ((λ r. row_read s offset p ds r), (λ e. subst (RowIs s offset p ds x) e (row_made x o)))

    rows_made : (xs : List (Span Tail)) → ((k : ℕ) (x : Span Tail) → get_elem? xs k ≡ some x → SpanOf m x) → Forall₂ (RowIs s offset p ds) xs (map (span_row s offset p ds) xs)
    rows_made [] f = Forall₂.nil
    rows_made (x ∷ xs) f = Forall₂.cons (row_made x (f 0 x refl)) (rows_made xs (λ k y e. f (suc k) y e))

module _ (s : List ℕ) (offset : ℕ) (p : List ℕ) (labels : List (List ℕ)) (ds : List Definition) where
  -- the rows that are read are those of the marking, and there are no other
  pub rows_are_read : (m : Marking Tail) → Meets (rules p labels) m → RowsAre s offset p labels ds m (span_rows s offset p labels ds)
  rows_are_read m c =
      let are : SpansAre (rules p labels) m (spans (grammar p labels)) = its_spans_are_read p labels m c in
      record { spans = spans (grammar p labels); are = are; made = rows_made p labels m c s offset ds (spans (grammar p labels)) (λ k x e. are.no_others x (k, e)) }

  pub no_other_rows : (m : Marking Tail) → Meets (rules p labels) m → (rows : List (List ℕ)) → RowsAre s offset p labels ds m rows → rows ≡ span_rows s offset p labels ds
  no_other_rows m c rows r = rows_read s offset p ds r.made ∙ ap (map (span_row s offset p ds)) (no_other_span_list p labels m c r.spans r.are)

  abbrev spans_are : SpansAre (rules p labels) (the_marking p labels) (spans (grammar p labels))
  spans_are = its_spans_are_read p labels (the_marking p labels) (the_marking_meets p labels)

  end_is : (x : Span Tail) → span_end (rules p labels) x ≡ (whole_of x).end
  end_is (code_span q) = refl
  end_is (pair_span x o c t) = refl

  pub ends_increase : EndsIncrease (span_rows s offset p labels ds)
  ends_increase k x y h h' =
      let u = mapped (span_row s offset p ds) (spans (grammar p labels)) k x h in
      let v = mapped (span_row s offset p ds) (spans (grammar p labels)) (suc k) y h' in
      rw (← u.is, ← v.is) (further u.from v.from (spans_are.in_order k u.from v.from u.at v.at))
    where
      further : (a b : Span Tail) → EndsBefore (rules p labels) a b → offset + (whole_of a).end < offset + (whole_of b).end
      further a b l = omega (arith, end_is a, end_is b)

  pub row_within : (k : ℕ) (x : List ℕ) → get_elem? (span_rows s offset p labels ds) k ≡ some x → RowWithin offset (length p) x
  row_within k x h =
      let u = mapped (span_row s offset p ds) (spans (grammar p labels)) k x h in
      let w = span_within p labels (the_marking p labels) (the_marking_meets p labels) u.from (spans_are.no_others u.from (k, u.at)) in
      rw (← u.is) (placed u.from w)
    where
      placed : (a : Span Tail) → SpanWithin p a → RowWithin offset (length p) (span_row s offset p ds a)
      placed a w =
          record {
            wide = refl;
            from = omega arith;
            text_from = omega (arith, w.text_from);
            text_ordered = omega (arith, w.text_ordered);
            text_to = omega (arith, w.text_to);
            to = omega (arith, w.to);
          }
