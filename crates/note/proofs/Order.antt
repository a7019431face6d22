-- "Rows stand in increasing order of end", over the whole note: within a paragraph, and from one paragraph to the next.
use Prim.Native.Nat.{ℕ, zero, suc, ◌+◌, ◌<◌}
use native.Mathlib.Omega.{arith}
use mathlib.Core.Path.{◌≡◌, ap, sym, ◌∙◌, subst}
use mathlib.Core.Logic.{◌⊎◌, inl, inr, ⊎_elim}
use mathlib.Core.Option.{some, some-injective, none-ne-some}
use mathlib.Core.List.{List, [], ◌∷◌, ◌++◌}
use borrow.Author.Tests.{ltb-true, ltb-false}
use lib.ListN.{length, get_elem?}
use lib.Dec.{ltb}
use Rattle.scan.proofs.Test.{by}
use Rattle.scan.specs.Member.{In}
use Rattle.scan.proofs.Member.{in_either}
use Rattle.marking.proofs.Lists.{at_inside, at_split}
use Rattle.marking.proofs.Sorted.{in_none, head_first}
use Rattle.texts.specs.Texts.{Texts}
use Rattle.block.specs.Block.{Placed}
use Rattle.row.specs.declared.Definition.{Definition}
use Rattle.row.specs.Row.{definitions_of}
use Rattle.definition.proofs.NotePlaces.{Ordered, done, next, paragraphs_in_order}
use Rattle.joined.specs.Reading.{joined}
use Rattle.inline.specs.ReadingRows as paragraph
use Rattle.inline.specs.Rows.{row_end, EndsIncrease}
use Rattle.inline.proofs.SpanRows.{ends_increase}
use Rattle.note.specs.Reading.{labels, rows_in, span_rows}
use Rattle.note.proofs.Spans.{row_ends}

module _ (xs ys : List (List ℕ)) (r : EndsIncrease xs) (r' : EndsIncrease ys) (cross : (x y : List ℕ) → In x xs → In y ys → row_end x < row_end y) where
  join : EndsIncrease (xs ++ ys)
  join k x y e d = either (at_split xs ys k x e) (at_split xs ys (suc k) y d)
    where
      either : (get_elem? xs k ≡ some x) ⊎ ((i : ℕ) × (k ≡ length xs + i) × (get_elem? ys i ≡ some x))
          → (get_elem? xs (suc k) ≡ some y) ⊎ ((j : ℕ) × (suc k ≡ length xs + j) × (get_elem? ys j ≡ some y)) → row_end x < row_end y
      either (inl a) (inl b) = r k x y a b
      either (inl a) (inr t) = cross x y (k, a) (t.0, t.2)
      either (inr t) (inl b) = absurd (omega (arith, t.1, at_inside xs (suc k) y b))
      either (inr t) (inr u) = let j : u.0 ≡ suc t.0 = omega (arith, t.1, u.1) in r' t.0 x y t.2 (sym (ap (get_elem? ys) j) ∙ u.2)

rise : (xs : List (List ℕ)) → EndsIncrease xs → (i j : ℕ) (x y : List ℕ) → i < j → get_elem? xs i ≡ some x → get_elem? xs j ≡ some y → row_end x < row_end y
rise [] r i j x y h e d = absurd (none-ne-some y d)
rise (z ∷ xs) r i zero x y h e d = absurd (omega arith)
rise (z ∷ xs) r zero (suc j) x y h e d =
    subst (λ (w : List ℕ). row_end w < row_end y) (some-injective z x e)
    (head_first (λ (a b : List ℕ). row_end a < row_end b) (λ a b c k l. omega arith) (λ a k. omega arith) z xs r y (j, d))
rise (z ∷ xs) r (suc i) (suc j) x y h e d = rise xs (λ k. r (suc k)) i j x y (omega arith) e d

module _ (s : List ℕ) (ls : List (List ℕ)) (ds : List Definition) where
  ends_after : {from : ℕ} {ps : List Placed} → Ordered s from ps → (row : List ℕ) → In row (rows_in s ls ds ps) → from < row_end row
  unfolding rows_in
  ends_after done row i = absurd (in_none row i)
  ends_after (next {from} {p = q} {ps = ps} h w o) row i =
      ⊎_elim (λ a. omega (arith, (row_ends s q.at q.bytes ls ds row a).0)) (λ b. omega (arith, ends_after o row b)) (in_either (paragraph.span_rows s q.at q.bytes ls ds) (rows_in s ls ds ps) row i)

  increase : {from : ℕ} {ps : List Placed} → Ordered s from ps → EndsIncrease (rows_in s ls ds ps)
  unfolding rows_in
  increase done = λ k x y e d. absurd (none-ne-some x e)
  increase (next {p = q} {ps = ps} h w o) =
      join (paragraph.span_rows s q.at q.bytes ls ds) (rows_in s ls ds ps) (ends_increase s q.at q.bytes ls ds) (increase o)
      (λ x y a b. omega (arith, (row_ends s q.at q.bytes ls ds x a).1, ends_after o y b))

module _ (T : Texts) where
  -- the ends of the note's span rows increase
  pub rows_in_order : EndsIncrease (span_rows T)
  unfolding span_rows
  rows_in_order = increase T.note (labels T) (definitions_of (joined T)) (paragraphs_in_order T.note)

  -- of two rows the later ends later, so that no row stands there twice
  pub later_ends_later : (i j : ℕ) (x y : List ℕ) → i < j → get_elem? (span_rows T) i ≡ some x → get_elem? (span_rows T) j ≡ some y → row_end x < row_end y
  later_ends_later i j x y h e d = rise (span_rows T) rows_in_order i j x y h e d

  pub each_row_once : (i j : ℕ) (x : List ℕ) → get_elem? (span_rows T) i ≡ some x → get_elem? (span_rows T) j ≡ some x → i ≡ j
  each_row_once i j x e d =
      by (ltb i j) (λ t. absurd (omega (arith, later_ends_later i j x x (ltb-true i j t) e d)))
      (λ f. by (ltb j i) (λ t. absurd (omega (arith, later_ends_later j i x x (ltb-true j i t) d e))) (λ g. omega (arith, ltb-false i j f, ltb-false j i g)))
