-- The cursor finds the row that the reading looks up: links and images stand in the order in which their texts end.
use Prim.Native.Nat.{ℕ, ◌≤◌, ◌<◌}
use native.Mathlib.Decide.{dec_lt}
use native.Mathlib.Omega.{arith}
use mathlib.Core.Path.{◌≡◌, refl, sym, ap, ◌∙◌}
use mathlib.Core.Option.{none, some}
use mathlib.Core.List.{List, []}
use mathlib.Core.Bool.{Bool, true, false, not, ◌&&◌}
use borrow.Author.Tests.{eqb-true, eq-eqb, not-true, leb-true, leb-false, lt-leb}
use lib.ListN.{get_or, get_elem?}
use lib.Dec.{leb}
use Rattle.scan.proofs.Test.{and_left, and_right}
use Rattle.texts.specs.Texts.{Texts}
use Rattle.marking.proofs.Lists.{at_inside}
use Rattle.note.specs.Reading.{span_rows}
use Rattle.note.proofs.Placing.{at_get_d}
use Rattle.page.specs.Reading.{is_code, text_end, first_row, closes}
use Rattle.page.proofs.Found.{none_if, by_found, found_in, not_found}
use Rattle.page.proofs.Nested.{closes_later}
use Rattle.cursor.specs.Cursor.{waits, Behind}

-- ---- what the tests say of a row
waits_on : (i : ℕ) (r : List ℕ) → waits i r ≡ true → (is_code r ≡ false) × (i ≤ text_end r)
waits_on i r e = (not-true (is_code r) (and_left (not (is_code r)) _ e), leb-true i (text_end r) (and_right (not (is_code r)) _ e))

passed_by : (i : ℕ) (r : List ℕ) → waits i r ≡ false → is_code r ≡ false → text_end r < i
passed_by i r e c = leb-false i (text_end r) (rw c at e)

closes_at : (i : ℕ) (r : List ℕ) → closes i r ≡ true → (is_code r ≡ false) × (text_end r ≡ i)
closes_at i r e = (not-true (is_code r) (and_left (not (is_code r)) _ e), eqb-true (text_end r) i (and_right (not (is_code r)) _ e))

-- where one test fails at a place, it fails at all later ones
later : (t : Bool) (i j n : ℕ) → i ≤ j → (t && leb i n) ≡ false → (t && leb j n) ≡ false
later false i j n h e = refl
later true i j n h e = lt-leb j n (omega (arith, leb-false i n e))

pub still_behind : {rows : List (List ℕ)} {cursor i j : ℕ} → Behind rows cursor i → i ≤ j → Behind rows cursor j
still_behind {i = i} {j = j} b h = record { passed = λ k r l e. later (not (is_code r)) i j (text_end r) h (b.passed k r l e) }

-- at place i no row before the cursor still waits, and the row at the cursor, if there is one, does
pub record Next (rows : List (List ℕ)) (cursor i : ℕ) : Type 0 where
  pub before : Behind rows cursor i
  pub there : (r : List ℕ) → get_elem? rows cursor ≡ some r → waits i r ≡ true

module _ (T : Texts) {cursor i : ℕ} (n : Next (span_rows T) cursor i) where
  abbrev rows : List (List ℕ)
  rows = span_rows T

  pub row_waits : (x : List ℕ) → get_elem? rows cursor ≡ some x → (is_code x ≡ false) × (i ≤ text_end x)
  row_waits x e = waits_on i x (n.there x e)

  -- a row whose text ends at j, and not before i, stands at the cursor, or after it and then its text ends after that of the row there
  by_index : {P : Type 0} (j : ℕ) → i ≤ j → (m : ℕ) (r : List ℕ) → get_elem? rows m ≡ some r → closes j r ≡ true
      → (get_elem? rows cursor ≡ some r → P) → ((x : List ℕ) → get_elem? rows cursor ≡ some x → text_end x < j → P) → P
  by_index {P} j l m r e t f g = cases (dec_lt m cursor) (dec_lt cursor m)
    where
      stands : (is_code r ≡ false) × (text_end r ≡ j)
      stands = closes_at j r t

      cases : Dec (m < cursor) → Dec (cursor < m) → P
      cases (yes z) w = absurd (omega (arith, passed_by i r (n.before.passed m r z e) stands.0, stands.1))
      cases (no z) (yes w) =
          let d = at_get_d rows cursor [] (omega (arith, at_inside rows m r e)) in
          let x = get_or rows cursor [] in
          g x d (omega (arith, closes_later T cursor m x r w d e (row_waits x d).0 stands.0, stands.1))
      cases (no z) (no w) = let k : cursor ≡ m = omega arith in f (ap (get_elem? rows) k ∙ e)

  -- no text ends before that of the row at the cursor
  pub none_before : (j : ℕ) → i ≤ j → ((x : List ℕ) → get_elem? rows cursor ≡ some x → j < text_end x) → first_row (closes j) rows ≡ none
  none_before j l f =
      none_if (first_row (closes j) rows)
      (λ r e.
      let (m, t) = found_in (closes j) rows r e in
      by_index j l m.0 r m.1 t (λ d. omega (arith, f r d, (closes_at j r t).1)) (λ x d h. omega (arith, f x d)))

  pub closes_here : (x : List ℕ) → get_elem? rows cursor ≡ some x → text_end x ≡ i → first_row (closes i) rows ≡ some x
  closes_here x e z =
      by_found (first_row (closes i) rows)
      (λ r f.
      let (m, t) = found_in (closes i) rows r f in
      by_index i (omega arith) m.0 r m.1 t (λ d. f ∙ sym d ∙ e) (λ y d h. absurd (omega (arith, (row_waits y d).1))))
      (λ o. absurd (not_found (closes i) rows o x (cursor, e) (rw ((row_waits x e).0, eq-eqb (text_end x) i z) refl)))
