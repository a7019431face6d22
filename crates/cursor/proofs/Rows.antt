-- The rows of the table: which one waits next, and where its text ends.
use Prim.Native.Nat.{ℕ, ◌+◌, ◌≤◌, ◌<◌, min, max}
use native.Mathlib.Decide.{dec_lt}
use native.Mathlib.Omega.{arith}
use mathlib.Core.Path.{◌≡◌, refl, sym, ap, ◌∙◌, subst}
use mathlib.Core.List.{List}
use mathlib.Core.Bool.{true, false, cond}
use lib.Dec.{ltb}
use borrow.Author.Tests.{lt-ltb, le-ltb, ltb-true, ltb-false}
use Rattle.scan.proofs.Test.{by}
use Rattle.span.specs.declared.Span.{Span}
use Rattle.span.specs.Row.{numbers_on, whole_rows, row_at}
use Rattle.span.specs.Reading.{span_at, line_in}
use Rattle.span.proofs.Read.{numbers_at}
use Rattle.page.specs.Reading.{text_end}
use Rattle.cursor.specs.Cursor.{waits, Finds, closing_place}

-- ---- a row as it is read
pub row_read : (u : List ℕ) {count k : ℕ} → count ≤ whole_rows u → k < count → {x : Span} → x ≡ span_at u k → numbers_on (line_in u k) x ≡ row_at u k
row_read u {k = k} w h e = ap (numbers_on (line_in u k)) e ∙ numbers_at u k (omega arith)

-- ---- the lesser of two
pub lesser : (a b : ℕ) → min a b ≡ cond (ltb a b) a b
lesser a b = by (ltb a b) (λ t. rw t (omega (arith, ltb-true a b t))) (λ t. rw t (omega (arith, ltb-false a b t)))

-- ---- where its text ends, or the end
module _ (u : List ℕ) (count k e : ℕ) where
  abbrev own : ℕ
  own = text_end (row_at u k)

  abbrev place : ℕ
  place = closing_place u count k e

  pub row_first : k < count → own < e → place ≡ own
  unfolding closing_place
  row_first h l = rw (lt-ltb k count h, lt-ltb own e l) refl

  pub end_first : k < count → e ≤ own → place ≡ e
  unfolding closing_place
  end_first h l = rw (lt-ltb k count h, le-ltb own e l) refl

  pub no_row : count ≤ k → place ≡ e
  unfolding closing_place
  no_row h = rw (le-ltb k count h) refl

  pub row_place : k < count → {x r : ℕ} → x ≡ own → r ≡ min x e → r ≡ place
  unfolding closing_place
  row_place h q f = f ∙ rw (q, lt-ltb k count h) (lesser own e)

  by_place : {P : Type 0} → (k < count → own < e → place ≡ own → P) → (place ≡ e → (k < count → e ≤ own) → P) → P
  by_place {P} f g = cases (dec_lt k count) (dec_lt own e)
    where
      cases : Dec (k < count) → Dec (own < e) → P
      cases (yes h) (yes l) = f h l (row_first h l)
      cases (yes h) (no l) = g (end_first h (omega arith)) (λ z. omega arith)
      cases (no h) l = g (no_row (omega arith)) (λ z. absurd (h z))

  pub place_top : place ≤ e
  place_top = by_place (λ h l q. omega (arith, q)) (λ q f. omega (arith, q))

  pub place_low : k < count → place ≤ own
  place_low h = by_place (λ z l q. omega (arith, q)) (λ q f. omega (arith, q, f h))

  module _ {i : ℕ} where
    pub place_here : place ≡ i → i < e → (k < count) × (own ≡ i)
    place_here q b = by_place (λ h l z. (h, sym z ∙ q)) (λ z f. absurd (omega (arith, z)))

    pub place_from : i ≤ e → (k < count → i ≤ own) → i ≤ place
    place_from b f = by_place (λ h l q. omega (arith, q, f h)) (λ q g. omega (arith, q))

-- ---- the search
module _ (u : List ℕ) (count : ℕ) (i start : ℕ) where
  -- the rows from `start` up to row k do not wait
  abbrev pub Passed : ℕ → Type 0
  Passed k = (j : ℕ) → start ≤ j → j < k → waits i (row_at u j) ≡ false

  pub none_passed : Passed start
  none_passed j a b = absurd (omega arith)

  pub one_passed : {k : ℕ} → Passed k → waits i (row_at u k) ≡ false → Passed (k + 1)
  one_passed {k} p f j a b = cases (dec_lt j k)
    where
      cases : Dec (j < k) → waits i (row_at u j) ≡ false
      cases (yes z) = p j a z
      cases (no z) = let e : k ≡ j = omega arith in subst (λ (n : ℕ). waits i (row_at u n) ≡ false) e f

  pub found_there : {k : ℕ} → Passed k → waits i (row_at u k) ≡ true → Finds u count i start k
  found_there p t = record { passed = p; there = λ h. t }

  pub none_there : {k r : ℕ} → Passed k → count ≤ k → r ≡ max start count → Finds u count i start r
  none_there p l e = record { passed = λ j a b. p j a (omega arith); there = λ h. absurd (omega arith) }
