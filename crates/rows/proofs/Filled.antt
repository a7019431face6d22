-- Rows stored one after the other fill the table.
use Prim.Native.Nat.{ℕ, suc, ◌+◌, ◌*◌, ◌≤◌, ◌<◌}
use native.Mathlib.Nat.{zero-mul, suc-mul, zero-div, mul-le-mul_right, div-mul-le_self}
use native.Mathlib.Omega.{arith}
use mathlib.Core.Path.{◌≡◌, sym, ap, ◌∙◌}
use mathlib.Core.List.{List, [], ◌∷◌, ◌++◌, append-nil, append_assoc}
use borrow.Author.Tests.{ltb-true, ltb-false}
use lib.Dec.{ltb}
use lib.ListN.{length, take, drop, length-append, length-take, length-drop}
use lib.Seq.{take_all, take-nil, take_at, take-append-le, drop-append-add, drop-drop}
use Rattle.scan.proofs.Test.{by}
use Rattle.rows.specs.Rows.{rows, whole_rows, filled, stored, stored_all}
use Rattle.rows.proofs.Put.{no_row, row_put}

-- as many rows as there are whole ones lie within the table
pub rows_fit : (width n : ℕ) (t : List ℕ) → n ≤ whole_rows width t → n * width ≤ length t
rows_fit width n t h = omega (arith, mul-le-mul_right width h, div-mul-le_self (length t) width)

drop_row : (w : ℕ) (l t : List ℕ) (n : ℕ) → length l ≡ n → drop (n + w) (l ++ drop n t) ≡ drop (n + w) t
drop_row w l t n e = rw (← e) (drop-append-add l (drop (length l) t) w ∙ drop-drop w (length l) t)

module _ {A : Type 0} (numbers : A → List ℕ) where
  pub rows_more : (xs : List A) (x : A) → rows numbers (xs ++ x ∷ []) ≡ rows numbers xs ++ numbers x
  unfolding rows
  rows_more [] x = append-nil (numbers x)
  rows_more (y ∷ xs) x = ap (λ (l : List ℕ). numbers y ++ l) (rows_more xs x) ∙ sym (append_assoc (numbers y) (rows numbers xs) (numbers x))

module _ {A : Type 0} (width : ℕ) (numbers : A → List ℕ) where
  pub filled_none : (t : List ℕ) → filled width numbers [] t ≡ t
  unfolding filled rows
  filled_none t = rw take-nil

  pub filled_still : (xs : List A) (t : List ℕ) → length xs ≡ 0 → t ≡ filled width numbers xs t
  filled_still [] t e = sym (filled_none t)
  filled_still (x ∷ xs) t e = absurd (omega arith)

  pub filled_empty : (xs : List A) → filled width numbers xs [] ≡ []
  unfolding filled rows
  filled_empty xs = rw zero-div

module _ {A : Type 0} (width : ℕ) (numbers : A → List ℕ) (wide : (x : A) → length (numbers x) ≡ width) where
  pub length_rows : (xs : List A) → length (rows numbers xs) ≡ length xs * width
  unfolding rows
  length_rows [] = sym (zero-mul width)
  length_rows (x ∷ xs) = rw (length-append, wide x, length_rows xs, suc-mul) (omega arith)

  pub length_filled : (xs : List A) (t : List ℕ) → length (filled width numbers xs t) ≡ length t
  unfolding filled
  length_filled xs t =
      let u = take (whole_rows width t) xs in
      let n : length u ≤ whole_rows width t = rw (length-take (whole_rows width t) xs) (omega arith) in
      rw (length-append, length-drop) (omega (arith, length_rows u, rows_fit width (length u) t n))

  -- where all of them fit
  pub filled_whole : (xs : List A) (t : List ℕ) → length xs ≤ whole_rows width t → filled width numbers xs t ≡ rows numbers xs ++ drop (length xs * width) t
  unfolding filled
  filled_whole xs t h = rw (take_all (whole_rows width t) xs h, length_rows xs)

  next_fits : (xs : List A) (x : A) (t : List ℕ) → length xs < whole_rows width t → stored width numbers (filled width numbers xs t) (length xs) x ≡ filled width numbers (xs ++ x ∷ []) t
  next_fits xs x t h =
      let q : length xs < whole_rows width (filled width numbers xs t) = rw (length_filled xs t) h in
      let m : length (xs ++ x ∷ []) ≡ suc (length xs) = rw length-append (omega arith) in
      let e : length (xs ++ x ∷ []) * width ≡ length xs * width + width = rw m (suc-mul (length xs) width) in
      row_put width numbers (filled width numbers xs t) (length xs) x q
      ∙ rw (
        filled_whole xs t (omega arith),
        filled_whole (xs ++ x ∷ []) t (omega arith),
        rows_more numbers xs x,
        e,
        wide x,
        drop_row width (rows numbers xs) t (length xs * width) (length_rows xs),
        take_at (rows numbers xs) (drop (length xs * width) t) (length xs * width) (length_rows xs),
      )

  next_over : (xs : List A) (x : A) (t : List ℕ) → whole_rows width t ≤ length xs → stored width numbers (filled width numbers xs t) (length xs) x ≡ filled width numbers (xs ++ x ∷ []) t
  unfolding filled
  next_over xs x t h =
      sym (no_row width numbers (filled width numbers xs t) (length xs) x (rw (length_filled xs t) h)) ∙ rw (take-append-le (whole_rows width t) xs (x ∷ []) h)

  -- a value more, stored as the next row
  pub store_next : (xs : List A) (x : A) (t₀ : List ℕ) {t : List ℕ} {k : ℕ} → t ≡ filled width numbers xs t₀ → k ≡ length xs → stored width numbers t k x ≡ filled width numbers (xs ++ x ∷ []) t₀
  store_next xs x t₀ et ek =
      rw (et, ek)
      (by (ltb (length xs) (whole_rows width t₀)) (λ e. next_fits xs x t₀ (ltb-true _ _ e)) (λ e. next_over xs x t₀ (ltb-false _ _ e)))

  -- the others after those that fill the table
  pub store_all : (t₀ : List ℕ) (passed xs : List A) {t : List ℕ} {k : ℕ} → t ≡ filled width numbers passed t₀ → k ≡ length passed
      → stored_all width numbers t k xs ≡ filled width numbers (passed ++ xs) t₀
  unfolding stored_all
  store_all t₀ passed [] et ek = et ∙ sym (ap (λ (l : List A). filled width numbers l t₀) (append-nil passed))
  store_all t₀ passed (x ∷ xs) et ek =
      store_all t₀ (passed ++ x ∷ []) xs (store_next passed x t₀ et ek) (omega (arith, ek, length-append passed (x ∷ [])))
      ∙ ap (λ (l : List A). filled width numbers l t₀) (append_assoc passed (x ∷ []) xs)
