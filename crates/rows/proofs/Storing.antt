-- Rows stored one after the other.
use Prim.Native.Nat.{ℕ, suc, ◌+◌, ◌*◌}
use native.Mathlib.Nat.{add-zero, suc-mul}
use native.Mathlib.Omega.{arith}
use mathlib.Core.Path.{◌≡◌, refl, sym, ap, ◌∙◌}
use mathlib.Core.List.{List, [], ◌∷◌, ◌++◌, map}
use borrow.Author.Tests.{ltb-true, ltb-false}
use lib.Dec.{ltb}
use lib.ListN.{length, length-append, length-drop}
use lib.Seq.{length-take-le}
use Rattle.scan.proofs.Test.{by}
use Rattle.rows.specs.Rows.{whole_rows, stored, stored_all}
use Rattle.rows.proofs.Put.{no_row, row_put}
use Rattle.rows.proofs.Filled.{rows_fit}

module _ {A : Type 0} (width : ℕ) (numbers : A → List ℕ) where
  -- a row more
  pub stored_more : (xs : List A) (x : A) (t : List ℕ) (k : ℕ) → stored_all width numbers t k (xs ++ x ∷ []) ≡ stored width numbers (stored_all width numbers t k xs) (k + length xs) x
  unfolding stored_all
  stored_more [] x t k = ap (λ (n : ℕ). stored width numbers t n x) (sym (add-zero k))
  stored_more (y ∷ xs) x t k =
      stored_more xs x (stored width numbers t k y) (k + 1)
      ∙ ap (λ (n : ℕ). stored width numbers (stored_all width numbers (stored width numbers t k y) (k + 1) xs) n x) (omega arith)

  module _ (wide : (x : A) → length (numbers x) ≡ width) where
    length_stored : (t : List ℕ) (k : ℕ) (x : A) → length (stored width numbers t k x) ≡ length t
    length_stored t k x =
        by (ltb k (whole_rows width t))
        (λ e.
        let h = ltb-true k (whole_rows width t) e in
        let f = rows_fit width (suc k) t h in
        let m = suc-mul k width in
        ap length (row_put width numbers t k x h)
        ∙ rw (length-append, length-append, length-drop, length-take-le (k * width) t (omega arith), wide x) (omega arith))
        (λ e. sym (ap length (no_row width numbers t k x (ltb-false k (whole_rows width t) e))))

    pub length_stored_all : (xs : List A) (t : List ℕ) (k : ℕ) → length (stored_all width numbers t k xs) ≡ length t
    unfolding stored_all
    length_stored_all [] t k = refl
    length_stored_all (x ∷ xs) t k = length_stored_all xs (stored width numbers t k x) (k + 1) ∙ length_stored t k x

-- rows of values that are made of others
pub stored_mapped : {A B : Type 0} (width : ℕ) (numbers : B → List ℕ) (f : A → B) (xs : List A) (t : List ℕ) (k : ℕ)
    → stored_all width (λ (x : A). numbers (f x)) t k xs ≡ stored_all width numbers t k (map f xs)
unfolding stored_all stored
stored_mapped width numbers f [] t k = refl
stored_mapped width numbers f (x ∷ xs) t k = stored_mapped width numbers f xs (stored width numbers t k (f x)) (k + 1)
