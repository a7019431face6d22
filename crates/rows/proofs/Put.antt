-- Numbers put into a list in place of others.
use Prim.Native.Nat.{ℕ, ◌+◌, ◌*◌, ◌≤◌, ◌<◌}
use native.Mathlib.Nat.{add_assoc}
use native.Mathlib.Numerals.{add-one}
use native.Mathlib.Omega.{arith}
use mathlib.Core.Path.{◌≡◌, sym, ap, ◌∙◌}
use mathlib.Core.List.{List, [], ◌∷◌, ◌++◌, append_assoc}
use lib.ListN.{length, take, drop, set, length-append}
use lib.Seq.{length-take-le, take_at, drop-append-add, drop-drop, sets-eq}
use borrow.Author.Tests.{lt-ltb, le-ltb, ltb-true, ltb-false}
use lib.Dec.{ltb}
use Rattle.scan.proofs.Test.{by}
use Rattle.rows.specs.Rows.{whole_rows, put, stored}

module _ (t : List ℕ) (at : ℕ) (a : List ℕ) (h : at + length a ≤ length t) where
  front : length (take at t ++ a) ≡ at + length a
  front = rw (length-append, length-take-le at t (omega arith))

  pub drop_put : (n : ℕ) → drop (at + length a + n) (put t at a) ≡ drop (at + length a + n) t
  drop_put n = rw (← front) (drop-append-add (take at t ++ a) (drop (length (take at t ++ a)) t) n ∙ drop-drop n _ t)

  -- what is put right after it
  pub put_put : (b : List ℕ) → put (put t at a) (at + length a) b ≡ put t at (a ++ b)
  put_put b =
      rw (take_at (take at t ++ a) (drop (at + length a) t) (at + length a) front, drop_put (length b), append_assoc (take at t) a b, length-append, ← add_assoc)

-- a part more: x holds the parts a, and y the part b right after them
pub put_next : (t : List ℕ) (at : ℕ) (a b : List ℕ) {x y : List ℕ} {n : ℕ} → at + length a ≤ length t → n ≡ at + length a → x ≡ put t at a → y ≡ put x n b → y ≡ put t at (a ++ b)
put_next t at a b h en ex ey = rw (ey, ex, en) (put_put t at a h b)

pub put_one : (t : List ℕ) (at a : ℕ) → at < length t → set t at a ≡ put t at (a ∷ [])
put_one t at a h = sets-eq (a ∷ []) t at (omega arith)

pub put_two : (t : List ℕ) (at a b : ℕ) → at + 1 < length t → set (set t at a) (at + 1) b ≡ put t at (a ∷ b ∷ [])
put_two t at a b h = rw add-one (sets-eq (a ∷ b ∷ []) t at (omega arith))

-- ---- the row k, where there is one and where there is none
module _ {A : Type 0} (width : ℕ) (numbers : A → List ℕ) (t : List ℕ) (k : ℕ) (x : A) where
  pub no_row : whole_rows width t ≤ k → t ≡ stored width numbers t k x
  unfolding stored
  no_row h = rw (le-ltb k (whole_rows width t) h)

  pub row_put : k < whole_rows width t → stored width numbers t k x ≡ put t (k * width) (numbers x)
  unfolding stored
  row_put h = rw (lt-ltb k (whole_rows width t) h)

-- two ways to make the numbers of a row that agree where there is one
pub stored_alike : {A : Type 0} (width : ℕ) (f g : A → List ℕ) (t : List ℕ) (k : ℕ) (x : A) → (k < whole_rows width t → f x ≡ g x) → stored width f t k x ≡ stored width g t k x
stored_alike width f g t k x e =
    by (ltb k (whole_rows width t))
    (λ q. let h = ltb-true k (whole_rows width t) q in row_put width f t k x h ∙ ap (put t (k * width)) (e h) ∙ sym (row_put width g t k x h))
    (λ q. let h = ltb-false k (whole_rows width t) q in sym (no_row width f t k x h) ∙ no_row width g t k x h)
