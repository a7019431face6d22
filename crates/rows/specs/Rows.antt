-- A table: rows of numbers, all of one width, in a lent list of numbers. A row is the numbers of a value of A.
use Rattle.std.specs.Prelude.{ℕ, ◌+◌, ◌*◌, ◌/◌, List, [], ◌∷◌, ◌++◌, cond, length, take, drop, ltb}

-- "whole definition rows lent", "whole span rows lent": the numbers lent divided by the width, rounded down
abbrev pub whole_rows : ℕ → List ℕ → ℕ
whole_rows width t = length t / width

-- the list t with the numbers l in place of those from `at` on
abbrev pub put : List ℕ → ℕ → List ℕ → List ℕ
put t at l = take at t ++ l ++ drop (at + length l) t

module _ {A : Type 0} (numbers : A → List ℕ) where
  -- the rows one after the other
  unfoldable pub rows : List A → List ℕ
  rows [] = []
  rows (x ∷ xs) = numbers x ++ rows xs

module _ {A : Type 0} (width : ℕ) (numbers : A → List ℕ) where
  -- The table t after as many of these rows as fit were put in front: "numbers .. past the part in use are unchanged".
  unfoldable pub filled : List A → List ℕ → List ℕ
  filled xs t = let used = rows numbers (take (whole_rows width t) xs) in used ++ drop (length used) t

  -- the table t with the row of x as row k, if there is one
  unfoldable pub stored : List ℕ → ℕ → A → List ℕ
  stored t k x = cond (ltb k (whole_rows width t)) (put t (k * width) (numbers x)) t

  -- the table t with these rows from row k on, as far as they fit
  unfoldable pub stored_all : List ℕ → ℕ → List A → List ℕ
  stored_all t k [] = t
  stored_all t k (x ∷ xs) = stored_all (stored t k x) (k + 1) xs
