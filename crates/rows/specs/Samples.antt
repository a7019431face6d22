-- Tables by computation: rows of two numbers, n and n + 1.
use Rattle.std.specs.Prelude.{ℕ, ◌+◌, ◌≡◌, refl, List, [], ◌∷◌, replicate}
use Rattle.rows.specs.Rows.{rows, filled, stored}

abbrev two : ℕ → List ℕ
two n = n ∷ (n + 1) ∷ []

-- n nines, filled with the rows of 1 and 5
abbrev table : ℕ → List ℕ
table n = filled 2 two (1 ∷ 5 ∷ []) (replicate n 9)

-- five nines, with the row of 1 as row k
abbrev row : ℕ → List ℕ
row k = stored 2 two (replicate 5 9) k 1

pub record Tables : Type 0 where
  pub none : table 0 ≡ []
  pub short : table 1 ≡ 9 ∷ []
  pub one : table 2 ≡ 1 ∷ 2 ∷ []
  pub one_and_more : table 3 ≡ 1 ∷ 2 ∷ 9 ∷ []
  pub both : table 4 ≡ 1 ∷ 2 ∷ 5 ∷ 6 ∷ []
  pub both_and_more : table 5 ≡ 1 ∷ 2 ∷ 5 ∷ 6 ∷ 9 ∷ []
  pub no_rows : filled 2 two [] (replicate 3 9) ≡ 9 ∷ 9 ∷ 9 ∷ []
  pub first_row : row 0 ≡ 1 ∷ 2 ∷ 9 ∷ 9 ∷ 9 ∷ []
  pub second_row : row 1 ≡ 9 ∷ 9 ∷ 1 ∷ 2 ∷ 9 ∷ []
  pub no_third : row 2 ≡ 9 ∷ 9 ∷ 9 ∷ 9 ∷ 9 ∷ []

pub tables : Tables
unfolding rows filled stored
tables = record {
  none = refl;
  short = refl;
  one = refl;
  one_and_more = refl;
  both = refl;
  both_and_more = refl;
  no_rows = refl;
  first_row = refl;
  second_row = refl;
  no_third = refl;
}
