-- Every byte of a list passes a test; and the front of a list that passes, as far as it goes.
use Rattle.std.specs.Prelude.{ℕ, ◌≡◌, List, [], ◌∷◌, ◌++◌, Bool, true, false, length}

pub data Every (test : ℕ → Bool) : List ℕ → Type 0 where
  none : Every test []
  more : {b : ℕ} {l : List ℕ} → test b ≡ true → Every test l → Every test (b ∷ l)

-- the list is empty, or its first byte does not pass
pub data Halts (test : ℕ → Bool) : List ℕ → Type 0 where
  empty : Halts test []
  other : {b : ℕ} {l : List ℕ} → test b ≡ false → Halts test (b ∷ l)

-- s is l and then rest, where every byte of l passes and rest does not go on so
pub record Front (test : ℕ → Bool) (s l rest : List ℕ) : Type 0 where
  pub whole : s ≡ l ++ rest
  pub passes : Every test l
  pub halts : Halts test rest

pub record FrontOf (test : ℕ → Bool) (s : List ℕ) (n : ℕ) : Type 0 where
  pub front : List ℕ
  pub rest : List ℕ
  pub is_front : Front test s front rest
  pub size : length front ≡ n
