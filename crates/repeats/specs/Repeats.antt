-- Which rows of an index can repeat a label, and the least row that conflicts.
use Rattle.std.specs.Prelude.{ℕ, ◌+◌, ◌≤◌, ◌<◌, ◌≡◌, List, Bool, true, take}
use Rattle.texts.specs.Texts.{Texts}
use Rattle.index.specs.Index.{key_in, entry_at, row_at}
use Rattle.joined.specs.Reading.{joined}
use Rattle.conflict.specs.Conflict.{entry}
use Rattle.conflict.specs.Reading.{conflicts}

-- the entry before place p has another key
abbrev pub New : List ℕ → ℕ → Type 0
New index p = (q : ℕ) → q + 1 ≡ p → key_in (entry_at index q) ≡ key_in (entry_at index p) → ⊥

-- whether definition k of the joined list differs from the first of equal label before it
abbrev pub conflicts_at : Texts → ℕ → Bool
conflicts_at T k = conflicts T (take k (joined T)) (entry (joined T) k)

-- of the rows at the places before p, none that conflicts is less than `best`, which conflicts if it is a row
pub record Least (T : Texts) (count : ℕ) (index : List ℕ) (p best : ℕ) : Type 0 where
  pub few : best ≤ count
  pub is : best < count → conflicts_at T best ≡ true
  pub least : (q : ℕ) → q < p → conflicts_at T (row_at index q) ≡ true → best ≤ row_at index q
