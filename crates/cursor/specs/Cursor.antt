-- A cursor into a note's span rows: the next link or image whose text ends. Rows stand in order of end, and so do the ends of their texts.
use Rattle.std.specs.Prelude.{ℕ, ◌≤◌, ◌<◌, ◌≡◌, List, Bool, true, false, cond, not, ◌&&◌, leb, ltb}
use Rattle.std.proofs.Math.Option.{some}
use Rattle.std.proofs.Math.ListN.{get_elem?}
use Rattle.span.specs.Row.{row_at}
use Rattle.page.specs.Reading.{is_code, text_end}

-- the row is a link or an image whose text does not end before place i
abbrev pub waits : ℕ → List ℕ → Bool
waits i r = not (is_code r) && leb i (text_end r)

-- at place i no row before the cursor still waits
pub record Behind (rows : List (List ℕ)) (cursor i : ℕ) : Type 0 where
  pub passed : (j : ℕ) (r : List ℕ) → j < cursor → get_elem? rows j ≡ some r → waits i r ≡ false

-- ---- rows of the table
-- the search from row `start` on ends at row k: those before it do not wait, and it does, if it is one of the `count` rows
pub record Finds (u : List ℕ) (count : ℕ) (i start k : ℕ) : Type 0 where
  pub passed : (j : ℕ) → start ≤ j → j < k → waits i (row_at u j) ≡ false
  pub there : k < count → waits i (row_at u k) ≡ true

-- where the text of row k ends, or e if that comes first or there is no such row
unfoldable pub closing_place : List ℕ → ℕ → ℕ → ℕ → ℕ
closing_place u count k e = cond (ltb k count) (cond (ltb (text_end (row_at u k)) e) (text_end (row_at u k)) e) e
