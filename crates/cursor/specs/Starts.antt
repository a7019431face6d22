-- A table that tells for each place of a note which row starts there, and whether tags are written for it.
use Rattle.std.specs.Prelude.{ℕ, zero, suc, ◌+◌, ◌-◌, ◌%◌, ◌≤◌, ◌<◌, ◌≡◌, ◌↔◌, List, [], ◌∷◌, Bool, true, cond, length, get_or, eqb, ltb}
use Rattle.std.proofs.Math.Option.{Option, none, some}
use Rattle.std.proofs.Math.ListN.{get_elem?}
use Rattle.scan.specs.Member.{In}
use Rattle.text.specs.Utf8.{note_limit}
use Rattle.span.specs.Row.{row_at}
use Rattle.page.specs.Reading.{is_image, row_start, text_start, first_row, starts, describes, tagged}

-- its places: one for each byte that a note may have
abbrev pub places : ℕ
places = note_limit

-- ---- its entries: 0 where no row starts; else the number of the row, from 1, and more if no tags are written for it
abbrev pub free : ℕ → Bool
free e = eqb e 0

abbrev pub entry_of : ℕ → Bool → ℕ
entry_of k tags = cond tags (k + 1) (k + 1 + places)

-- and back
abbrev pub tags_in : ℕ → Bool
tags_in e = ltb e places

abbrev pub index_in : ℕ → ℕ
index_in e = (e - 1) % places

-- the entry of a place by the first of these rows that starts there, if one does
pub data Entry (rows : List (List ℕ)) : Option (List ℕ) → ℕ → Type 0 where
  nothing : Entry rows none 0
  row : (k : ℕ) (r : List ℕ) → get_elem? rows k ≡ some r → Entry rows (some r) (entry_of k (tagged rows r))

-- the table st tells of these rows, which are fewer than its places
pub record Started (rows : List (List ℕ)) (st : List ℕ) : Type 0 where
  pub few : length rows < places
  pub long : length st ≡ places
  pub entries : (i : ℕ) → i < places → Entry rows (first_row (starts i) rows) (get_or st i 0)

-- ---- the rows that it is made of
-- n rows of the span table u, from row k on
abbrev pub rows_from : List ℕ → ℕ → ℕ → List (List ℕ)
rows_from u k zero = []
rows_from u k (suc n) = row_at u k ∷ rows_from u (k + 1) n

-- they are fewer than its places and start at them, and each image stands after all that it holds: a row starts in its description exactly if it is an earlier row
-- and does not start before the description does
pub record Startable (rows : List (List ℕ)) : Type 0 where
  pub few : length rows < places
  pub inside : (r : List ℕ) → In r rows → row_start r < places
  pub nested : (i j : ℕ) (r d : List ℕ) → get_elem? rows i ≡ some r → get_elem? rows j ≡ some d
      → (describes r d ≡ true) ↔ ((i < j) × (is_image d ≡ true) × (text_start d ≤ row_start r))

-- where the first description starts of the images met, which was `from` before the row r
abbrev pub described_from : List ℕ → ℕ → ℕ
described_from r from = cond (is_image r) (cond (ltb (text_start r) from) (text_start r) from) from
