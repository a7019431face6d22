-- Reading definitions back from a table, and looking a label up.
use Rattle.std.specs.Prelude.{ℕ, zero, suc, ◌+◌, ◌-◌, ◌*◌, ◌≤◌, ◌<◌, List, [], ◌∷◌, true, false, length, get_or, None, Option, Some}
use Rattle.matching.specs.Reading.{matches}
use Rattle.row.specs.declared.Range.{Range}
use Rattle.row.specs.declared.Definition.{Definition}
use Rattle.texts.specs.Texts.{Texts, text_of}
use Rattle.row.specs.Row.{range, definition, Listed, listed, definitions_of, width, whole_rows}
use Rattle.row.specs.First.{bytes_of, labels_of}

abbrev pub range_at : List ℕ → ℕ → Range
range_at t at = range (get_or t at 0) (get_or t (at + 1) 0)

-- the number of the text that row k names
abbrev pub text_at : List ℕ → ℕ → ℕ
text_at t k = get_or t (k * width) 0

-- the definition whose row is row k
abbrev pub definition_at : List ℕ → ℕ → Definition
definition_at t k = definition (range_at t (k * width + 1)) (range_at t (k * width + 3)) (range_at t (k * width + 5))

-- the entry whose row is row k
abbrev pub listed_at : List ℕ → ℕ → Listed
listed_at t k = listed (text_at t k) (definition_at t k)

-- the entries of n rows from row k on
unfoldable pub listed_from : List ℕ → ℕ → ℕ → List Listed
listed_from t k zero = []
listed_from t k (suc n) = listed_at t k ∷ listed_from t (k + 1) n

-- their definitions
abbrev pub definitions_from : List ℕ → ℕ → ℕ → List Definition
definitions_from t k n = definitions_of (listed_from t k n)

-- the bytes of the label of the row that starts at place `at` of the table
abbrev pub label_at : Texts → List ℕ → ℕ → List ℕ
label_at T t at = bytes_of (text_of T (get_or t at 0)) (range_at t (at + 1))

-- the first of these labels, numbered from k on, that matches
unfoldable pub match_from : ℕ → List (List ℕ) → List ℕ → Option ℕ
match_from k [] label = None
match_from k (l ∷ ls) label = elim (matches l label) [ true ↦ Some k | false ↦ match_from (k + 1) ls label ]

abbrev pub first_match : List (List ℕ) → List ℕ → Option ℕ
first_match = match_from 0

-- the first row from row k on, of the table's first `count` rows, whose label matches
abbrev pub row_from : Texts → List ℕ → List ℕ → ℕ → ℕ → Option ℕ
row_from T t label k count = match_from k (labels_of T (listed_from t k (count - k))) label

-- the first of the table's `count` rows whose label matches
unfoldable pub row_of : Texts → List ℕ → List ℕ → ℕ → Option ℕ
row_of T t label count = first_match (labels_of T (listed_from t 0 count)) label

-- ---- rows that can be looked up
pub record Within (s : List ℕ) (r : Range) : Type 0 where
  pub ordered : r.start ≤ r.end
  pub inside : r.end ≤ length s

-- `count` rows are in the table, and each one's label lies within the text that it names
pub record Fit (T : Texts) (t : List ℕ) (count : ℕ) : Type 0 where
  pub room : count ≤ whole_rows t
  pub labels : (k : ℕ) → k < count → Within (text_of T (text_at t k)) (definition_at t k).label
