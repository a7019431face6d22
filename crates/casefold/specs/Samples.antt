-- Characters, and what each folds to, by computation.
use Rattle.std.specs.Prelude.{ℕ, zero, suc, ◌+◌, ◌-◌, ◌≡◌, refl, List, [], ◌∷◌, map, true, false, length, eqb}
use Rattle.casefold.specs.Table.{table}
use Rattle.casefold.specs.Fold.{Several, ◌⇒◌, several, fold_by, fold}

-- n characters from c on
abbrev up_from : ℕ → ℕ → List ℕ
up_from c zero = []
up_from c (suc n) = c ∷ up_from (c + 1) n

-- from first to last, both among them
abbrev range : ℕ → ℕ → List ℕ
range first last = up_from first (last + 1 - first)

-- each character of the range folds to the one that is so many later
abbrev Add : ℕ → ℕ → ℕ → Type 0
Add first last n = map fold (range first last) ≡ map (λ (c : ℕ). (c + n) ∷ []) (range first last)

-- document 02, request 3: "Check rows"
pub record CheckRows : Type 0 where
  -- "U+0391-U+03A1 and U+03A3-U+03AB add 32"
  pub greek : Add 0x0391 0x03A1 32
  pub greek_on : Add 0x03A3 0x03AB 32
  -- "U+0410-U+042F add 32"
  pub cyrillic : Add 0x0410 0x042F 32
  -- "U+0400-U+040F add 80"
  pub cyrillic_first : Add 0x0400 0x040F 80
  -- "U+00C0-U+00DE but not U+00D7 add 32"
  pub latin : Add 0x00C0 0x00D6 32
  pub cross : fold 0x00D7 ≡ 0x00D7 ∷ []
  pub latin_on : Add 0x00D8 0x00DE 32
  -- "U+03C2 gives U+03C3"
  pub final_sigma : fold 0x03C2 ≡ 0x03C3 ∷ []

pub check_rows : CheckRows
unfolding table several fold_by fold
check_rows = record {
  greek = refl;
  greek_on = refl;
  cyrillic = refl;
  cyrillic_first = refl;
  latin = refl;
  cross = refl;
  latin_on = refl;
  final_sigma = refl;
}

abbrev pub samples : List Several
samples =
    -- those that fold to several
    0x00DF ⇒ (0x0073 ∷ 0x0073 ∷ [])
    ∷ 0x0130 ⇒ (0x0069 ∷ 0x0307 ∷ [])
    ∷ 0x0149 ⇒ (0x02BC ∷ 0x006E ∷ [])
    ∷ 0x01F0 ⇒ (0x006A ∷ 0x030C ∷ [])
    ∷ 0x0390 ⇒ (0x03B9 ∷ 0x0308 ∷ 0x0301 ∷ [])
    ∷ 0x03B0 ⇒ (0x03C5 ∷ 0x0308 ∷ 0x0301 ∷ [])
    -- to a letter far away: the micro sign, the long s, the iota below
    ∷ 0x00B5 ⇒ (0x03BC ∷ [])
    ∷ 0x017F ⇒ (0x0073 ∷ [])
    ∷ 0x0345 ⇒ (0x03B9 ∷ [])
    -- two to one
    ∷ 0x01C4 ⇒ (0x01C6 ∷ [])
    ∷ 0x01C5 ⇒ (0x01C6 ∷ [])
    -- past the table
    ∷ 0x023A ⇒ (0x2C65 ∷ [])
    -- no letter stands at U+03A2
    ∷ 0x03A2 ⇒ (0x03A2 ∷ [])
    -- the last of the table, and the first later ones
    ∷ 0x052E ⇒ (0x052F ∷ [])
    ∷ 0x052F ⇒ (0x052F ∷ [])
    ∷ 0x0530 ⇒ (0x0530 ∷ [])
    ∷ 0x0531 ⇒ (0x0531 ∷ [])
    -- later: the capital sharp s, the ohm sign, the kelvin sign
    ∷ 0x1E9E ⇒ (0x1E9E ∷ [])
    ∷ 0x2126 ⇒ (0x2126 ∷ [])
    ∷ 0x212A ⇒ (0x212A ∷ [])
    ∷ []

pub samples_hold : map (λ (s : Several). fold s.from) samples ≡ map (λ (s : Several). s.to) samples
unfolding table several fold_by fold
samples_hold = refl

-- ---- the table beside the short list

-- the places of 0 in a list whose first entry stands at k
abbrev zeros : List ℕ → ℕ → List ℕ
zeros [] k = []
zeros (x ∷ l) k = elim (eqb x 0) [ true ↦ k ∷ zeros l (k + 1) | false ↦ zeros l (k + 1) ]

pub record TableAndList : Type 0 where
  pub entries : length table ≡ 1328
  -- 0 stands at U+0000, which folds to itself, and at those of the short list
  pub gaps : zeros table 0 ≡ 0 ∷ map (λ (s : Several). s.from) several

pub table_and_list : TableAndList
unfolding table several
table_and_list = record { entries = refl; gaps = refl }
