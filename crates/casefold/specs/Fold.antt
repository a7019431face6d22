-- What a character folds to: by the table, and by a short list where it folds to several. Document 02, request 3.
use Rattle.std.specs.Prelude.{ℕ, ◌+◌, ◌/◌, ◌%◌, List, [], ◌∷◌, ◌++◌, Bool, true, false, cond, not, ◌&&◌, get_or, eqb, ltb}
use Rattle.scan.specs.Byte.{within, blank}
use Rattle.casefold.specs.Table.{table}

-- a character, and those that it folds to
pub record Several : Type 0 where
  pub from : ℕ
  pub to : List ℕ

infix 70 ◌⇒◌
abbrev pub ◌⇒◌ : ℕ → List ℕ → Several
c ⇒ l = record { from = c; to = l }

-- "a short list for those that fold to several characters, such as ß to ss"
unfoldable pub several : List Several
several =
    0x00DF ⇒ (0x0073 ∷ 0x0073 ∷ [])
    ∷ 0x0130 ⇒ (0x0069 ∷ 0x0307 ∷ [])
    ∷ 0x0149 ⇒ (0x02BC ∷ 0x006E ∷ [])
    ∷ 0x01F0 ⇒ (0x006A ∷ 0x030C ∷ [])
    ∷ 0x0390 ⇒ (0x03B9 ∷ 0x0308 ∷ 0x0301 ∷ [])
    ∷ 0x03B0 ⇒ (0x03C5 ∷ 0x0308 ∷ 0x0301 ∷ [])
    ∷ []

-- what the list's first entry about c says; where there is none, the table's entry, and past the table's end c itself
unfoldable pub fold_by : List Several → ℕ → List ℕ
fold_by [] c = get_or table c c ∷ []
fold_by (s ∷ more) c = elim (eqb s.from c) [ true ↦ s.to | false ↦ fold_by more c ]

-- what c folds to. "Later characters match themselves"
unfoldable pub fold : ℕ → List ℕ
fold c = fold_by several c

-- one character after the other
unfoldable pub fold_all : List ℕ → List ℕ
fold_all [] = []
fold_all (c ∷ l) = fold c ++ fold_all l

-- ---- UTF-8

-- the bytes of a character
unfoldable pub utf8 : ℕ → List ℕ
utf8 c =
    cond (ltb c 0x80) (c ∷ [])
    (cond (ltb c 0x800) ((0xC0 + c / 64) ∷ (0x80 + c % 64) ∷ [])
    (cond (ltb c 0x10000) ((0xE0 + c / 4096) ∷ (0x80 + c / 64 % 64) ∷ (0x80 + c % 64) ∷ [])
    ((0xF0 + c / 262144) ∷ (0x80 + c / 4096 % 64) ∷ (0x80 + c / 64 % 64) ∷ (0x80 + c % 64) ∷ [])))

unfoldable pub utf8s : List ℕ → List ℕ
utf8s [] = []
utf8s (c ∷ l) = utf8 c ++ utf8s l

-- the bytes of what c folds to
unfoldable pub expand : ℕ → List ℕ
expand c = utf8s (fold c)

-- ---- below U+0080, and blanks

-- "A to Z to a to z"
unfoldable pub lower : ℕ → ℕ
lower b = cond (within 65 90 b) (b + 32) b

-- none of them is a blank
unfoldable pub inked : List ℕ → Bool
inked [] = true
inked (c ∷ l) = not (blank c) && inked l
