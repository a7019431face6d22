-- When two link labels are equal: their compared forms are one list of bytes.
use Rattle.std.specs.Prelude.{ℕ, ◌+◌, ◌*◌, ◌-◌, ◌≡◌, List, [], ◌∷◌, ◌++◌, true, false, get_or}
use Rattle.scan.specs.Byte.{blank}
use Rattle.scan.specs.Every.{Every}
use Rattle.text.specs.Utf8.{Character, Begins}
use Rattle.casefold.specs.Fold.{expand}

-- the code point that the bytes of a character spell
unfoldable pub code_point : List ℕ → ℕ
code_point [] = 0
code_point (a ∷ []) = a
code_point (a ∷ b ∷ []) = (a - 0xC0) * 64 + (b - 0x80)
code_point (a ∷ b ∷ c ∷ []) = ((a - 0xE0) * 64 + (b - 0x80)) * 64 + (c - 0x80)
code_point (a ∷ b ∷ c ∷ d ∷ l) = (((a - 0xF0) * 64 + (b - 0x80)) * 64 + (c - 0x80)) * 64 + (d - 0x80)

-- f is l with each character folded: UTF-8 of what its code point folds to. A byte at which no character of the table of UTF-8 starts
-- stands for itself.
pub data Folded : List ℕ → List ℕ → Type 0 where
  none : Folded [] []
  good : {c l f : List ℕ} → Character c → Folded l f → Folded (c ++ l) (expand (code_point c) ++ f)
  bad : {b : ℕ} {l f : List ℕ} → ((n : ℕ) → Begins Character (b ∷ l) n → ⊥) → Folded l f → Folded (b ∷ l) (b ∷ f)

-- any number of blanks: "space, tab and LF"
abbrev pub Blanks : List ℕ → Type 0
Blanks = Every blank

-- one byte or more, and none of them blank
pub data Word : List ℕ → Type 0 where
  last : {b : ℕ} → blank b ≡ false → Word (b ∷ [])
  byte : {b : ℕ} {w : List ℕ} → blank b ≡ false → Word w → Word (b ∷ w)

-- a word is over where the label is, and before a blank
abbrev pub Over : List ℕ → Type 0
Over l = blank (get_or l 0 32) ≡ true

-- l is these words, with blanks before, between and after them
pub data Words : List ℕ → List (List ℕ) → Type 0 where
  rest : {g : List ℕ} → Blanks g → Words g []
  word : {g w l : List ℕ} {ws : List (List ℕ)} → Blanks g → Word w → Over l → Words l ws → Words (g ++ (w ++ l)) (w ∷ ws)

-- "make each inner run of them one space": a space between two words, and none before the first or after the last
unfoldable pub joined : List (List ℕ) → List ℕ
joined [] = []
joined (w ∷ []) = w
joined (w ∷ v ∷ ws) = w ++ 32 ∷ joined (v ∷ ws)

-- c is the form in which the label l is compared: folded (document 02, request 3: "Unicode case fold"), then "trim space, tab and LF,
-- make each inner run of them one space"
pub record Compared (l c : List ℕ) : Type 0 where
  pub folded : List ℕ
  pub folding : Folded l folded
  pub words : List (List ℕ)
  pub splits : Words folded words
  pub form : c ≡ joined words

-- "Equal labels: ..; then the bytes agree. Escapes are not undone."
pub record Equal (a b : List ℕ) : Type 0 where
  pub form : List ℕ
  pub left : Compared a form
  pub right : Compared b form
