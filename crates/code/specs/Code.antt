-- What stands on the page for a code span.
use Rattle.std.specs.Prelude.{ℕ, ◌≡◌, Bool, true, false, cond, eqb}
use mathlib.Core.List.{List, [], ◌∷◌, ◌++◌, map, flat_map}
use Rattle.scan.specs.Ascii.{ascii}
use Rattle.scan.specs.Every.{Every}
use Rattle.escaping.specs.Escaping.{escaped}

-- "LF becomes a space"
abbrev pub feed_as_space : ℕ → ℕ
feed_as_space b = cond (eqb b 10) 32 b

abbrev pub space : ℕ → Bool
space b = eqb b 32

-- "if the content starts and ends with a space and is not all spaces, one is dropped at each end"
pub data Trimmed : List ℕ → List ℕ → Type 0 where
  dropped : {m : List ℕ} → (Every space (32 ∷ (m ++ 32 ∷ [])) → ⊥) → Trimmed (32 ∷ (m ++ 32 ∷ [])) m
  all_spaces : {l : List ℕ} → Every space l → Trimmed l l
  other_start : (b : ℕ) (l : List ℕ) → space b ≡ false → Trimmed (b ∷ l) (b ∷ l)
  other_end : (l : List ℕ) (b : ℕ) → space b ≡ false → Trimmed (l ++ b ∷ []) (l ++ b ∷ [])

-- m is the content of a code span whose bytes are l; its ends are judged after the LFs became spaces
abbrev pub Code : List ℕ → List ℕ → Type 0
Code l m = Trimmed (map feed_as_space l) m

-- "Code: `<code>`, content, `</code>`"
abbrev pub code_open : List ℕ
code_open = ascii "<code>"

abbrev pub code_close : List ℕ
code_close = ascii "</code>"

-- the bytes l between the backtick strings, as they stand on the page: with tags, or without, as in an image's description
pub data CodeElement : Bool → List ℕ → List ℕ → Type 0 where
  code : {l m : List ℕ} → Code l m → CodeElement true l (code_open ++ flat_map escaped m ++ code_close)
  content : {l m : List ℕ} → Code l m → CodeElement false l (flat_map escaped m)
