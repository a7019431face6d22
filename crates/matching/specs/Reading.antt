-- The compared form of a label by reading its bytes from the front, and whether two labels match.
use Rattle.std.specs.Prelude.{ℕ, List, [], ◌∷◌, ◌++◌, Bool, true, false, get_or}
use Rattle.scan.specs.Byte.{blank}
use Rattle.casefold.specs.Fold.{expand}
-- passed on to those who compute with what stands here
unfoldable pub use Rattle.scan.specs.Lists.{equals}
unfoldable pub use Rattle.casefold.specs.Fold.{lower}
unfoldable pub use Rattle.folding.specs.Pair.{pair, code_of}

-- every character folded. Only ASCII and the characters of two bytes that the table has fold to others: every other byte stands for itself.
-- second: the first byte of the text is the second of such a character
unfoldable pub folds_from : List ℕ → Bool → List ℕ
folds_from [] second = []
folds_from (b ∷ s) true = folds_from s false
folds_from (b ∷ s) false =
    elim (pair b (get_or s 0 0)) [ true ↦ expand (code_of b (get_or s 0 0)) ++ folds_from s true | false ↦ lower b ∷ folds_from s false ]

abbrev pub folds : List ℕ → List ℕ
folds s = folds_from s false

-- a space before what follows, if anything does
unfoldable pub spaced : List ℕ → List ℕ
spaced [] = []
spaced (b ∷ s) = 32 ∷ b ∷ s

-- what is left of a text with its blanks trimmed and each inner run of them one space; tight: nothing of it was read yet, or a blank just was
unfoldable pub squeeze : List ℕ → Bool → List ℕ
squeeze [] tight = []
squeeze (b ∷ s) tight =
    elim (blank b) [ true ↦ elim tight [ true ↦ squeeze s true | false ↦ spaced (squeeze s true) ] | false ↦ b ∷ squeeze s false ]

unfoldable pub compared : List ℕ → List ℕ
compared l = squeeze (folds l) true

-- whether the labels a and b are equal
unfoldable pub matches : List ℕ → List ℕ → Bool
matches a b = equals (compared a) (compared b)
