-- Lines of a note, with their LF.
use Rattle.std.specs.Prelude.{ℕ, ◌≡◌, List, [], ◌∷◌, ◌++◌, Bool, not, ◌||◌, eqb}
use Rattle.scan.specs.Every.{Every}

-- space or tab
abbrev pub padding : ℕ → Bool
padding b = eqb b 32 || eqb b 9

-- any byte but LF
abbrev pub in_line : ℕ → Bool
in_line b = not (eqb b 10)

-- "An end of line is its LF, taken with it, or the note's end": it stands at the front of s, and `rest` is left after it
pub data EndOfLine : List ℕ → List ℕ → Type 0 where
  feed : {rest : List ℕ} → EndOfLine (10 ∷ rest) rest
  end : EndOfLine [] []

-- "A note is bytes, .. with LF line ends": s is these lines one after the other; each ends with its LF, only the last may have none, and none is empty
pub data Lines : List ℕ → List (List ℕ) → Type 0 where
  none : Lines [] []
  line : {body s : List ℕ} {ls : List (List ℕ)} → Every in_line body → Lines s ls → Lines (body ++ 10 ∷ s) ((body ++ 10 ∷ []) ∷ ls)
  last : {b : ℕ} {body : List ℕ} → Every in_line (b ∷ body) → Lines (b ∷ body) ((b ∷ body) ∷ [])

-- "A blank line has only spaces and tabs", before its end
pub record Blank (l : List ℕ) : Type 0 where
  pub body : List ℕ
  pub ending : List ℕ
  pub whole : l ≡ body ++ ending
  pub padded : Every padding body
  pub ended : EndOfLine ending []
