-- Lines of places, by computation.
use Rattle.std.specs.Prelude.{ℕ, ◌≡◌, refl, List, [], ◌∷◌, map}
use Rattle.scan.specs.Ascii.{ascii}
use Rattle.line.specs.Line.{feeds, line_of}

-- the whole example of document 01, which "gains 1 on its definition row and 3 on its span row": at the label's opening bracket and at the span's start
abbrev example : List ℕ
example = ascii "[max]: /q2/max \"June\"\n\nUse [max].\n"

pub record Lines : Type 0 where
  pub definition : line_of example 0 ≡ 1
  pub span : line_of example 27 ≡ 3
  -- an LF stands on the line that it ends; the next place is on the next line, at the text's end too
  pub ends : map (line_of (ascii "a\n\nb\n")) (0 ∷ 1 ∷ 2 ∷ 3 ∷ 4 ∷ 5 ∷ []) ≡ 1 ∷ 1 ∷ 2 ∷ 3 ∷ 3 ∷ 4 ∷ []
  pub empty : line_of [] 0 ≡ 1

pub samples : Lines
unfolding feeds line_of
samples = record { definition = refl; span = refl; ends = refl; empty = refl }
