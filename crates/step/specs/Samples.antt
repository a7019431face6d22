-- Rows stored from a row on, by computation.
use Rattle.std.specs.Prelude.{ℕ, ◌≡◌, refl, List, [], ◌∷◌, ◌++◌, replicate}
use Rattle.scan.specs.Ascii.{ascii}
use Rattle.line.specs.Line.{feeds, line_of}
use Rattle.row.specs.Row.{range}
use Rattle.rows.specs.Rows as rows
use Rattle.span.specs.declared.Span.{Span}
use Rattle.span.specs.Row.{numbers_on, code_span_row, shortcut_row}
use Rattle.step.specs.Reading.{stored_all}

-- the whole example of document 01, with a code span after its link
abbrev note : List ℕ
note = ascii "[max]: /q2/max \"June\"\n\nUse [max] `c`"

abbrev link : Span
link = shortcut_row (range 27 32) (range 28 31) 0 (range 7 14) (range 16 20)

abbrev code : Span
code = code_span_row (range 33 36) (range 34 35)

abbrev nines : ℕ → List ℕ
nines n = replicate n 9

pub record Stored : Type 0 where
  pub both : stored_all note (nines 34) 1 (link ∷ code ∷ []) ≡ nines 11 ++ numbers_on 3 link ++ numbers_on 3 code ++ nines 1
  pub first_fits : stored_all note (nines 32) 1 (link ∷ code ∷ []) ≡ nines 11 ++ numbers_on 3 link ++ nines 10
  pub none_fits : stored_all note (nines 21) 1 (link ∷ code ∷ []) ≡ nines 21
  pub no_table : stored_all note [] 0 (link ∷ code ∷ []) ≡ []

pub samples : Stored
unfolding feeds line_of rows.stored_all rows.stored
samples = record { both = refl; first_fits = refl; none_fits = refl; no_table = refl }
