-- The brackets that are open, by computation.
use Rattle.std.specs.Prelude.{◌≡◌, refl, List, [], ◌∷◌, None}
use Rattle.line.specs.Promise.{none}
use Rattle.step.specs.declared.Walk.{Walk}
use Rattle.paragraph.specs.declared.Bracket.{Bracket}
use Rattle.paragraph.specs.Promise.{bracket, open_places, opened, pushed}

-- at place 9, two brackets are open; the third was left by an earlier paragraph, or by a bracket that is closed
abbrev walk : Walk
walk = record { at = 9; last = None; row = 0; depth = 2; line = none }

abbrev stack : List Bracket
stack = bracket 3 1 ∷ bracket 7 1 ∷ bracket 5 1 ∷ []

pub record Open : Type 0 where
  pub two : open_places walk stack ≡ 7 ∷ 3 ∷ []
  pub one_more : open_places (opened 10 walk) (pushed stack walk 1) ≡ 9 ∷ 7 ∷ 3 ∷ []

pub samples : Open
samples = record { two = refl; one_more = refl }
