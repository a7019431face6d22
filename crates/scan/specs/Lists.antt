-- Whether two lists of numbers are one.
use Rattle.std.specs.Prelude.{ℕ, List, [], ◌∷◌, Bool, true, false, ◌&&◌, eqb}

unfoldable pub equals : List ℕ → List ℕ → Bool
equals [] [] = true
equals [] (y ∷ t) = false
equals (x ∷ s) [] = false
equals (x ∷ s) (y ∷ t) = eqb x y && equals s t
