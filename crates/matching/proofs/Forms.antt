-- One character of the folding, and one byte of the trimming.
use Prim.Native.Nat.{ℕ}
use mathlib.Core.Path.{◌≡◌, refl}
use mathlib.Core.List.{List, [], ◌∷◌, ◌++◌}
use mathlib.Core.Bool.{Bool, true, false, cond}
use lib.ListN.{get_or}
use Rattle.scan.specs.Byte.{blank}
use Rattle.casefold.specs.Fold.{expand, lower}
use Rattle.folding.specs.Pair.{pair, code_of}
use Rattle.matching.specs.Reading.{folds_from, folds, spaced, squeeze}

pub folds_nil : folds [] ≡ []
unfolding folds_from
folds_nil = refl

pub folds_pair : (b x : ℕ) (s : List ℕ) → pair b x ≡ true → folds (b ∷ x ∷ s) ≡ expand (code_of b x) ++ folds s
unfolding folds_from
folds_pair b x s e = rw (e, folds_from)

pub folds_one : (b : ℕ) (s : List ℕ) → pair b (get_or s 0 0) ≡ false → folds (b ∷ s) ≡ lower b ∷ folds s
unfolding folds_from
folds_one b s e = rw (e, folds_from)

pub squeeze_blank : (b : ℕ) (s : List ℕ) (tight : Bool) → blank b ≡ true → squeeze (b ∷ s) tight ≡ cond tight (squeeze s true) (spaced (squeeze s true))
unfolding squeeze
squeeze_blank b s true e = rw (e, squeeze)
squeeze_blank b s false e = rw (e, squeeze)

pub squeeze_ink : (b : ℕ) (s : List ℕ) (tight : Bool) → blank b ≡ false → squeeze (b ∷ s) tight ≡ b ∷ squeeze s false
unfolding squeeze
squeeze_ink b s tight e = rw (e, squeeze)
