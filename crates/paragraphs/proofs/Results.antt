-- A result by its error.
use Rattle.std.specs.Prelude.{Result, Ok, Err, IsErrAnd}
use mathlib.Core.Path.{◌≡◌}

pub is_err : {T E : Type 0} (r : Result T E) {x : E} → IsErrAnd r (λ y. y ≡ x) → r ≡ Err x
is_err (Ok y) h = absurd h
is_err (Err y) h = cc
