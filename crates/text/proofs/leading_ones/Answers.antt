-- Both sides are computed at each byte.
use borrow.Author.Rules.{rules}
use borrow.Author.Tests.{eqb-true}
use mathlib.Core.Path.{refl}
use mathlib.Core.Bool.{Bool}
use Prim.Native.Nat.{ℕ, ◌-◌}
use lib.Dec.{eqb}
use lib.Count.{count_leading_zeros}
use Rattle.text.specs.Sequences.{ones_from, leading_ones}
use Rattle.scan.proofs.Below.{at}
use Rattle.text.proofs.leading_ones.Goals as goal

right : ℕ → Bool
right b = eqb (count_leading_zeros 8 (255 - b)) (leading_ones b)

pub returns : goal.returns
unfolding right count_leading_zeros leading_ones ones_from
returns c = eqb-true _ _ (at right 256 refl c.args.b (search rules))
