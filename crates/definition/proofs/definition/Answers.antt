use native.Mathlib.Omega.{arith}
use Rattle.scan.specs.Reading.{past}
use Rattle.definition.proofs.definition.Goals as goal

pub overflow_sub-i : goal.overflow_sub-i
unfolding past
overflow_sub-i c = omega arith
