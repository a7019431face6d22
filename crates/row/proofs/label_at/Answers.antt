-- The row names the text, and its label lies there.
use native.Mathlib.Omega.{arith}
use mathlib.Core.Path.{refl}
use Rattle.row.proofs.label_at.Goals as goal

pub overflow_cast-table : goal.overflow_cast-table
overflow_cast-table c = omega (arith, c.type_inv.table c.args.at)

pub part_of-requires : goal.part_of-requires
part_of-requires c = rw c.range_at-r.ensures c.requires.within

pub returns : goal.returns
returns c = rw (c.part_of.ensures, c.range_at-r.ensures) refl
