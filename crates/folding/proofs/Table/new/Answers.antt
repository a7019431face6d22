-- The constant is the table, entry by entry.
use mathlib.Core.Path.{refl}
use Rattle.casefold.specs.Table.{table}
use Rattle.folding.proofs.Table.new.Goals as goal

pub invariant_of-result : goal.invariant_of-result
unfolding table
invariant_of-result c = record { whole = refl }
