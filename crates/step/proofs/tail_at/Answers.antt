-- The marks of what follows the closing bracket are lent to the tail reader, whose answer is the tail of the pair.
use Rattle.tail.specs.Ending.{all_labels}
use Rattle.step.proofs.Marks.{lent, back}
use Rattle.step.proofs.Bounds.{tail_here}
use Prim.Native.Nat.{◌+◌}
use mathlib.Core.Path.{◌∙◌}
use Rattle.step.proofs.tail_at.Goals as goal

pub tail_after-requires : goal.tail_after-requires
tail_after-requires c =
    let a = c.args in
    let p = c.requires in record {
      ready = p.indexed;
      prepared = lent a.p.now a.closing p.text_to.close_at p.text_to.inside a.marks.now p.prepared;
    }

pub returns : goal.returns
returns c =
    let a = c.args in
    let p = c.requires in
    let told = c.tail_after.ensures in record {
      result_value = told.by_index (a.closing + 1) ∙ tail_here a.p.now (all_labels a.definitions.now) a.from a.closing;
      sized = told.sized;
      indexed_2 = told.ready_2;
      prepared_2 = back a.p.now a.closing p.text_to.close_at p.text_to.inside a.marks.now _ _ p.prepared told.prepared_2;
    }
