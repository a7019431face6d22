-- By the index where it holds the rows, else by the slow search.
use Rattle.repeats.proofs.first_conflict.Goals as goal

pub invariant_of-rows : goal.invariant_of-rows
invariant_of-rows c = record { sorted = (c.is_built.ensures.holds c.if-is_built.true).sorted }

pub by_index-requires : goal.by_index-requires
by_index-requires c = record { joined = c.requires.joined; covers = (c.is_built.ensures.holds c.if-is_built.true).covers }
