-- The last bracket on the stack says where the pair opens, and its line.
use Rattle.paragraph.proofs.Stack.{bracket_closes, pair_on_top, place_on, line_on, inner_inside}
use Prim.Native.Nat.{◌-◌}
use native.Mathlib.Omega.{arith}
use Rattle.paragraph.proofs.close_bracket.Goals as goal

pub close_pair-requires : goal.close_pair-requires
close_pair-requires c =
    let a = c.args in
    let p = c.requires in
    let s = a.definitions.now.note.now in
    let i = inner_inside s a.start a.p.now a.spans.now a.w a.stack.now p.waits p.closing in record {
      lined_pair = pair_on_top s a.start a.p.now a.spans.now a.w a.stack.now p.waits p.closing (place_on a.stack.now (a.w.depth - 1) _ i) (line_on a.stack.now (a.w.depth - 1) _ i) (omega arith);
      bounds = p.bounds;
      indexed = p.indexed;
      prepared = p.prepared;
    }

pub returns : goal.returns
returns c =
    let a = c.args in
    let p = c.requires in
    let s = a.definitions.now.note.now in
    let i = inner_inside s a.start a.p.now a.spans.now a.w a.stack.now p.waits p.closing in
    let closed = c.close_pair.ensures in record {
      brackets = bracket_closes s a.start a.p.now a.spans.now a.w a.stack.now p.waits p.closing _ _ p.lined (place_on a.stack.now (a.w.depth - 1) _ i) closed.closes;
      prepared_2 = closed.prepared_2;
      indexed_2 = closed.indexed_2;
    }
