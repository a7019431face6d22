-- What was counted and what is left come to the whole.
use native.Mathlib.Omega.{arith}
use mathlib.Core.Path.{refl, sym, ◌∙◌}
use Rattle.inline.specs.Pieces.{backtick}
use Rattle.inline.specs.ReadingPieces.{quiet}
use Rattle.most.proofs.Passing.{one_if, counting_starts, pass_bracket, pass_run, pass_text, past_on, all_ends, all_held}
use Rattle.most.proofs.most_of.Goals as goal

pub loop-i-init : goal.loop-i-init
loop-i-init c = counting_starts _

pub with_mark-m-requires : goal.with_mark-m-requires
with_mark-m-requires c = let l = c.loop-i.invariant in record {
  ends_bound = omega (arith, l.few_ends, c.requires);
  held_bound = omega (arith, l.few_held, c.requires);
}

pub loop-i-smaller-then-is_bracket : goal.loop-i-smaller-then-is_bracket
loop-i-smaller-then-is_bracket c = omega (arith, c.loop-i-test.true)

pub loop-i-preserved-then-is_bracket : goal.loop-i-preserved-then-is_bracket
loop-i-preserved-then-is_bracket c = pass_bracket _ _ c.loop-i-test.true c.loop-i.invariant (sym c.is_bracket.ensures ∙ c.if-is_bracket.true) c.with_mark-m.ensures

pub with_mark-m-requires-then-b-eq96 : goal.with_mark-m-requires-then-b-eq96
with_mark-m-requires-then-b-eq96 c = let l = c.loop-i.invariant in record {
  ends_bound = omega (arith, l.few_ends, c.requires);
  held_bound = omega (arith, l.few_held, c.requires);
}

pub loop-i-smaller-then-b-eq96 : goal.loop-i-smaller-then-b-eq96
loop-i-smaller-then-b-eq96 c = omega (arith, past_on backtick _ _ c.backticks_end-i.ensures, c.loop-i-test.true)

pub loop-i-preserved-then-b-eq96 : goal.loop-i-preserved-then-b-eq96
loop-i-preserved-then-b-eq96 c = pass_run _ _ c.loop-i-test.true c.loop-i.invariant c.if-b-eq96.true c.with_mark-m-then-b-eq96.ensures c.backticks_end-i.ensures

pub loop-i-smaller : goal.loop-i-smaller
loop-i-smaller c = omega (arith, past_on quiet _ _ c.plain_end-i.ensures, c.loop-i-test.true)

pub loop-i-preserved : goal.loop-i-preserved
loop-i-preserved c = pass_text _ _ c.loop-i-test.true c.loop-i.invariant (sym c.is_bracket.ensures ∙ c.if-is_bracket.false) c.if-b-eq96.false c.plain_end-i.ensures

pub returns : goal.returns
returns c = let h = c.loop-i-test.false in let n = c.loop-i.invariant in record {
  ends_value = all_ends _ _ h n;
  held_value = all_held _ _ h n (rw (c.from.ensures, one_if) refl);
}
