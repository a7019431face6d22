-- The run of backticks and the run that closes it make the piece.
use Rattle.step.specs.declared.Walk.{Walk}
use Rattle.step.proofs.CodeSteps.{first_after, first_inside, first_halts, first_some, text_here, code_here, code_ends, code_row, code_small}
use Rattle.step.proofs.Step.{step_quiet, step_counted, still_lined, line_small}
use native.Mathlib.Omega.{arith}
use mathlib.Core.Path.{refl, ap}
use Rattle.step.proofs.pass_backticks.Goals as goal

pub overflow_sub-n : goal.overflow_sub-n
overflow_sub-n c = first_after c.args.p.now c.args.w c.requires.backtick_at c.backticks_end-first.result c.backticks_end-first.ensures

pub closing_run_lazy-requires : goal.closing_run_lazy-requires
closing_run_lazy-requires c = record {
  n_nonzero = first_some c.args.p.now c.args.w c.requires.backtick_at c.backticks_end-first.result c.backticks_end-first.ensures;
  at_value = first_halts c.args.p.now c.args.w c.requires.backtick_at c.backticks_end-first.result c.backticks_end-first.ensures;
  p_len_bound = omega (arith, c.requires.bounds.places);
  ready = c.requires.ready;
}

pub returns-in_default : goal.returns-in_default
returns-in_default c = record {
  passes = ((λ labels ds. step_quiet _ _ _ labels ds c.args.w _ _ (text_here c.args.p.now c.args.w c.requires.backtick_at c.backticks_end-first.result c.backticks_end-first.ensures c.closing_run_lazy.ensures.value c.in_default.is) refl _ _), refl, c.requires.lined.before);
  ready_2 = c.closing_run_lazy.ensures.ready_2;
}

pub overflow_add-start-2 : goal.overflow_add-start-2
overflow_add-start-2 c = omega (arith, code_ends c.args.p.now c.args.w c.requires.backtick_at c.backticks_end-first.result c.backticks_end-first.ensures c.closing_run_lazy.ensures.value c.in-Some.e c.in-Some.is, c.requires.bounds.places)

pub overflow_add-start-3 : goal.overflow_add-start-3
overflow_add-start-3 c = omega (arith, first_inside c.args.p.now c.args.w c.requires.backtick_at c.backticks_end-first.result c.backticks_end-first.ensures, c.requires.bounds.places)

pub overflow_sub-e : goal.overflow_sub-e
overflow_sub-e c = omega (arith, code_ends c.args.p.now c.args.w c.requires.backtick_at c.backticks_end-first.result c.backticks_end-first.ensures c.closing_run_lazy.ensures.value c.in-Some.e c.in-Some.is, first_after c.args.p.now c.args.w c.requires.backtick_at c.backticks_end-first.result c.backticks_end-first.ensures)

pub overflow_add-start-4 : goal.overflow_add-start-4
overflow_add-start-4 c = omega (arith, code_ends c.args.p.now c.args.w c.requires.backtick_at c.backticks_end-first.result c.backticks_end-first.ensures c.closing_run_lazy.ensures.value c.in-Some.e c.in-Some.is, c.requires.bounds.places)

pub store-requires : goal.store-requires
store-requires c = record {
  small = code_small c.args.p.now c.args.w c.requires.backtick_at c.backticks_end-first.result c.backticks_end-first.ensures c.closing_run_lazy.ensures.value c.in-Some.e c.in-Some.is c.args.start c.code_span.ensures c.new-whole.ensures c.new-text.ensures c.requires.bounds.places;
  line_bound = line_small c.args.note.now c.args.start c.args.spans.now c.args.w c.requires.lined c.count_lines-v.ensures (omega (arith, c.requires.backtick_at.inside, c.requires.bounds.places));
}

pub overflow_add-v : goal.overflow_add-v
overflow_add-v c = omega (arith, c.requires.bounds.rows)

pub returns : goal.returns
returns c = let l = c.requires.lined in let q = c.count_lines-v.ensures in record {
  passes = ((λ labels ds. step_counted c.args.note.now c.args.start c.args.spans.now c.args.w l q _ labels ds c.in-Some.e (code_here c.args.p.now c.args.w c.requires.backtick_at c.backticks_end-first.result c.backticks_end-first.ensures c.closing_run_lazy.ensures.value c.in-Some.e c.in-Some.is) (code_row c.args.p.now c.args.w c.requires.backtick_at c.backticks_end-first.result c.backticks_end-first.ensures c.closing_run_lazy.ensures.value c.in-Some.e c.in-Some.is c.args.start c.code_span.ensures c.new-whole.ensures c.new-text.ensures ds) c.store.ensures), ap (λ (x : Walk). x.depth) q, still_lined c.args.note.now c.args.start c.args.spans.now c.args.w l q);
  ready_2 = c.closing_run_lazy.ensures.ready_2;
}
