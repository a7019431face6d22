-- From where the code stands the scan comes to the same end as from its start, and the table holds the rows of the spans so far.
use Rattle.paragraph.proofs.Turns.{waits_here, open_inside, open_turn, close_turn, piece_turn, deep_reads, closing_test, part_length, bounds_here}
use Rattle.paragraph.proofs.Plain.{plain_after, plain_on}
use Rattle.paragraph.proofs.Loop.{lined_here, on_start, on_end}
use Rattle.step.specs.declared.Walk.{Walk}
use Rattle.parens.proofs.Parts as parens
use borrow.Author.Rules.{rules}
use lib.ListN.{length}
use native.Mathlib.Omega.{arith}
use mathlib.Core.Path.{refl, ap, ◌∙◌}
use Rattle.paragraph.proofs.read_paragraph.Goals as goal
use Rattle.paragraph.proofs.read_paragraph.Goals.{in-Some+else-w-eq-DEPTH_LIMIT, in_default+then-p-w, in_default+else-p-w}

pub loop-w-init : goal.loop-w-init
loop-w-init c =
    let a = c.args in
    let b = c.requires in
    let size = part_length a.definitions.now.note.now a.start a.end b.lies.ordered b.lies.inside in record {
      same_spans = refl;
      on = rw c.afresh-w.ensures (on_start _ _ _ _ _ _ _ _ (omega (arith, b.lent.places)) (omega (arith, size, b.lies.ordered, b.lies.inside)) a.from refl b.lies.line);
      runs = rw c.forget.ensures tt;
      marks = rw c.afresh-w.ensures (parens.unmade _ a.marks.now (omega (arith, size, b.lies.inside, b.lent.bytes)));
      marks_length = refl;
      stack_length = refl;
      same_index = refl;
      ready = b.indexed;
    }

pub returns-then-w-eq-DEPTH_LIMIT-clause-reads : goal.returns-then-w-eq-DEPTH_LIMIT-clause-reads
returns-then-w-eq-DEPTH_LIMIT-clause-reads c =
    rw (ap (λ (x : Walk). x.row) c.afresh-w.ensures) at (deep_reads _ _ _ _ _ _ _ c.loop-w.invariant.on c.loop-w-test.true c.opening_end.ensures c.in-Some.is c.if-w-eq-DEPTH_LIMIT.true c.loop-w.spans)

pub open_bracket-w-requires : goal.open_bracket-w-requires
open_bracket-w-requires c =
    let l = c.loop-w.invariant.on in
    let i = open_inside _ _ _ _ _ _ _ l c.loop-w-test.true c.opening_end.ensures c.in-Some.is in record {
      lined = lined_here _ _ _ _ _ _ _ l c.loop-w-test.true;
      room = record { inside = omega (arith, l.waits.room, l.waits.fits, c.if-w-eq-DEPTH_LIMIT.false); onward = i.0; fits = omega (arith, i.1, l.inside, c.requires.lies.places) };
    }

pub close_bracket-w-requires : goal.close_bracket-w-requires
close_bracket-w-requires c =
    let l = c.loop-w.invariant in
    let b = c.requires in record {
      closing = closing_test _ _ c.loop-w-test.true c.if-p-w.true;
      waits = waits_here _ _ _ _ _ _ _ l.on c.loop-w-test.true l.same_spans;
      bounds = bounds_here b.lies (ap (λ (x : Walk). x.row) c.afresh-w.ensures) l.on c.loop-w-test.true _ b.lies.definitions;
      indexed = l.ready;
      prepared = l.marks;
      lined = lined_here _ _ _ _ _ _ _ l.on c.loop-w-test.true;
    }

pub pass_piece-w-requires : goal.pass_piece-w-requires
pass_piece-w-requires c =
    let l = c.loop-w.invariant in record {
      at_in_bounds = c.loop-w-test.true;
      at_value = search (rules, c.opening_end.ensures, c.in_default.is);
      bounds = bounds_here c.requires.lies (ap (λ (x : Walk). x.row) c.afresh-w.ensures) l.on c.loop-w-test.true _ (omega arith);
      lined = lined_here _ _ _ _ _ _ _ l.on c.loop-w-test.true;
      ready = l.runs;
    }

pub loop-w-smaller : goal.loop-w-smaller
loop-w-smaller c =
    elim c.match-opening_end.branch [
      | in-Some+else-w-eq-DEPTH_LIMIT w ↦ omega (arith, c.loop-w-test.true, (open_turn _ _ _ _ _ _ _ c.loop-w.invariant.on c.loop-w-test.true c.loop-w.invariant.same_spans c.opening_end.ensures w.in-Some.is w.if-w-eq-DEPTH_LIMIT.false w.open_bracket-w.ensures.value w.open_bracket-w.ensures.stack_after w.w-is (w.stack-is) w.spans-is).1, plain_after _ _ c.plain_end.ensures)
      | in_default+then-p-w w ↦ omega (arith, c.loop-w-test.true, (close_turn _ _ _ _ _ _ _ c.loop-w.invariant.on c.loop-w-test.true c.loop-w.invariant.same_spans (closing_test _ _ c.loop-w-test.true w.if-p-w.true) w.close_bracket-w.ensures.brackets w.w-is (w.stack-is) w.spans-is).1, plain_after _ _ c.plain_end.ensures)
      | in_default+else-p-w w ↦ omega (arith, c.loop-w-test.true, (piece_turn _ _ _ _ _ _ _ c.loop-w.invariant.on c.loop-w-test.true c.opening_end.ensures w.in_default.is w.if-p-w.false (w.pass_piece-w.ensures.passes.0 _ _) (w.pass_piece-w.ensures.passes.1, w.pass_piece-w.ensures.passes.2) w.w-is (w.stack-is) w.spans-is).1, plain_after _ _ c.plain_end.ensures)
    ]

pub loop-w-preserved : goal.loop-w-preserved
loop-w-preserved c =
    let l = c.loop-w.invariant in
    elim c.match-opening_end.branch [
      | in-Some+else-w-eq-DEPTH_LIMIT w ↦
          let t = open_turn _ _ _ _ _ _ _ l.on c.loop-w-test.true l.same_spans c.opening_end.ensures w.in-Some.is w.if-w-eq-DEPTH_LIMIT.false w.open_bracket-w.ensures.value w.open_bracket-w.ensures.stack_after w.w-is w.stack-is w.spans-is in record {
            same_spans = ap length w.spans-is ∙ l.same_spans;
            on = plain_on _ _ _ _ _ _ _ t.0 c.plain_end.ensures;
            runs = rw w.runs-is l.runs;
            marks = rw w.marks-is (parens.later (omega (arith, t.1, plain_after _ _ c.plain_end.ensures)) l.marks);
            marks_length = ap length w.marks-is ∙ l.marks_length;
            stack_length = ap length w.stack-is ∙ w.open_bracket-w.auto.stack ∙ l.stack_length;
            same_index = ap length w.index-is ∙ l.same_index;
            ready = rw w.index-is l.ready;
          }
      | in_default+then-p-w w ↦
          let t = close_turn _ _ _ _ _ _ _ l.on c.loop-w-test.true l.same_spans (closing_test _ _ c.loop-w-test.true w.if-p-w.true) w.close_bracket-w.ensures.brackets w.w-is w.stack-is w.spans-is in
          let e = w.close_bracket-w.ensures in record {
            same_spans = ap length w.spans-is ∙ w.close_bracket-w.auto.spans ∙ l.same_spans;
            on = plain_on _ _ _ _ _ _ _ t.0 c.plain_end.ensures;
            runs = rw w.runs-is l.runs;
            marks = rw w.marks-is (parens.later (omega (arith, ap (λ (x : Walk). x.at) w.w-is, plain_after _ _ c.plain_end.ensures)) e.prepared_2);
            marks_length = ap length w.marks-is ∙ w.close_bracket-w.auto.marks ∙ l.marks_length;
            stack_length = ap length w.stack-is ∙ l.stack_length;
            same_index = ap length w.index-is ∙ w.close_bracket-w.auto.index ∙ l.same_index;
            ready = rw w.index-is e.indexed_2;
          }
      | in_default+else-p-w w ↦
          let t = piece_turn _ _ _ _ _ _ _ l.on c.loop-w-test.true c.opening_end.ensures w.in_default.is w.if-p-w.false (w.pass_piece-w.ensures.passes.0 _ _) (w.pass_piece-w.ensures.passes.1, w.pass_piece-w.ensures.passes.2) w.w-is w.stack-is w.spans-is in record {
            same_spans = ap length w.spans-is ∙ w.pass_piece-w.auto.spans ∙ l.same_spans;
            on = plain_on _ _ _ _ _ _ _ t.0 c.plain_end.ensures;
            runs = rw w.runs-is w.pass_piece-w.ensures.ready_2;
            marks = rw w.marks-is (parens.later (omega (arith, t.1, plain_after _ _ c.plain_end.ensures)) l.marks);
            marks_length = ap length w.marks-is ∙ l.marks_length;
            stack_length = ap length w.stack-is ∙ l.stack_length;
            same_index = ap length w.index-is ∙ l.same_index;
            ready = rw w.index-is l.ready;
          }
    ]

pub returns-clause-reads : goal.returns-clause-reads
returns-clause-reads c = rw (ap (λ (x : Walk). x.row) c.afresh-w.ensures) at (on_end _ _ _ _ _ _ _ c.loop-w.invariant.on c.loop-w-test.false)
