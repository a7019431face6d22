-- Whether a link lies between, and then the tail, say what the pair comes to.
use Rattle.parens.proofs.Parts.{later}
use Rattle.row.specs.Listing.{texts_of}
use Rattle.tail.specs.Ending.{shown, Sized?}
use Rattle.step.proofs.Step.{step_held, step_taken, step_tailless, row_stored}
use Rattle.step.proofs.Bounds.{opening_before, told_of, tail_end, row_names, row_small}
use Prim.Native.Nat.{◌+◌}
use native.Mathlib.Omega.{arith}
use mathlib.Core.Path.{refl, subst}
use Rattle.step.proofs.close_pair.Goals as goal

pub bounds-p-opening : goal.bounds-p-opening
bounds-p-opening c = omega (arith, opening_before c.args.p.now c.args.opening c.args.w.at c.requires.lined_pair.pair)

pub returns-then-image-holds_link : goal.returns-then-image-holds_link
returns-then-image-holds_link c =
    let w = c.args.w in
    let p = c.requires in record {
      closes = (step_held _ _ _ _ _ w _ c.args.opening p.lined_pair.pair.open_at p.lined_pair.pair.text.close_at (rw c.holds_link.ensures at c.if-image-holds_link.true) _ _, refl, refl);
      prepared_2 = later (omega arith) p.prepared;
      indexed_2 = p.indexed;
    }

pub text_from-from-requires : goal.text_from-from-requires
text_from-from-requires c =
    omega (arith, opening_before c.args.p.now c.args.opening c.args.w.at c.requires.lined_pair.pair, c.requires.bounds.places)

pub tail_at-requires : goal.tail_at-requires
tail_at-requires c = let p = c.requires in record {
  text_to = rw c.text_from-from.ensures p.lined_pair.pair.text;
  indexed = p.indexed;
  prepared = p.prepared;
}

pub returns-in_default : goal.returns-in_default
returns-in_default c =
    let w = c.args.w in
    let p = c.requires in
    let told = c.tail_at.ensures in record {
      closes = (
        step_tailless _ _ _ _ _ w _ c.args.opening p.lined_pair.pair.open_at p.lined_pair.pair.text.close_at (rw c.holds_link.ensures at c.if-image-holds_link.false)
            (told_of c.args.p.now _ c.args.opening w.at c.text_from-from.ensures c.in_default.is told.result_value) _ _,
        refl,
        refl,
      );
      prepared_2 = told.prepared_2;
      indexed_2 = told.indexed_2;
    }

pub pair_row-row-requires : goal.pair_row-row-requires
pair_row-row-requires c =
    let a = c.args in
    let p = c.requires in
    let t = c.in-Some in
    let told = c.tail_at.ensures in
    let e = told_of a.p.now _ a.opening a.w.at c.text_from-from.ensures t.is told.result_value in
    let d = a.definitions.now in record {
      names = row_names a.p.now (texts_of d) d.table.now a.start d.count a.opening a.w p.lined_pair.pair p.bounds d.fit t.t e;
      sized = subst Sized? t.is told.sized;
      small = row_small a.p.now (texts_of d) d.table.now a.start d.count a.opening a.w p.lined_pair.pair p.bounds d.fit t.t e c.small_numbers.ensures;
    }

pub store-requires : goal.store-requires
store-requires c =
    let a = c.args in
    let p = c.requires in
    let t = c.in-Some in
    let e = told_of a.p.now _ a.opening a.w.at c.text_from-from.ensures t.is c.tail_at.ensures.result_value in
    let d = a.definitions.now in record {
      small = rw c.pair_row-row.ensures
          (row_small a.p.now (texts_of d) d.table.now a.start d.count a.opening a.w p.lined_pair.pair p.bounds d.fit t.t e c.small_numbers.ensures);
      line_bound = p.lined_pair.small;
    }

pub overflow_add-v : goal.overflow_add-v
overflow_add-v c =
    let a = c.args in
    let p = c.requires in
    let t = c.in-Some in
    let told = c.tail_at.ensures in
    let e = told_of a.p.now _ a.opening a.w.at c.text_from-from.ensures t.is told.result_value in
    let sized = subst Sized? t.is told.sized in
    let ends = tail_end a.p.now (texts_of a.definitions.now) a.definitions.now.table.now a.start a.definitions.now.count a.opening a.w p.lined_pair.pair p.bounds a.definitions.now.fit t.t e in
    omega (arith, ends, p.bounds.places, sized (a.w.at + 1))

pub overflow_add-v-2 : goal.overflow_add-v-2
overflow_add-v-2 c = omega (arith, c.requires.bounds.rows)

pub returns : goal.returns
returns c =
    let w = c.args.w in
    let p = c.requires in
    let t = c.in-Some in
    let told = c.tail_at.ensures in
    let e = told_of c.args.p.now _ c.args.opening w.at c.text_from-from.ensures t.is told.result_value in
    let sized = subst Sized? t.is told.sized in
    let row = c.pair_row-row.ensures in
    let stored = row_stored _ _ _ row p.lined_pair.is_line c.store.ensures in record {
      closes = (
        step_taken _ _ _ _ _ w _ c.args.opening p.lined_pair.pair.open_at p.lined_pair.pair.text.close_at (rw c.holds_link.ensures at c.if-image-holds_link.false) (shown (w.at + 1) t.t) e (sized (w.at + 1)) c.last_link-v.ensures row stored _ _,
        refl,
        refl,
      );
      prepared_2 = later (omega arith) told.prepared_2;
      indexed_2 = told.indexed_2;
    }
