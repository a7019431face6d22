-- Each turn stores a definition or remembers a paragraph.
use native.Mathlib.Omega.{arith}
use Rattle.table.proofs.Filling.{starts, small, number_fits, less, bracket_there, bracket_inside, line_before, line_small, further, paragraph_small, paragraph_less, past_paragraph}
use Rattle.table.proofs.fill_text.Goals as goal

pub loop-item-init : goal.loop-item-init
loop-item-init c = starts _ _ _ _ _ c.none-line.ensures

pub line_of-line-requires : goal.line_of-line-requires
line_of-line-requires c =
    let f = c.loop-item.invariant in
    let i = c.in-Some.ensures in
    let e = c.in-Definition.is in record {
      le_start = bracket_there _ _ _ _ _ f i e;
      before = line_before _ _ _ _ _ f i e;
      d_in_bounds = bracket_inside _ _ _ _ _ f i e;
    }

pub store-requires : goal.store-requires
store-requires c =
    let f = c.loop-item.invariant in
    let i = c.in-Some.ensures in
    let e = c.in-Definition.is in
    let p = c.requires in record {
      text_bound = p.text_bound;
      small = small _ _ _ _ _ f i e p.s_len_bound;
      line_bound = line_small _ _ _ _ _ f i e c.line_of-line.ensures p.s_len_bound;
    }

pub overflow_add-next : goal.overflow_add-next
overflow_add-next c =
    let f = c.loop-item.invariant in
    let i = c.in-Some.ensures in
    let e = c.in-Definition.is in
    let p = c.requires in
    let k = number_fits _ _ _ _ _ f i e in
    omega (arith, k, p.s_len_bound, p.from_bound)

pub loop-item-smaller-in-Definition : goal.loop-item-smaller-in-Definition
loop-item-smaller-in-Definition c =
    let f = c.loop-item.invariant in
    let i = c.in-Some.ensures in
    let e = c.in-Definition.is in
    less _ _ _ _ _ f i e

pub loop-item-preserved-in-Definition : goal.loop-item-preserved-in-Definition
loop-item-preserved-in-Definition c =
    let f = c.loop-item.invariant in
    let i = c.in-Some.ensures in
    let e = c.in-Definition.is in
    further _ _ _ _ _ f i e c.line_of-line.ensures c.store.ensures

pub remember-requires : goal.remember-requires
remember-requires c =
    let f = c.loop-item.invariant in
    let i = c.in-Some.ensures in
    let e = c.in-Paragraph.is in record {
      k_bound = (paragraph_small _ _ _ _ _ f i e c.requires.s_len_bound).0;
      start_bound = (paragraph_small _ _ _ _ _ f i e c.requires.s_len_bound).1.0;
      end_bound = (paragraph_small _ _ _ _ _ f i e c.requires.s_len_bound).1.1;
    }

pub overflow_add-paragraphs : goal.overflow_add-paragraphs
overflow_add-paragraphs c =
    let f = c.loop-item.invariant in
    let i = c.in-Some.ensures in
    let e = c.in-Paragraph.is in
    let k = paragraph_small _ _ _ _ _ f i e c.requires.s_len_bound in
    omega (arith, k.0)

pub loop-item-smaller : goal.loop-item-smaller
loop-item-smaller c =
    let f = c.loop-item.invariant in
    let i = c.in-Some.ensures in
    let e = c.in-Paragraph.is in
    paragraph_less _ _ _ _ _ f i e

pub loop-item-preserved : goal.loop-item-preserved
loop-item-preserved c =
    let f = c.loop-item.invariant in
    let i = c.in-Some.ensures in
    let e = c.in-Paragraph.is in
    past_paragraph _ _ _ _ _ f i e c.remember.ensures
