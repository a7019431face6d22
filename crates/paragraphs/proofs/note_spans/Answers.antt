-- Each turn reads a paragraph.
use Rattle.walk.proofs.Listing.{start_from}
use Rattle.row.specs.Listing.{texts_of}
use Rattle.paragraphs.proofs.Listed.{is_there, next_there, met, none_left}
use Rattle.paragraphs.proofs.Turns.{starts, all_passed, place_fits, too_deep, further}
use native.Mathlib.Omega.{arith}
use mathlib.Core.Path.{◌≡◌, refl, ◌∙◌}
use Rattle.paragraphs.proofs.Results.{is_err}
use Rattle.paragraphs.proofs.note_spans.Goals as goal

pub loop-k-init : goal.loop-k-init
loop-k-init c = record { going = starts _ _ c.first-w.ensures; same_stack = refl; same_marks = refl; same_index = refl; ready = c.requires.indexed; at_is = start_from _ _ }

pub unwrap-start-requires : goal.unwrap-start-requires
unwrap-start-requires c = is_there _ _ _ _ _ c.next.ensures.onward c.loop-k-test.true

pub read_paragraph-requires : goal.read_paragraph-requires
read_paragraph-requires c =
    let h = met c.requires.same_note c.next.ensures.read c.unwrap-start.ensures in record {
      lies = place_fits (texts_of c.args.definitions.now) _ c.loop-k.invariant.going h c.requires.defined;
      indexed = c.loop-k.invariant.ready;
      lent = record { places = omega (arith, c.requires.lent.places, c.loop-k.invariant.same_stack); bytes = omega (arith, c.requires.lent.bytes, c.loop-k.invariant.same_marks) };
    }

pub returns-in_err-w-clause-note_marked : goal.returns-in_err-w-clause-note_marked
returns-in_err-w-clause-note_marked c =
    rw (is_err _ c.from_residual.ensures.1) (too_deep (texts_of c.args.definitions.now) _ c.loop-k.invariant.going (met c.requires.same_note c.next.ensures.read c.unwrap-start.ensures) c.requires.defined c.read_paragraph.ensures.reads c.in_err-w.was)

pub loop-k-preserved : goal.loop-k-preserved
loop-k-preserved c = record {
  going = further (texts_of c.args.definitions.now) _ c.loop-k.invariant.going (met c.requires.same_note c.next.ensures.read c.unwrap-start.ensures) c.requires.defined c.read_paragraph.ensures.reads c.in_ok-w.was;
  same_stack = c.read_paragraph.auto.stack ∙ c.loop-k.invariant.same_stack;
  same_marks = c.read_paragraph.auto.marks ∙ c.loop-k.invariant.same_marks;
  same_index = c.read_paragraph.auto.index ∙ c.loop-k.invariant.same_index;
  ready = c.read_paragraph.ensures.indexed_2;
  at_is = next_there _ _ _ _ c.next.ensures.onward c.unwrap-start.ensures;
}

pub returns : goal.returns
returns c =
    let e : c.loop-k.k ≡ c.args.paragraphs.now.count = omega arith in
    record {
      note_marked = all_passed _ _ c.loop-k.invariant.going (none_left c.requires.same_note c.args.paragraphs.now.remembers (rw e at c.loop-k.invariant.at_is));
      indexed_2 = c.loop-k.invariant.ready;
    }
