-- Each turn adds what a paragraph can have at the most.
use Rattle.walk.proofs.Listing.{start_from}
use Rattle.paragraphs.proofs.Most.{tallied_starts, all_tallied, part_inside, part_short, tallied_more}
use Rattle.paragraphs.proofs.Listed.{is_there, next_there, met, none_left}
use native.Mathlib.Omega.{arith}
use mathlib.Core.Path.{◌≡◌, refl}
use Rattle.paragraphs.proofs.surely_fits.Goals as goal

pub loop-k-init : goal.loop-k-init
loop-k-init c = record { tallied = tallied_starts _; at_is = start_from _ _ }

pub unwrap-start-requires : goal.unwrap-start-requires
unwrap-start-requires c = is_there _ _ _ _ _ c.next.ensures.onward c.loop-k-test.true

pub slice_bounds-most_of-end : goal.slice_bounds-most_of-end
slice_bounds-most_of-end c = let i = part_inside _ c.loop-k.invariant.tallied (met refl c.next.ensures.read c.unwrap-start.ensures) in omega (arith, i.0, i.1)

pub most_of-most-requires : goal.most_of-most-requires
most_of-most-requires c = omega (arith, part_short _ c.loop-k.invariant.tallied (met refl c.next.ensures.read c.unwrap-start.ensures), c.requires)

pub overflow_add-ends : goal.overflow_add-ends
overflow_add-ends c =
    let t = tallied_more _ c.loop-k.invariant.tallied (met refl c.next.ensures.read c.unwrap-start.ensures) c.most_of-most.ensures.ends_value c.most_of-most.ensures.held_value in
    omega (arith, t.few_ends, t.inside, c.requires)

pub overflow_add-held : goal.overflow_add-held
overflow_add-held c =
    let t = tallied_more _ c.loop-k.invariant.tallied (met refl c.next.ensures.read c.unwrap-start.ensures) c.most_of-most.ensures.ends_value c.most_of-most.ensures.held_value in
    omega (arith, t.few_held, t.inside, c.requires)

pub loop-k-preserved : goal.loop-k-preserved
loop-k-preserved c = record {
  tallied = tallied_more _ c.loop-k.invariant.tallied (met refl c.next.ensures.read c.unwrap-start.ensures) c.most_of-most.ensures.ends_value c.most_of-most.ensures.held_value;
  at_is = next_there _ _ _ _ c.next.ensures.onward c.unwrap-start.ensures;
}

pub returns : goal.returns
returns c =
    let e : c.loop-k.k ≡ c.args.paragraphs.now.count = omega arith in
    all_tallied _ c.loop-k.invariant.tallied (none_left refl c.args.paragraphs.now.remembers (rw e at c.loop-k.invariant.at_is))
