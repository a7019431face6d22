-- Two texts have at most a third as many definitions as bytes.
use Prim.Native.Nat.{ℕ, zero, suc, ◌+◌, ◌*◌, ◌≤◌}
use native.Mathlib.Omega.{arith}
use mathlib.Core.List.{List}
use lib.ListN.{length, length-append}
use Rattle.texts.specs.Texts.{Texts}
use Rattle.block.specs.Block.{Placed}
use Rattle.block.proofs.Places as block
use Rattle.definition.specs.Reading.{definition_at, taking_from, definitions_from, up_to_end, definitions_of, definitions_in, definitions}
use Rattle.definition.proofs.Places.{definition_places}
use Rattle.definition.proofs.Takings.{by_entry, from_none, from_one}
use Rattle.definition.proofs.Notes.{end_length, starts}
use Rattle.joined.specs.Reading.{joined}
use Rattle.joined.proofs.Places.{length_joined}

-- each definition takes three bytes at least: its brackets and its colon
few_from : (s : List ℕ) (k at : ℕ) → at ≤ length s → at + 3 * length (taking_from k s at).definitions ≤ length s
unfolding taking_from
few_from s zero at h = omega arith
few_from s (suc k) at h =
    by_entry (definition_at s at) (λ e. rw (from_none s (suc k) at e) (omega arith))
    (λ d n e. let p = definition_places s at d n e in rw (from_one s k at d n e) (omega (arith, few_from s k n p.inside, p.low, p.label, p.apart, p.destination, p.ends)))

module _ (s : List ℕ) where
  few_in : {from : ℕ} {bs : List Placed} → from ≤ length s → block.InOrder s from bs → from + 3 * length (definitions_in s bs) ≤ length s
  unfolding definitions_in definitions_of definitions_from
  few_in h block.done = omega arith
  few_in h (block.next {b = b} {bs = bs} k w o) =
      let u = up_to_end s b in
      let l = length-append (taking_from (length u) u b.at).definitions (definitions_in s bs) in
      omega (arith, l, few_from u (length u) b.at (starts s b w), end_length s b w, few_in w.inside o)

  pub few_definitions : 3 * length (definitions s) ≤ length s
  unfolding definitions
  few_definitions = let h = few_in (omega arith) (block.blocks_in_order s) in omega arith

pub few_joined : (T : Texts) → 3 * length (joined T) ≤ length T.note + length T.sheet
few_joined T = omega (arith, length_joined T, few_definitions T.note, few_definitions T.sheet)
