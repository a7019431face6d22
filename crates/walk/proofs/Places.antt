-- The definitions of a note lie within it, each with its parts in order, and make rows of 32-bit numbers.
use Rattle.std.specs.Prelude.{None, Option, Some}
use Prim.Native.Nat.{ℕ, zero, suc, ◌+◌, ◌≤◌, ◌<◌, ◌^◌}
use native.Mathlib.Omega.{arith}
use mathlib.Core.Path.{◌≡◌, sym, subst}
use mathlib.Core.List.Memᴰ
use mathlib.Core.List.{List, Memᴰ}
use mathlib.Core.Logic.{⊎_elim}
use lib.ListN.{length, take}
use lib.Seq.{length-take-le}
use Rattle.block.specs.Block.{Placed}
use Rattle.block.proofs.Places as block
use Rattle.row.specs.declared.Definition.{Definition}
use Rattle.row.specs.Row.{Small}
use Rattle.definition.specs.Reading.{entry, definition_at, taking_from, definitions_from, definitions_of, definitions_in, definitions}
use Rattle.definition.proofs.Places.{DefinitionPlaces, definition_places}
use Rattle.definition.proofs.NotePlaces.{definitions_inside}
use Rattle.definition.proofs.Takings.{by_entry, from_none, from_one}

-- d starts at some place of s and ends before another
pub record Lies (s : List ℕ) (d : Definition) : Type 0 where
  pub at : ℕ
  pub after : ℕ
  pub places : DefinitionPlaces s at d after

module _ (s : List ℕ) where
  -- what lies within a part of s from its start lies within s
  lies : (e at : ℕ) (d : Definition) (n : ℕ) → e ≤ length s → definition_at (take e s) at ≡ Some (entry d n) → Lies s d
  lies e at d n h q =
      let p = definition_places (take e s) at d n q in
      record {
        at = at;
        after = n;
        places = record {
          low = p.low;
          label = p.label;
          apart = p.apart;
          destination = p.destination;
          ends = p.ends;
          inside = omega (arith, p.inside, length-take-le e s h);
          title = p.title;
        };
      }

  block_lies : (e : ℕ) → e ≤ length s → (k at : ℕ) (d : Definition) → Memᴰ d (taking_from k (take e s) at).definitions → Lies s d
  unfolding taking_from
  block_lies e h zero at d m = absurd (Memᴰ.not-nil m)
  block_lies e h (suc k) at d m =
      by_entry (definition_at (take e s) at)
      (λ q. absurd (Memᴰ.not-nil (rw (from_none (take e s) (suc k) at q) at m)))
      (λ c n q.
      ⊎_elim (λ i. subst (Lies s) (sym i) (lies e at c n h q)) (λ j. block_lies e h k n d j)
      (Memᴰ.cases_cons (rw (from_one (take e s) k at c n q) at m)))

  all_lie : {from : ℕ} {bs : List Placed} → block.InOrder s from bs → (d : Definition) → Memᴰ d (definitions_in s bs) → Lies s d
  unfolding definitions_in definitions_of definitions_from
  all_lie block.done d m = absurd (Memᴰ.not-nil m)
  all_lie (block.next {b = b} h w o) d m =
      let e = b.at + length b.bytes in
      ⊎_elim (λ x. block_lies e w.inside (length (take e s)) b.at d x) (λ y. all_lie o d y)
      (Memᴰ.append_cases (taking_from (length (take e s)) (take e s) b.at).definitions m)

  pub definitions_lie : (d : Definition) → Memᴰ d (definitions s) → Lies s d
  unfolding definitions
  definitions_lie = all_lie (block.blocks_in_order s)

  pub definitions_small : length s < 2 ^ 32 → (d : Definition) → Memᴰ d (definitions s) → Small d
  definitions_small h d m =
      let p = definitions_inside s d m in
      record {
        label = record { start = omega (arith, p.label_start); end = omega (arith, p.label_ends_at) };
        destination = record { start = omega (arith, p.destination_start); end = omega (arith, p.destination_end) };
        title = record { start = omega (arith, p.title_start); end = omega (arith, p.title_end) };
      }
