-- Where a definition's parts stand: in order, and within the text.
use Rattle.std.specs.Prelude.{None, Option, Some}
use Prim.Native.Nat.{ℕ, ◌+◌, ◌≤◌, ◌<◌}
use native.Mathlib.Omega.{arith}
use mathlib.Core.Path.{◌≡◌}
use mathlib.Core.List.{List}
use mathlib.Core.Logic.{inl, inr}
use lib.ListN.{length}
use Rattle.scan.specs.Reading.{past}
use Rattle.row.specs.declared.Definition.{Definition}
use Rattle.definition.specs.Definition.{space}
use Rattle.definition.specs.Reading.{entry, definition_at}
use Rattle.definition.proofs.Endings.{TitlePlace}
use Rattle.definition.proofs.Labelled.{after_places}
use Rattle.definition.proofs.Definitions.{opens_at}

-- d starts at place `at` of s and ends before place n; its title is absent, 0 and 0, or lies between the destination and n
pub record DefinitionPlaces (s : List ℕ) (at : ℕ) (d : Definition) (n : ℕ) : Type 0 where
  pub low : at < d.label.start
  pub label : d.label.start ≤ d.label.end
  pub apart : d.label.end + 1 < d.destination.start
  pub destination : d.destination.start ≤ d.destination.end
  pub ends : d.destination.end ≤ n
  pub inside : n ≤ length s
  pub title : TitlePlace d.destination.end d.title.start d.title.end n

-- every number of d is at most the text's length
pub record Numbers (s : List ℕ) (d : Definition) : Type 0 where
  pub label_start : d.label.start ≤ length s
  pub label_ends_at : d.label.end ≤ length s
  pub destination_start : d.destination.start ≤ length s
  pub destination_end : d.destination.end ≤ length s
  pub title_start : d.title.start ≤ length s
  pub title_end : d.title.end ≤ length s

past_from : (s : List ℕ) (at : ℕ) → at ≤ past space s at
unfolding past
past_from s at = omega arith

title_inside : {z t u n k : ℕ} → TitlePlace z t u n → n ≤ k → (t ≤ k) × (u ≤ k)
title_inside (inl (x, y)) h = (omega arith, omega arith)
title_inside (inr (x, y, z)) h = (omega arith, omega arith)

module _ (s : List ℕ) (at : ℕ) (d : Definition) (n : ℕ) (q : definition_at s at ≡ Some (entry d n)) where
  pub definition_places : DefinitionPlaces s at d n
  definition_places =
      let o = (opens_at s at d n q).1 in
      let p = after_places s (past space s at + 1) o.e d n o.reads in
      record {
        low = omega (arith, past_from s at, p.label_start);
        label = omega (arith, p.label_start, p.label_ends_at, o.is_a_label.place);
        apart = omega (arith, p.label_ends_at, p.apart);
        destination = p.destination;
        ends = p.ends;
        inside = p.inside;
        title = p.title;
      }

  pub definition_onward : (at < n) × (n ≤ length s)
  definition_onward =
      let p = definition_places in
      (omega (arith, p.low, p.label, p.apart, p.destination, p.ends), p.inside)

  pub definition_numbers : Numbers s d
  definition_numbers =
      let p = definition_places in
      let (t, u) = title_inside p.title p.inside in
      record {
        label_start = omega (arith, p.label, p.apart, p.destination, p.ends, p.inside);
        label_ends_at = omega (arith, p.apart, p.destination, p.ends, p.inside);
        destination_start = omega (arith, p.destination, p.ends, p.inside);
        destination_end = omega (arith, p.ends, p.inside);
        title_start = t;
        title_end = u;
      }
