-- What the functions of a grammar keep to, so that a reading by them goes on and ends; and the rules that they compute.
use mathlib.Core.Path.{◌≡◌}
use mathlib.Core.Logic.{◌≢◌}
use mathlib.Core.Option.{some}
use Prim.Native.Nat.{ℕ, ◌+◌, ◌≤◌, ◌<◌}
use Rattle.marking.specs.Marking.{closing, trailing, role, Rules, Marking, Meets}
use Rattle.marking.specs.ReadingRules.{Grammar, Computed}

-- a piece takes up a byte or more, lies within the paragraph and is no tail; a tail ends within the paragraph
pub record Sound {T : Type 0} (g : Grammar T) : Type 0 where
  pub grows : (s : ℕ) → s < g.size → s < g.end_at s
  pub within : (s : ℕ) → s < g.size → g.end_at s ≤ g.size
  pub no_tail : (s : ℕ) → s < g.size → role (g.kind_at s) ≢ trailing
  pub tail_within : (o s : ℕ) (t : T) → s < g.size → role (g.kind_at s) ≡ closing → g.tail_at o s ≡ some t → g.end_at s + g.length_of t ≤ g.size

-- the rules that the grammar computes, for the part of the paragraph before the place b, and for all of it
abbrev pub up_to : {T : Type 0} → Grammar T → ℕ → Rules T
up_to g b = record { size = b; Starts = Computed g; TailAt = λ o s t. g.tail_at o s ≡ some t; length_of = g.length_of }

abbrev pub rules_of : {T : Type 0} → Grammar T → Rules T
rules_of g = up_to g g.size

-- the conditions for the part before the place b
abbrev pub MeetsTo : {T : Type 0} → Grammar T → ℕ → Marking T → Type 0
MeetsTo g b m = Meets (up_to g b) m
