-- What stands in a list.
use Rattle.std.specs.Prelude.{ℕ, ◌≡◌, List}
use Rattle.std.proofs.Math.Option.{some}
use Rattle.std.proofs.Math.ListN.{get_elem?}

-- x stands somewhere in xs
abbrev pub In : {A : Type 0} → A → List A → Type 0
In x xs = (k : ℕ) × (get_elem? xs k ≡ some x)
