-- A count in an index's first number does not say that it holds rows.
use Prim.Native.Nat.{ℕ, ◌<◌}
use native.Mathlib.Omega.{arith}
use mathlib.Core.Path.{◌≡◌}
use mathlib.Core.List.{List, [], ◌∷◌}
use lib.ListN.{get_or, set}
use Rattle.texts.specs.Texts.{Texts}
use Rattle.index.specs.Index.{built, Ready}

pub counted : {T : Texts} {t : List ℕ} {count : ℕ} {next : List ℕ} (index : List ℕ) (v : ℕ) → next ≡ set index 0 v → v < built → Ready T t count next
counted [] v e h q = let z : get_or [] 0 0 ≡ built = rw e at q in absurd (omega arith)
counted (x ∷ index) v e h q = let z : v ≡ built = rw e at q in absurd (omega arith)
