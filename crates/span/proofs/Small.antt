-- A span whose parts are small is small.
use Prim.Native.Nat.{ℕ, ◌<◌, ◌^◌}
use native.Mathlib.Omega.{arith}
use mathlib.Core.Path.{◌≡◌}
use Rattle.row.specs.declared.Range.{Range}
use Rattle.row.specs.Row.{absent, SmallPart}
use Rattle.span.specs.declared.Span.{Span}
use Rattle.span.specs.Row.{span, Small}

pub small_absent : SmallPart absent
small_absent = record { start = omega arith; end = omega arith }

-- the equation is what a constructor ensures
pub small : {s : Span} {kind n : ℕ} {whole text destination title : Range} → s ≡ span kind whole text n destination title
    → SmallPart whole → SmallPart text → n < 2 ^ 32 → SmallPart destination → SmallPart title → Small s
small e w x n d t = rw e (record { whole = w; text = x; definition = n; destination = d; title = t })
