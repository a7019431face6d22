-- How long an href can be.
use Prim.Native.Nat.{ℕ, ◌*◌, ◌≤◌}
use native.Mathlib.Omega.{arith}
use mathlib.Core.List.{List}
use lib.ListN.{length}
use lib.Dec.{lit≤}
use Rattle.escaping.specs.Reading.{undone}
use Rattle.escaping.proofs.Lengths.{Six, each_most, undone_most}
use Rattle.href.specs.Href.{href_byte}
use Rattle.href.specs.Reading.{href_of}
use Rattle.href.proofs.Bytes.{on_href}

href_byte_most : (b : ℕ) → length (href_byte b) ≤ 6
href_byte_most b = on_href Six b (λ e. lit≤ tt) (lit≤ tt) (lit≤ tt)

pub href_most : (l : List ℕ) → length (href_of l) ≤ 6 * length l
href_most l = omega (arith, each_most href_byte href_byte_most (undone l), undone_most l)
