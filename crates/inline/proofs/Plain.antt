-- Plain text, as far as it goes: the turns of a loop.
use Prim.Native.Nat.{ℕ, ◌+◌, ◌<◌}
use mathlib.Core.Path.{◌≡◌}
use mathlib.Core.Bool.{Bool, true, false}
use mathlib.Core.List.{List}
use lib.ListN.{length, get_or}
use Rattle.scan.proofs.Scan.{past_on, past_stop}
use Rattle.scan.specs.Reading.{past}
use Rattle.inline.specs.ReadingPieces.{quiet}

-- ---- p is what a call answered
module _ (s : List ℕ) (i : ℕ) {p : Bool} {r : ℕ} (inv : past quiet s i ≡ r) (h : i < length s) (e : p ≡ quiet (get_or s i 0)) where
  pub plain_on : p ≡ true → past quiet s (i + 1) ≡ r
  plain_on = past_on quiet s i inv h e

  pub plain_stop : p ≡ false → i ≡ r
  plain_stop = past_stop quiet s i inv h e
