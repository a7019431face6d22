-- How many bytes are dropped at each end of a code span's bytes.
use Prim.Native.Nat.{ℕ, ◌+◌, ◌-◌, ◌≤◌, ◌<◌}
use native.Mathlib.Omega.{arith}
use mathlib.Core.Path.{◌≡◌}
use mathlib.Core.List.{List}
use mathlib.Core.Bool.{Bool, true, false, ◌&&◌}
use lib.ListN.{length, get_or}
use lib.Dec.{ltb}
use borrow.Author.Tests.{ltb-true}
use Rattle.scan.proofs.Test.{by, and_left, and_right}
use Rattle.scan.specs.Reading.{run, past}
use Rattle.code.specs.Reading.{space_or_lf, margin}

-- the run of n spaces at the front is not empty and does not reach the end
pub short : (n m : ℕ) → (ltb 0 n && ltb n m) ≡ true → (0 < n) × (n < m)
short n m e = (ltb-true 0 n (and_left _ (ltb n m) e), ltb-true n m (and_right (ltb 0 n) _ e))

-- ---- the code's three ways out: front is where the run that it found ends, p what it saw at the end
module _ (l : List ℕ) {front : ℕ} (e : front ≡ past space_or_lf l 0) where
  is_run : front ≡ run space_or_lf l
  unfolding past
  is_run = omega (arith, e)

  pub margin_one : {p : Bool} → (ltb 0 front && ltb front (length l)) ≡ true → p ≡ space_or_lf (get_or l (length l - 1) 0) → p ≡ true → 1 ≡ margin l
  unfolding margin
  margin_one t q k = rw (← is_run, t, ← q, k)

  pub margin_end : {p : Bool} → (ltb 0 front && ltb front (length l)) ≡ true → p ≡ space_or_lf (get_or l (length l - 1) 0) → p ≡ false → 0 ≡ margin l
  unfolding margin
  margin_end t q k = rw (← is_run, t, ← q, k)

  pub margin_front : (ltb 0 front && ltb front (length l)) ≡ false → 0 ≡ margin l
  unfolding margin
  margin_front t = rw (← is_run, t)

pub margin_fits : (l : List ℕ) → margin l + margin l ≤ length l
unfolding margin
margin_fits l =
    by (ltb 0 (run space_or_lf l) && ltb (run space_or_lf l) (length l) && space_or_lf (get_or l (length l - 1) 0))
    (λ e. let (a, b) = short (run space_or_lf l) (length l) (and_left _ (space_or_lf (get_or l (length l - 1) 0)) e) in rw e (omega arith))
    (λ e. rw e (omega arith))
