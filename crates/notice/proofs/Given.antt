-- Up to 6, span rows are given where the number is none of 1 to 5.
use Prim.Native.Nat.{ℕ, zero, suc, ◌≤◌}
use native.Mathlib.Omega.{arith}
use mathlib.Core.Path.{◌≡◌, refl}
use mathlib.Core.List.{List}
use mathlib.Core.Bool.{cond}
use Rattle.scan.specs.Byte.{within}
use Rattle.notice.specs.Reading.{spans_given}

pub given_or_kept : (number : ℕ) → number ≤ 6 → (filled kept : List ℕ) → cond (spans_given number) filled kept ≡ cond (within 1 5 number) kept filled
given_or_kept zero h filled kept = refl
given_or_kept (suc zero) h filled kept = refl
given_or_kept (suc (suc zero)) h filled kept = refl
given_or_kept (suc (suc (suc zero))) h filled kept = refl
given_or_kept (suc (suc (suc (suc zero)))) h filled kept = refl
given_or_kept (suc (suc (suc (suc (suc zero))))) h filled kept = refl
given_or_kept (suc (suc (suc (suc (suc (suc zero)))))) h filled kept = refl
given_or_kept (suc (suc (suc (suc (suc (suc (suc n))))))) h filled kept = absurd (omega arith)
