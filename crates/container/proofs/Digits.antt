-- The ways through a turn of `read_number`.
use Prim.Native.Nat.{ℕ, ◌+◌, ◌-◌, ◌*◌, ◌≤◌, ◌<◌}
use Rattle.std.specs.Prelude.{None}
use mathlib.Core.Path.{◌≡◌, sym, ◌∙◌}
use mathlib.Core.Logic.{◌⊎◌, inl, inr}
use mathlib.Core.Bool.{Bool, true, false}
use mathlib.Core.List.{List}
use borrow.Author.Tests.{lt-ltb, le-ltb}
use Rattle.scan.specs.Reading.{stop, next}
use Rattle.container.specs.Container.{digit, digit_step}

-- ---- the ways of a turn, where `digits` is the byte's test
module _ (n b : ℕ) (s : List ℕ) {digits : Bool} (tells : digits ≡ digit b) where
  pub refused : (digits ≡ false) ⊎ ((digits ≡ true) × (100000 ≤ n)) → digit_step n b s ≡ stop None
  unfolding digit_step
  refused (inl f) = rw (sym tells ∙ f)
  refused (inr (t, h)) = rw (sym tells ∙ t, le-ltb n 100000 h)

  pub taken : digits ≡ true → n < 100000 → digit_step n b s ≡ next (n * 10 + (b - 48))
  unfolding digit_step
  taken t h = rw (sym tells ∙ t, lt-ltb n 100000 h)
