-- The mix with the space of a gap.
use Rattle.std.specs.Prelude.{ℕ, Bool, true, false}
use Rattle.order.specs.Order.{mix}

-- gap: whether there is one
unfoldable pub mix_gap : ℕ → Bool → ℕ
mix_gap h true = mix h 32
mix_gap h false = h
