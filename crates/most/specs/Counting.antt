-- What one mark more adds to what was counted: a bracket, a backslash, or a whole run of backticks.
use Rattle.std.specs.Prelude.{ℕ, ◌+◌, Bool, not, ◌&&◌, ◌||◌, eqb}
use Rattle.most.specs.Most.{bit}
use Rattle.most.specs.declared.Counted.{Counted}

-- a bracket or a backslash: a mark of one byte
abbrev pub bracket : ℕ → Bool
bracket b = (eqb b 91 || eqb b 92) || eqb b 93

-- a span may end with a `]` or with a run of backticks
abbrev pub ends_mark : ℕ → Bool
ends_mark b = eqb b 93 || eqb b 96

unfoldable pub with_mark : Counted → ℕ → Counted
with_mark m b = record { opened = eqb b 91; most = record { ends = m.most.ends + bit (ends_mark b); held = m.most.held + bit (m.opened && not (eqb b 93)) } }
