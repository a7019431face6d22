-- Bytes that cannot be taken for markup.
use Rattle.std.specs.Prelude.{ℕ, ◌≡◌, List, [], ◌∷◌, ◌++◌, Bool, false, not, ◌||◌, eqb}
use Rattle.scan.specs.Ascii.{ascii}

-- b is one of the bytes of s
abbrev pub among : List ℕ → ℕ → Bool
among [] b = false
among (c ∷ s) b = eqb b c || among s b

-- one of the four
pub data Entity : List ℕ → Type 0 where
  amp : Entity (ascii "&amp;")
  lt : Entity (ascii "&lt;")
  gt : Entity (ascii "&gt;")
  quot : Entity (ascii "&quot;")

-- no `<`, `>` or `"` stands in l, and each `&` starts an entity
pub data Clean : List ℕ → Type 0 where
  none : Clean []
  plain : {b : ℕ} {l : List ℕ} → among (ascii "&<>\"") b ≡ false → Clean l → Clean (b ∷ l)
  entity : {e l : List ℕ} → Entity e → Clean l → Clean (e ++ l)

-- neither `<` nor `>` nor `"`
abbrev pub safe : ℕ → Bool
safe b = not (among (ascii "<>\"") b)
