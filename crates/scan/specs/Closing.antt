-- A text up to its closing delimiter: the part of a label, a destination in angle brackets or a title that lies between the delimiters.
use Rattle.std.specs.Prelude.{ℕ, ◌≡◌, List, [], ◌∷◌, ◌++◌, Bool, true, false, not, ◌&&◌, ◌||◌, eqb}
use Rattle.scan.specs.Byte.{punctuation, escapes}

-- "escapes are read from its start and never overlap": l, where `after` follows it, is escapes and other bytes, and
-- each of the others is admitted
pub data Units (admits : ℕ → Bool) (after : List ℕ) : List ℕ → Type 0 where
  none : Units admits after []
  escape : {p : ℕ} {l : List ℕ} → punctuation p ≡ true → Units admits after l → Units admits after (92 ∷ p ∷ l)
  byte : {b : ℕ} {l : List ℕ} → admits b ≡ true → escapes (b ∷ (l ++ after)) ≡ false → Units admits after l → Units admits after (b ∷ l)

-- neither the closing delimiter nor one of two bytes that may not stand unescaped before it
abbrev pub inner : ℕ → ℕ → ℕ → ℕ → Bool
inner close bar other b = not (eqb b close) && not (eqb b bar || eqb b other)

-- "a delimiter that stands in an escape closes nothing": s is l, the first unescaped `close`, and more, and l has no unescaped `bar` or `other`
pub record Closed (close bar other : ℕ) (s l more : List ℕ) : Type 0 where
  pub whole : s ≡ l ++ close ∷ more
  pub text : Units (inner close bar other) (close ∷ []) l
