-- Equal labels as they were before Unicode's folding, by document 01 alone: what has not changed is claimed against this.
use Rattle.std.specs.Prelude.{ℕ, ◌≡◌, List, map, ltb}
use Rattle.scan.specs.Every.{Every}
use Rattle.casefold.specs.Fold.{lower}
use Rattle.matching.specs.Form.{Words, joined}

-- nothing but ASCII
abbrev pub Ascii : List ℕ → Type 0
Ascii = Every (λ (b : ℕ). ltb b 128)

-- "fold A to Z to a to z, trim space, tab and LF, make each inner run of them one space"
pub record ComparedBefore (l c : List ℕ) : Type 0 where
  pub words : List (List ℕ)
  pub splits : Words l words
  pub form : c ≡ joined (map (map lower) words)

-- "then the bytes agree"
pub record EqualBefore (a b : List ℕ) : Type 0 where
  pub form : List ℕ
  pub left : ComparedBefore a form
  pub right : ComparedBefore b form
