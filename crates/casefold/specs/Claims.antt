-- What is claimed of folding, of every character. Document 02, request 3.
use Rattle.std.specs.Prelude.{ℕ, ◌≤◌, ◌<◌, ◌≡◌, List, [], ◌∷◌, true, false}
use Rattle.scan.specs.Byte.{blank}
use Rattle.casefold.specs.Fold.{fold, fold_all, lower, inked}

pub record FoldingClaims : Type 0 where
  -- "folding twice changes nothing": of a character, and of a text
  pub twice : (c : ℕ) → fold_all (fold c) ≡ fold c
  pub all_twice : (l : List ℕ) → fold_all (fold_all l) ≡ fold_all l
  -- "Later characters match themselves"
  pub later : (c : ℕ) → 1328 ≤ c → fold c ≡ c ∷ []
  -- a blank folds to itself, and nothing else to one
  pub blanks : (c : ℕ) → blank c ≡ true → fold c ≡ c ∷ []
  pub ink : (c : ℕ) → blank c ≡ false → inked (fold c) ≡ true
  -- below U+0080 as before: A to Z add 32, and every other character folds to itself
  pub ascii : (c : ℕ) → c < 128 → fold c ≡ lower c ∷ []
