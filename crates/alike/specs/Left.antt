-- What is left of a compared form, and what single steps of reading it give.
use Rattle.std.specs.Prelude.{ℕ, ◌+◌, ◌≤◌, ◌<◌, ◌≡◌, List, ◌∷◌, ◌++◌, Bool, false, length, get_or, drop, eqb}
use Rattle.scan.specs.Byte.{within, blank}
use Rattle.casefold.specs.Fold.{lower}
use Rattle.folding.specs.Word.{unpacked}
use Rattle.matching.specs.Reading.{folds, squeeze, equals}
use Rattle.alike.specs.Reading.{beyond}

-- the compared form of what is left of s from i on
abbrev pub form_from : List ℕ → ℕ → List ℕ
form_from s i = squeeze (folds (drop i s)) (eqb i 0)

-- the same from the word on that starts or goes on at p
abbrev pub word_from : List ℕ → ℕ → List ℕ
word_from s p = squeeze (folds (drop p s)) false

-- the same where the bytes of w come first, those of a folded character of which some were read
abbrev pub form : List ℕ → ℕ → ℕ → List ℕ
form s i w = unpacked w ++ form_from s i

-- the word at p starts with this byte; then come the bytes of `left`, and what s gives from `at` on
pub record Opens (s : List ℕ) (p byte at left : ℕ) : Type 0 where
  pub opens : word_from s p ≡ byte ∷ form s at left

-- a byte that begins a character of two bytes that the table may have
abbrev pub leads : ℕ → Bool
leads x = within 0xC2 0xD4 x

-- n bytes on the labels compare as they do from i and j on
pub record Passed (a b : List ℕ) (i j n : ℕ) : Type 0 where
  pub alike : equals (form_from a i) (form_from b j) ≡ equals (form_from a (i + n)) (form_from b (j + n))
  pub less : length (form_from a (i + n)) ≤ length (form_from a i)
  pub left_fits : 0 < n → i + n ≤ length a
  pub right_fits : 0 < n → j + n ≤ length b

-- a byte stands in a at p and one in b at q, no blanks, and they are alike when folded if both are ASCII
pub record Meets (a b : List ℕ) (p q : ℕ) : Type 0 where
  pub left_inside : p < length a
  pub right_inside : q < length b
  pub left_ink : blank (get_or a p 0) ≡ false
  pub right_ink : blank (get_or b q 0) ≡ false
  pub alike : beyond (get_or a p 0) (get_or b q 0) ≡ false → lower (get_or a p 0) ≡ lower (get_or b q 0)

-- n bytes on, the words at p and q compare as from their starts
pub record Shared (a b : List ℕ) (p q n : ℕ) : Type 0 where
  pub some : 0 < n
  pub alike : equals (word_from a p) (word_from b q) ≡ equals (form_from a (p + n)) (form_from b (q + n))
  pub left_fits : p + n ≤ length a
  pub right_fits : q + n ≤ length b
