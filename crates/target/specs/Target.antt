-- Separating space, link destination and link title: what they are.
use Rattle.std.specs.Prelude.{ℕ, ◌+◌, ◌≤◌, ◌<◌, ◌≡◌, List, [], ◌∷◌, ◌++◌, Bool, true, false, cond, not, ◌||◌, length, get_or, ltb, eqb}
use Rattle.scan.specs.Byte.{punctuation, blank, escapes}
use Rattle.scan.specs.Every.{Every}
use Rattle.scan.specs.Closing.{Closed}

-- how many LFs
unfoldable pub line_feeds : List ℕ → ℕ
line_feeds [] = 0
line_feeds (b ∷ l) = cond (eqb b 10) 1 0 + line_feeds l

-- "Space below means spaces, tabs and at most one LF."
pub record Space (l : List ℕ) : Type 0 where
  pub blanks : Every blank l
  pub line : line_feeds l ≤ 1

-- ---- destinations without angle brackets
-- "byte below 33" or "127"
abbrev pub control : ℕ → Bool
control b = ltb b 33 || eqb b 127

-- All parentheses of l are closed, where `after` follows l. "escapes are read from its start and never overlap": a parenthesis in an escape
-- neither opens nor closes, and a `\` before punctuation is no byte by itself, even where the punctuation is the `)` that closes the group.
pub data AllClosed : List ℕ → List ℕ → Type 0 where
  none : {after : List ℕ} → AllClosed after []
  escape : {after l : List ℕ} {p : ℕ} → punctuation p ≡ true → AllClosed after l → AllClosed after (92 ∷ p ∷ l)
  byte : {after l : List ℕ} {b : ℕ} → (eqb b 40 || eqb b 41) ≡ false → escapes (b ∷ (l ++ after)) ≡ false → AllClosed after l → AllClosed after (b ∷ l)
  group : {after k l : List ℕ} → AllClosed (41 ∷ []) k → AllClosed after l → AllClosed after (40 ∷ (k ++ 41 ∷ l))

-- "never closes an unescaped parenthesis it has not opened": l is balanced, but for some `(` that it leaves open
pub data ClosesOnlyOpened : List ℕ → Type 0 where
  balanced : {l : List ℕ} → AllClosed [] l → ClosesOnlyOpened l
  opened : {k l : List ℕ} → AllClosed (40 ∷ []) k → ClosesOnlyOpened l → ClosesOnlyOpened (k ++ 40 ∷ l)

-- "characters with no byte below 33 and no 127 that never closes an unescaped parenthesis it has not opened"
pub record Admissible (l : List ℕ) : Type 0 where
  pub clean : Every (λ b. not (control b)) l
  pub parentheses : ClosesOnlyOpened l

-- "the longest run" of these: s is l and more, and no longer front of s will do. Bytes from 128 on are all admitted,
-- so that the run ends between two characters.
pub record Longest (s l more : List ℕ) : Type 0 where
  pub whole : s ≡ l ++ more
  pub admissible : Admissible l
  pub longest : (k rest : List ℕ) → s ≡ k ++ rest → Admissible k → length k ≤ length l

-- "or, not starting with `<`, the longest run .., nonempty and with all parentheses closed". The longest run is judged:
-- where it leaves a parenthesis open, no shorter run stands in for it.
pub record Raw (s l more : List ℕ) : Type 0 where
  pub run : Longest s l more
  pub unangled : get_or s 0 0 ≡ 60 → ⊥
  pub nonempty : 0 < length l
  pub closed : AllClosed [] l

-- ---- between delimiters
-- s is `opening`, l, the first unescaped `close`, and more; l has no unescaped `close`, `bar` or `other`
pub record Between (opening close bar other : ℕ) (s l more : List ℕ) : Type 0 where
  pub rest : List ℕ
  pub whole : s ≡ opening ∷ rest
  pub inner : Closed close bar other rest l more

-- A destination starts s: its content l starts at place 0 or 1 of s, and `more` follows the destination.
-- "`<...>` with no LF and no unescaped `<` or `>`; or, not starting with `<`, ..". An LF is in no escape.
pub data Destination (s : List ℕ) : ℕ → List ℕ → List ℕ → Type 0 where
  angled : {l more : List ℕ} → Between 60 62 60 10 s l more → Destination s 1 l more
  raw : {l more : List ℕ} → Raw s l more → Destination s 0 l more

-- A title starts s: l is its content, and `more` follows the title.
-- "between two `"`, two `'`, or `(` and `)`, none of its own delimiters unescaped inside"
pub data Title (s : List ℕ) : List ℕ → List ℕ → Type 0 where
  double : {l more : List ℕ} → Between 34 34 34 34 s l more → Title s l more
  single : {l more : List ℕ} → Between 39 39 39 39 s l more → Title s l more
  parentheses : {l more : List ℕ} → Between 40 41 40 40 s l more → Title s l more

-- ---- the same with places: s starts at place `at`, the content runs from a to e, and the whole ends before n
pub record DestinationAt (s : List ℕ) (at a e n : ℕ) : Type 0 where
  pub from : ℕ
  pub content : List ℕ
  pub more : List ℕ
  pub destination : Destination s from content more
  pub start : a ≡ at + from
  pub end : e ≡ a + length content
  pub past : n ≡ e + from

pub record TitleAt (s : List ℕ) (at a e n : ℕ) : Type 0 where
  pub content : List ℕ
  pub more : List ℕ
  pub title : Title s content more
  pub start : a ≡ at + 1
  pub end : e ≡ a + length content
  pub past : n ≡ e + 1
