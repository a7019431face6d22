-- What starts a piece of a paragraph: document 01, "A paragraph's marking", and document 02, request 5.
use Rattle.std.specs.Prelude.{ℕ, suc, ◌+◌, ◌≤◌, ◌<◌, ◌≡◌, List, Bool, true, false, ◌&&◌, ◌||◌, length, get_or, drop, eqb}
use Rattle.scan.specs.Byte.{escapes}
use Rattle.scan.specs.Every.{FrontOf}
use Rattle.marking.specs.Marking.{Piece, link, image, escape, code, plain, opens, closes}

abbrev pub backtick : ℕ → Bool
backtick b = eqb b 96

-- "Backticks: the whole run from there, n long": n backticks stand from place a of p on, and no other follows them
pub record Backticks (p : List ℕ) (a n : ℕ) : Type 0 where
  pub nonempty : 0 < n
  pub run : FrontOf backtick (drop a p) n

-- "maximal run of exactly n": none stands before them either
pub record MaximalBackticks (p : List ℕ) (a n : ℕ) : Type 0 where
  pub run : Backticks p a n
  pub starts : (k : ℕ) → a ≡ suc k → backtick (get_or p k 0) ≡ false

-- "a later maximal run of exactly n", from place `from` on, "the first such"
pub record FirstRun (p : List ℕ) (from n a : ℕ) : Type 0 where
  pub later : from ≤ a
  pub run : MaximalBackticks p a n
  pub first : (b : ℕ) → from ≤ b → b < a → MaximalBackticks p b n → ⊥

-- "`![`", at the front of a text
abbrev pub image_opens : List ℕ → Bool
image_opens l = eqb (get_or l 0 0) 33 && eqb (get_or l 1 0) 91

-- bytes that start a piece of another kind than plain text, whatever stands after them
abbrev pub marks : ℕ → Bool
marks b = backtick b || eqb b 91 || eqb b 93

-- "What starts a piece decides its kind"
pub data Starts (p : List ℕ) : Piece → Type 0 where
  -- "An escape: two bytes."
  an_escape : {a : ℕ} → escapes (drop a p) ≡ true → Starts p (record { kind = escape; start = a; end = a + 2 })
  -- "If a later maximal run of exactly n exists in the paragraph, a code span to the end of the first such"
  a_code_span : {a n b : ℕ} → Backticks p a n → FirstRun p (a + n) n b → Starts p (record { kind = code; start = a; end = b + n })
  -- "otherwise plain"
  backticks : {a n : ℕ} → Backticks p a n → ((b : ℕ) → a + n ≤ b → MaximalBackticks p b n → ⊥) → Starts p (record { kind = plain; start = a; end = a + n })
  -- "`[` opens, `]` closes, any other byte is plain: each a piece of one byte."
  opening : {a : ℕ} → get_or p a 0 ≡ 91 → Starts p (record { kind = opens link; start = a; end = a + 1 })
  -- "`![` opens, one piece of two bytes": an escape `\!` is a piece of its own, so that after it the `[` starts one
  image_opening : {a : ℕ} → image_opens (drop a p) ≡ true → Starts p (record { kind = opens image; start = a; end = a + 2 })
  closing : {a : ℕ} → get_or p a 0 ≡ 93 → Starts p (record { kind = closes; start = a; end = a + 1 })
  other : {a : ℕ} → a < length p → escapes (drop a p) ≡ false → image_opens (drop a p) ≡ false → marks (get_or p a 0) ≡ false → Starts p (record { kind = plain; start = a; end = a + 1 })
