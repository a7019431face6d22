-- Brackets open at a point of a marking, and the first bracket too many: document 01, "A paragraph's marking" and refusal 4.
-- The point k is where piece k starts: the pieces before it are those of an index below k.
use Rattle.std.specs.Prelude.{◌≡◌, Bool, true, false, cond, ◌&&◌, ◌||◌, ℕ, zero, suc, ◌+◌, ◌-◌, ◌<◌, ◌≤◌}
use Rattle.std.proofs.Math.Option.{Option, none, some}
use Rattle.std.proofs.Math.ListN.{get_elem?}
use Rattle.marking.specs.Marking.{Role, nothing, opening, closing, trailing, role, Piece, Marking, Plays}

-- how many numbers below k pass the test
abbrev pub count : (ℕ → Bool) → ℕ → ℕ
count test zero = 0
count test (suc k) = cond (test k) 1 0 + count test k

-- a number below k passes the test
abbrev pub any : (ℕ → Bool) → ℕ → Bool
any test zero = false
any test (suc k) = test k || any test k

abbrev pub is_opening : Role → Bool
is_opening nothing = false
is_opening opening = true
is_opening closing = false
is_opening trailing = false

abbrev pub opens_by : Option Piece → Bool
opens_by none = false
opens_by (some q) = is_opening (role q.kind)

-- piece i is an opening piece
abbrev pub opens_at : {T : Type 0} → Marking T → ℕ → Bool
opens_at m i = opens_by (get_elem? m.pieces i)

-- "opening pieces before it"
unfoldable pub opened_before : {T : Type 0} → Marking T → ℕ → ℕ
opened_before m k = count (opens_at m) k

-- "those paired by then", that is, with a piece before the point
unfoldable pub paired_before : {T : Type 0} → Marking T → ℕ → ℕ
paired_before m k = count (λ i. opens_at m i && any (m.pairs i) k) k

-- "Brackets open at a point: opening pieces before it less those paired by then."
unfoldable pub open_brackets : {T : Type 0} → Marking T → ℕ → ℕ
open_brackets m k = opened_before m k - paired_before m k

-- never are more than so many brackets open at once
abbrev pub NeverOver : {T : Type 0} → ℕ → Marking T → Type 0
NeverOver limit m = (k : ℕ) → open_brackets m k ≤ limit

-- "place of the first bracket too many": the opening piece whose `[` stands at the place p is the first with which more than so many brackets are open.
-- "Both sorts of opening count .. for refusal 4 (its place is the `[`)": the `[` is the last byte of either
pub record FirstOver {T : Type 0} (limit : ℕ) (m : Marking T) (p : ℕ) : Type 0 where
  pub index : ℕ
  pub bracket : Plays opening m.pieces index
  pub place_is : bracket.piece.end ≡ suc p
  pub too_many : limit < open_brackets m (suc index)
  pub none_before : (k : ℕ) → k ≤ index → open_brackets m k ≤ limit
