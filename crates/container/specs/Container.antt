-- What a header line of the container says: six numbers of six digits, and a setting.
use Rattle.std.specs.Prelude.{ℕ, ◌+◌, ◌-◌, ◌*◌, ◌≤◌, ◌≡◌, Bool, cond, ◌&&◌, ◌||◌, List, length, take, drop, get_or, eqb, ltb, Option, Some, None}
use Rattle.scan.specs.Byte.{within}
use Rattle.scan.specs.Reading.{Step, stop, next, scan}
use Rattle.container.specs.declared.Sizes.{Sizes}

-- `0` to `9`
abbrev pub digit : ℕ → Bool
digit = within 48 57

-- one digit more after those of n, which are at most five
unfoldable pub digit_step : ℕ → ℕ → List ℕ → Step ℕ (Option ℕ)
digit_step n b s = cond (digit b && ltb n 100000) (next (n * 10 + (b - 48))) (stop None)

-- the number that these digits make after those of n
abbrev pub number_from : List ℕ → ℕ → Option ℕ
number_from = scan digit_step Some

-- the number in the six bytes from `at` on
abbrev pub field : List ℕ → ℕ → Option ℕ
field line at = number_from (take 6 (drop at line)) 0

-- `0` or `1`
abbrev pub setting : ℕ → Bool
setting b = eqb b 48 || eqb b 49

-- 44 bytes with six spaces, a setting and a line end among them
abbrev pub ruled : List ℕ → Bool
ruled line =
    (((((((eqb (length line) 44 && eqb (get_or line 6 0) 32) && eqb (get_or line 13 0) 32) && eqb (get_or line 20 0) 32) && eqb (get_or line 27 0) 32) && eqb (get_or line 34 0) 32) && eqb (get_or line 41 0) 32) && setting (get_or line 42 0))
    && eqb (get_or line 43 0) 10

abbrev pub sizes : ℕ → ℕ → ℕ → ℕ → ℕ → ℕ → Bool → Sizes
sizes d n p k h l r = record { definitions = d; spans = n; page = p; note = k; sheet = h; label = l; release = r }

abbrev pub header_of : Option ℕ → Option ℕ → Option ℕ → Option ℕ → Option ℕ → Option ℕ → Bool → Option Sizes
header_of (Some d) (Some n) (Some p) (Some k) (Some h) (Some l) r = Some (sizes d n p k h l r)
header_of None n p k h l r = None
header_of (Some d) None p k h l r = None
header_of (Some d) (Some n) None k h l r = None
header_of (Some d) (Some n) (Some p) None h l r = None
header_of (Some d) (Some n) (Some p) (Some k) None l r = None
header_of (Some d) (Some n) (Some p) (Some k) (Some h) None r = None

abbrev pub line_of : List ℕ → Option Sizes
line_of line =
    cond (ruled line) (header_of (field line 0) (field line 7) (field line 14) (field line 21) (field line 28) (field line 35) (eqb (get_or line 42 0) 49)) None

-- ---- what a case can be
-- the program has so much to lend
pub record Lendable (s : Sizes) : Type 0 where
  pub definitions : s.definitions ≤ 1200
  pub spans : s.spans ≤ 3000
  pub page : s.page ≤ 40960

-- the note, the sheet and the label, each with its line end, are so many bytes
abbrev pub Framed : ℕ → Sizes → Type 0
Framed n s = n ≡ s.note + s.sheet + s.label + 3
