-- Where a destination and a title stand, and how long separating space is.
use Rattle.std.specs.Prelude.{ℕ, suc, ◌+◌, ◌-◌, List, [], ◌∷◌, Bool, true, false, cond, not, ◌&&◌, ◌||◌, get_or, drop, eqb, None, Option, Some}
use Rattle.scan.specs.Byte.{blank, escapes}
use Rattle.scan.specs.Reading.{bare, Step, stop, next, scan, closing}
use Rattle.target.specs.Target.{control}
use Rattle.target.specs.declared.Run.{Run}
use Rattle.target.specs.declared.Part.{Part}

-- ---- space
-- a byte that is no space; `line` says that an LF has been passed
abbrev pub unspaced : Bool → ℕ → Bool
unspaced line b = not (blank b) || line && eqb b 10

unfoldable pub space_from : Bool → List ℕ → ℕ
space_from line [] = 0
space_from line (b ∷ s) = elim (unspaced line b) [ true ↦ 0 | false ↦ suc (space_from (line || eqb b 10) s) ]

-- the length of the longest front that is space
abbrev pub space_run : List ℕ → ℕ
space_run = space_from false

-- ---- the longest run of a destination without angle brackets
-- a place, whether the byte there is the second of an escape, and how many parentheses are open
pub record Running : Type 0 where
  pub at : ℕ
  pub inside : Bool
  pub depth : ℕ

abbrev pub ended : Running → Run
ended t = record { end = t.at; depth = t.depth }

-- parentheses open after a byte
unfoldable pub depth_after : ℕ → ℕ → Bool → ℕ
depth_after d b inside = cond (bare 41 b inside) (d - 1) (cond (bare 40 b inside) (d + 1) d)

-- a byte before which the run ends
abbrev pub halts : ℕ → ℕ → Bool → Bool
halts d b inside = control b || bare 41 b inside && eqb d 0

unfoldable pub raw_step : Running → ℕ → List ℕ → Step Running Run
raw_step t b s =
    cond (halts t.depth b t.inside) (stop (ended t))
    (next (record { at = t.at + 1; inside = not t.inside && escapes s; depth = depth_after t.depth b t.inside }))

abbrev pub raw_from : List ℕ → Running → Run
raw_from = scan raw_step ended

-- where the longest run from place `at` ends, and how many parentheses it leaves open
unfoldable pub raw_run : List ℕ → ℕ → Run
raw_run s at = raw_from s (record { at = at; inside = false; depth = 0 })

-- the same run where it is given up at an opening parenthesis that has a mark, with that one open
unfoldable pub step_to : List Bool → Running → ℕ → List ℕ → Step Running Run
step_to marks t b s =
    cond (halts t.depth b t.inside) (stop (ended t))
    (cond (get_or marks t.at false && eqb b 40) (stop (record { end = t.at; depth = 1 }))
    (next (record { at = t.at + 1; inside = not t.inside && escapes s; depth = depth_after t.depth b t.inside })))

abbrev pub run_from : List Bool → List ℕ → Running → Run
run_from marks = scan (step_to marks) ended

unfoldable pub run_to : List Bool → List ℕ → ℕ → Run
run_to marks s at = run_from marks s (record { at = at; inside = false; depth = 0 })

-- ---- what starts at the front of `s`, which is at place `at`: start and end of the content, and the place after it
abbrev pub part : ℕ → ℕ → ℕ → Part
part a e n = record { start = a; end = e; next = n }

-- a run that is nonempty and has all parentheses closed
unfoldable pub judged : ℕ → Run → Option Part
judged at r = cond (eqb r.end at || not (eqb r.depth 0)) None (Some (part at r.end r.end))

abbrev pub up_to : ℕ → Option ℕ → Option Part
up_to at (Some e) = Some (part at e (e + 1))
up_to at None = None

-- the content starts s, just after the opening delimiter
abbrev pub enclosed_of : ℕ → ℕ → ℕ → List ℕ → ℕ → Option Part
enclosed_of close bar other s at = up_to at (closing close bar other s at)

unfoldable pub destination_of : List ℕ → ℕ → Option Part
destination_of s at = cond (eqb (get_or s 0 0) 60) (enclosed_of 62 60 10 (drop 1 s) (at + 1)) (judged at (raw_run s at))

-- a byte that opens a title, and the one that closes it
abbrev pub quotes : ℕ → Bool
quotes q = eqb q 34 || eqb q 39 || eqb q 40

unfoldable pub closer : ℕ → ℕ
closer q = cond (eqb q 40) 41 q

unfoldable pub title_of : List ℕ → ℕ → Option Part
title_of s at = cond (quotes (get_or s 0 0)) (enclosed_of (closer (get_or s 0 0)) (get_or s 0 0) (get_or s 0 0) (drop 1 s) (at + 1)) None
