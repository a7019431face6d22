-- The same reading with nothing but what the code keeps: a place, the places of the opening brackets that wait, the last one first, the place of
-- the last link's opening bracket, and the spans.
use Rattle.std.specs.Prelude.{Bool, true, false, List, [], ◌++◌, ℕ, zero, suc, ◌-◌, ltb, leb, length}
use Rattle.std.proofs.Math.Option.{Option, none, some}
use Rattle.marking.specs.Marking.{Role, nothing, opening, closing, trailing, role}
use Rattle.marking.specs.Spans.{Span}
use Rattle.marking.specs.ReadingRules.{Grammar}
use Rattle.marking.specs.Reading.{Match, sort_of, found_by, stack_by, piece_at, place_after, last_after, new_spans}

pub record Scan (T : Type 0) : Type 0 where
  pub place : ℕ
  pub stack : List ℕ
  pub last_link : ℕ
  pub spans : List (Span T)

unfoldable pub scan_found : {T : Type 0} → Grammar T → Scan T → Match T
scan_found g s = found_by (λ o. sort_of (g.kind_at o)) (λ o. g.tail_at (g.end_at o) s.place) s.last_link s.stack (role (g.kind_at s.place))

unfoldable pub scan_step : {T : Type 0} → Grammar T → Scan T → Scan T
scan_step g s =
    record {
      place = place_after g (piece_at g s.place) (scan_found g s);
      stack = stack_by s.place s.stack (role (g.kind_at s.place));
      last_link = last_after s.last_link (scan_found g s);
      spans = s.spans ++ new_spans (piece_at g) (piece_at g s.place) (scan_found g s);
    }

-- at most n steps
unfoldable pub scan : {T : Type 0} → ℕ → Grammar T → Scan T → Scan T
scan zero g s = s
scan (suc n) g s = elim (ltb s.place g.size) [ true ↦ scan n g (scan_step g s) | false ↦ s ]

-- the end of the scan from a state
unfoldable pub finish : {T : Type 0} → Grammar T → Scan T → Scan T
finish g s = scan g.size g s

unfoldable pub scan_start : {T : Type 0} → Scan T
scan_start = record { place = 0; stack = []; last_link = 0; spans = [] }

unfoldable pub spans : {T : Type 0} → Grammar T → List (Span T)
spans g = (finish g scan_start).spans

-- a piece of that role comes to a stack that has no room for it
abbrev pub too_deep : ℕ → List ℕ → Role → Bool
too_deep limit st nothing = false
too_deep limit st opening = leb limit (length st)
too_deep limit st closing = false
too_deep limit st trailing = false

abbrev pub over_at : {T : Type 0} → ℕ → Grammar T → Scan T → Bool
over_at limit g s = too_deep limit s.stack (role (g.kind_at s.place))

-- the place of the first bracket too many, within n steps: the last byte of its piece
unfoldable pub over_within : {T : Type 0} → ℕ → ℕ → Grammar T → Scan T → Option ℕ
over_within limit zero g s = none
over_within limit (suc n) g s =
    elim (ltb s.place g.size) [
      | true ↦ elim (over_at limit g s) [ true ↦ some (g.end_at s.place - 1) | false ↦ over_within limit n g (scan_step g s) ]
      | false ↦ none
    ]

-- the place of the first bracket too many from a state
unfoldable pub overs : {T : Type 0} → ℕ → Grammar T → Scan T → Option ℕ
overs limit g s = over_within limit g.size g s

unfoldable pub over : {T : Type 0} → ℕ → Grammar T → Option ℕ
over limit g = overs limit g scan_start
