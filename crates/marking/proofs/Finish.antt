-- What a loop over the scan's state needs: from every state the scan comes to the same end as from the next one.
use mathlib.Core.Path.{◌≡◌, refl, sym, ◌∙◌}
use mathlib.Core.Bool.{Bool, true, false, cond}
use mathlib.Core.Option.{Option, none, some}
use mathlib.Core.List.{List, [], ◌∷◌}
use Prim.Native.Nat.{ℕ, zero, suc, ◌+◌, ◌-◌, ◌≤◌, ◌<◌}
use native.Mathlib.Omega.{arith}
use lib.Dec.{ltb}
use borrow.Author.Tests.{ltb-true, ltb-false, lt-ltb, le-ltb}
use Rattle.marking.specs.Marking.{Sort, Role, nothing, opening, closing, trailing, role}
use Rattle.marking.specs.ReadingRules.{Grammar}
use Rattle.marking.specs.Reading.{Match, alone, paired, taken, with_tail, sort_of, barred, found_closing, found_by, piece_at, place_after}
use Rattle.marking.specs.ReadingSpans.{Scan, scan_found, scan_step, scan, finish, over_at, over_within, overs}
use Rattle.marking.proofs.Sound.{Sound}

module _ {T : Type 0} (g : Grammar T) where
  pub scan_on : (n : ℕ) (s : Scan T) → s.place < g.size → scan (suc n) g s ≡ scan n g (scan_step g s)
  unfolding scan
  scan_on n s h = rw (lt-ltb s.place g.size h, scan)

  pub scan_end : (n : ℕ) (s : Scan T) → g.size ≤ s.place → scan n g s ≡ s
  unfolding scan
  scan_end zero s h = refl
  scan_end (suc n) s h = rw (le-ltb s.place g.size h, scan)

  module _ (sd : Sound g) where
    after_grows : (b : ℕ) (f : Match T) → b < g.size → b < place_after g (piece_at g b) f
    after_grows b alone h = sd.grows b h
    after_grows b (paired i) h = sd.grows b h
    after_grows b (taken x i t) h = omega (arith, sd.grows b h)

    pub scan_grows : (s : Scan T) → s.place < g.size → s.place < (scan_step g s).place
    unfolding scan_step
    scan_grows s h = after_grows s.place (scan_found g s) h

    -- a step ends within the paragraph, since each piece does, and each tail that the grammar gives
    module _ (s : Scan T) (h : s.place < g.size) where
      abbrev sort_at : ℕ → Sort
      sort_at o = sort_of (g.kind_at o)

      abbrev tail_of : ℕ → Option T
      tail_of o = g.tail_at (g.end_at o) s.place

      abbrev Ends : Match T → Type 0
      Ends f = place_after g (piece_at g s.place) f ≤ g.size

      closing_ends : role (g.kind_at s.place) ≡ closing → (st : List ℕ) → Ends (found_closing sort_at tail_of s.last_link st)
      closing_ends r [] = sd.within s.place h
      closing_ends r (i ∷ st) = pair_ends (barred (sort_at i) i s.last_link) (tail_of i) refl
        where
          pair_ends : (b : Bool) (x : Option T) → tail_of i ≡ x → Ends (cond b (paired i) (with_tail (sort_at i) i x))
          pair_ends true x e = sd.within s.place h
          pair_ends false none e = sd.within s.place h
          pair_ends false (some t) e = sd.tail_within (g.end_at i) s.place t h r e

      role_ends : (x : Role) → role (g.kind_at s.place) ≡ x → Ends (found_by sort_at tail_of s.last_link s.stack x)
      role_ends nothing r = sd.within s.place h
      role_ends opening r = sd.within s.place h
      role_ends closing r = closing_ends r s.stack
      role_ends trailing r = sd.within s.place h

      pub scan_within : (scan_step g s).place ≤ g.size
      unfolding scan_step scan_found
      scan_within = role_ends (role (g.kind_at s.place)) refl

    pub scan_more : (n : ℕ) (s : Scan T) → g.size ≤ s.place + n → scan (suc n) g s ≡ scan n g s
    scan_more zero s h = scan_end 1 s (omega arith) ∙ sym (scan_end 0 s (omega arith))
    scan_more (suc n) s h = by (λ (l : s.place < g.size). scan_more n (scan_step g s) (omega (arith, scan_grows s l))) (ltb s.place g.size) refl
      where
        by : (s.place < g.size → scan (suc n) g (scan_step g s) ≡ scan n g (scan_step g s)) → (x : Bool) → ltb s.place g.size ≡ x → scan (suc (suc n)) g s ≡ scan (suc n) g s
        by below true e = let l : s.place < g.size = ltb-true s.place g.size e in scan_on (suc n) s l ∙ below l ∙ sym (scan_on n s l)
        by below false e = let l : g.size ≤ s.place = ltb-false s.place g.size e in scan_end (suc (suc n)) s l ∙ sym (scan_end (suc n) s l)

    pub finish_step : (s : Scan T) → s.place < g.size → finish g s ≡ finish g (scan_step g s)
    unfolding finish
    finish_step s h = by g.size refl
      where
        by : (n : ℕ) → g.size ≡ n → scan n g s ≡ scan n g (scan_step g s)
        by zero e = absurd (omega arith)
        by (suc n) e = scan_on n s h ∙ sym (scan_more n (scan_step g s) (omega (arith, scan_grows s h)))

  pub finish_end : (s : Scan T) → g.size ≤ s.place → finish g s ≡ s
  unfolding finish
  finish_end s h = scan_end g.size s h

-- ---- the same of the first bracket too many

module _ {T : Type 0} (limit : ℕ) (g : Grammar T) where
  pub over_deep : (n : ℕ) (s : Scan T) → s.place < g.size → over_at limit g s ≡ true → over_within limit (suc n) g s ≡ some (g.end_at s.place - 1)
  unfolding over_within
  over_deep n s h e = rw (lt-ltb s.place g.size h, e, over_within)

  pub over_on : (n : ℕ) (s : Scan T) → s.place < g.size → over_at limit g s ≡ false → over_within limit (suc n) g s ≡ over_within limit n g (scan_step g s)
  unfolding over_within
  over_on n s h e = rw (lt-ltb s.place g.size h, e, over_within)

  pub over_end : (n : ℕ) (s : Scan T) → g.size ≤ s.place → over_within limit n g s ≡ none
  unfolding over_within
  over_end zero s h = refl
  over_end (suc n) s h = rw (le-ltb s.place g.size h, over_within)

  module _ (sd : Sound g) where
    over_more : (n : ℕ) (s : Scan T) → g.size ≤ s.place + n → over_within limit (suc n) g s ≡ over_within limit n g s
    over_more zero s h = over_end 1 s (omega arith) ∙ sym (over_end 0 s (omega arith))
    over_more (suc n) s h = by (λ (l : s.place < g.size). over_more n (scan_step g s) (omega (arith, scan_grows g sd s l))) (ltb s.place g.size) (over_at limit g s) refl refl
      where
        by : (s.place < g.size → over_within limit (suc n) g (scan_step g s) ≡ over_within limit n g (scan_step g s)) → (x y : Bool) → ltb s.place g.size ≡ x
            → over_at limit g s ≡ y → over_within limit (suc (suc n)) g s ≡ over_within limit (suc n) g s
        by below true true e e' = let l : s.place < g.size = ltb-true s.place g.size e in over_deep (suc n) s l e' ∙ sym (over_deep n s l e')
        by below true false e e' = let l : s.place < g.size = ltb-true s.place g.size e in over_on (suc n) s l e' ∙ below l ∙ sym (over_on n s l e')
        by below false true e e' = let l : g.size ≤ s.place = ltb-false s.place g.size e in over_end (suc (suc n)) s l ∙ sym (over_end (suc n) s l)
        by below false false e e' = let l : g.size ≤ s.place = ltb-false s.place g.size e in over_end (suc (suc n)) s l ∙ sym (over_end (suc n) s l)

    pub overs_step : (s : Scan T) → s.place < g.size → over_at limit g s ≡ false → overs limit g s ≡ overs limit g (scan_step g s)
    unfolding overs
    overs_step s h e = by g.size refl
      where
        by : (n : ℕ) → g.size ≡ n → over_within limit n g s ≡ over_within limit n g (scan_step g s)
        by zero z = absurd (omega arith)
        by (suc n) z = over_on n s h e ∙ sym (over_more n (scan_step g s) (omega (arith, scan_grows g sd s h)))

  pub overs_deep : (s : Scan T) → s.place < g.size → over_at limit g s ≡ true → overs limit g s ≡ some (g.end_at s.place - 1)
  unfolding overs
  overs_deep s h e = by g.size refl
    where
      by : (n : ℕ) → g.size ≡ n → over_within limit n g s ≡ some (g.end_at s.place - 1)
      by zero z = absurd (omega arith)
      by (suc n) z = over_deep n s h e

  pub overs_end : (s : Scan T) → g.size ≤ s.place → overs limit g s ≡ none
  unfolding overs
  overs_end s h = over_end g.size s h
