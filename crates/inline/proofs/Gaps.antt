-- Space in the tail of an inline link: the reading takes all that there is, and the law any that will do.
use Prim.Native.Nat.{ℕ, zero, suc, ◌+◌, ◌-◌, ◌≤◌, ◌<◌}
use native.Mathlib.Omega.{arith}
use mathlib.Core.Path.{◌≡◌, refl, sym, ap, ◌∙◌}
use mathlib.Core.List.{List, [], ◌∷◌, ◌++◌, append_assoc}
use mathlib.Core.Bool.{Bool, true, false, true≢false}
use borrow.Author.Tests.{ltb-true, ltb-false}
use lib.ListN.{length, get_or, drop, length-append, length-drop}
use lib.Seq.{drop_at, drop-drop, drop-append-le, drop-append-add, get_or-append_seam}
use lib.Dec.{ltb}
use Rattle.scan.proofs.Test.{by}
use Rattle.scan.specs.Byte.{blank}
use Rattle.scan.proofs.Scan.{peek_inside, at_cons}
use Rattle.scan.specs.Every.{Every, none, more}
use Rattle.target.specs.Target.{line_feeds, Space}
use Rattle.target.specs.Reading.{space_run}
use Rattle.target.proofs.Space.{space_exact, space_run_longest, space_run_iff, space_run_fits}
use Rattle.inline.specs.Tails.{Closes}
use Rattle.inline.specs.ReadingTails.{space_end}
use Rattle.inline.proofs.Ticks.{every_at}

-- ---- all the space from place i on
pub record Gap (s : List ℕ) (i : ℕ) : Type 0 where
  pub gap : List ℕ
  pub whole : drop i s ≡ gap ++ drop (space_end s i) s
  pub spaced : Space gap
  pub size : length gap ≡ space_run (drop i s)

pub gap_at : (s : List ℕ) (i : ℕ) → Gap s i
gap_at s i =
    let m = (space_run_iff (drop i s) (space_run (drop i s))).0 refl in
    let e : drop (space_end s i) s ≡ m.rest =
    sym (drop-drop (space_run (drop i s)) i s) ∙ ap (drop (space_run (drop i s))) m.whole ∙ drop_at m.front m.rest (space_run (drop i s)) m.size in
    record { gap = m.front; whole = rw e m.whole; spaced = m.space; size = m.size }

-- space that no blank byte follows is all there is
module _ (s : List ℕ) (i : ℕ) (gap y : List ℕ) (w : drop i s ≡ gap ++ y) (p : Space gap) (h : blank (get_or y 0 0) ≡ false) where
  pub gap_size : length gap ≡ space_run (drop i s)
  gap_size = space_exact (drop i s) gap y w p h

  pub past_gap : y ≡ drop (space_end s i) s
  past_gap = sym (sym (drop-drop (space_run (drop i s)) i s) ∙ ap (drop (space_run (drop i s))) w ∙ drop_at gap y (space_run (drop i s)) gap_size)

pub gap_fits : (s : List ℕ) (i : ℕ) → i ≤ length s → space_end s i ≤ length s
gap_fits s i h = omega (arith, space_run_fits (drop i s), length-drop i s)

-- ---- "optional space, `)`"
pub record Closed (s : List ℕ) (h : ℕ) (rest : List ℕ) : Type 0 where
  pub front : drop h s ≡ 41 ∷ rest
  pub byte : get_or s h 0 ≡ 41
  pub size : length s - length rest ≡ h + 1

pub closes_at : (s : List ℕ) (i : ℕ) {rest : List ℕ} → Closes (drop i s) rest → Closed s (space_end s i) rest
closes_at s i {rest} c =
    let e : 41 ∷ rest ≡ drop (space_end s i) s = past_gap s i c.gap (41 ∷ rest) c.whole c.spaced refl in
    let n : suc (length rest) ≡ length s - space_end s i = ap length e ∙ length-drop (space_end s i) s in
    let h : space_end s i < length s = omega arith in
    let q : 41 ∷ rest ≡ get_or s (space_end s i) 0 ∷ drop (space_end s i + 1) s = e ∙ at_cons s (space_end s i) h in
    record { front = sym e; byte = sym (head q); size = omega arith }
  where
    head : {a b : ℕ} {l m : List ℕ} → a ∷ l ≡ b ∷ m → a ≡ b
    head q = cc

pub closes_from : (s : List ℕ) (i : ℕ) → get_or s (space_end s i) 0 ≡ 41 → Closes (drop i s) (drop (space_end s i + 1) s)
closes_from s i e =
    let g = gap_at s i in
    let h : space_end s i < length s = peek_inside s (space_end s i) (λ z. omega arith) in
    record { gap = g.gap; whole = g.whole ∙ ap (λ (x : List ℕ). g.gap ++ x) (at_cons s (space_end s i) h ∙ ap (λ (b : ℕ). b ∷ drop (space_end s i + 1) s) e); spaced = g.spaced }

pub closed_size : (s : List ℕ) (h : ℕ) → get_or s h 0 ≡ 41 → length s - length (drop (h + 1) s) ≡ h + 1
closed_size s h e = omega (arith, length-drop (h + 1) s, peek_inside s h (λ z. omega arith))

-- ---- two gaps side by side
every_drop : {test : ℕ → Bool} {l : List ℕ} → Every test l → (k : ℕ) → Every test (drop k l)
every_drop none zero = none
every_drop none (suc k) = none
every_drop (more e p) zero = more e p
every_drop (more e p) (suc k) = every_drop p k

fewer_lines : (l : List ℕ) (k : ℕ) → line_feeds (drop k l) ≤ line_feeds l
unfolding line_feeds
fewer_lines [] zero = omega arith
fewer_lines [] (suc k) = omega arith
fewer_lines (b ∷ l) zero = omega arith
fewer_lines (b ∷ l) (suc k) = omega (arith, fewer_lines l k)

-- space ends before a byte that is not blank
space_stops : (x front : List ℕ) (b : ℕ) (rest : List ℕ) → x ≡ front ++ b ∷ rest → blank b ≡ false → space_run x ≤ length front
space_stops x front b rest w h =
    let m = (space_run_iff x (space_run x)).0 refl in
    by (ltb (length front) (space_run x))
    (λ k.
    let t : blank (get_or (m.front ++ m.rest) (length front) 0) ≡ true =
    every_at blank refl m.space.blanks m.rest (length front) (omega (arith, ltb-true (length front) (space_run x) k, m.size)) in
    let q : get_or (m.front ++ m.rest) (length front) 0 ≡ b = ap (λ (y : List ℕ). get_or y (length front) 0) (sym m.whole ∙ w) ∙ get_or-append_seam front b rest 0 in
    absurd (true≢false (sym t ∙ ap blank q ∙ h)))
    (ltb-false (length front) (space_run x))

-- where two gaps stand before a `)`, the reading takes the first as long as it can be, and what is left of the second is space too
pub second_gap : (s : List ℕ) (i : ℕ) (gap body : List ℕ) {rest : List ℕ} → drop i s ≡ gap ++ body → Space gap → Closes body rest → Closes (drop (space_end s i) s) rest
second_gap s i gap body {rest} w p c =
    let r = space_run (drop i s) in
    let low : length gap ≤ r = space_run_longest (drop i s) gap body w p in
    let two : drop i s ≡ (gap ++ c.gap) ++ 41 ∷ rest = w ∙ ap (λ (x : List ℕ). gap ++ x) c.whole ∙ sym (append_assoc gap c.gap (41 ∷ rest)) in
    let high : r ≤ length gap + length c.gap = omega (arith, space_stops (drop i s) (gap ++ c.gap) 41 rest two refl, length-append gap c.gap) in
    let k = r - length gap in
    let e : drop (space_end s i) s ≡ drop k c.gap ++ 41 ∷ rest =
    sym (drop-drop r i s)
    ∙ ap (drop r) w
    ∙ ap (λ (j : ℕ). drop j (gap ++ body)) (sum r low)
    ∙ drop-append-add gap body k
    ∙ ap (drop k) c.whole
    ∙ drop-append-le k c.gap (41 ∷ rest) (omega arith) in
    record { gap = drop k c.gap; whole = e; spaced = record { blanks = every_drop c.spaced.blanks k; line = omega (arith, fewer_lines c.gap k, c.spaced.line) } }
  where
    sum : (r : ℕ) → length gap ≤ r → r ≡ length gap + (r - length gap)
    sum r h = omega arith
