-- One pass over the runs of backticks: each run that starts before place i is in the table, and none goes on from there.
use Rattle.std.specs.Prelude.{None}
use Prim.Native.Nat.{ℕ, zero, suc, ◌+◌, ◌-◌, ◌≤◌, ◌<◌}
use native.Mathlib.Omega.{arith}
use mathlib.Core.Path.{◌≡◌, refl, sym, ap, ◌∙◌}
use mathlib.Core.List.{List}
use mathlib.Core.Bool.{Bool, true, false, true≢false}
use borrow.Author.Tests.{ltb-true, ltb-false, eqb-true, eqb-false, not-true}
use lib.ListN.{length, get_or, set, drop, replicate, length-set, length-replicate, get_or-replicate, get_or-eq_default}
use lib.Seq.{get_or-set_same, get_or-set_other, get_or-drop}
use lib.Dec.{ltb, eqb}
use Rattle.scan.proofs.Test.{by}
use Rattle.scan.specs.Reading.{run, past}
use Rattle.scan.proofs.Every.{run_iff}
use Rattle.inline.specs.Pieces.{backtick, MaximalBackticks}
use Rattle.inline.specs.ReadingPieces.{closing_run}
use Rattle.inline.proofs.Ticks.{tick, ticks_in, ticks_first, as_backticks, front_halts}
use Rattle.inline.proofs.CodeSpans.{order, no_closing_run_iff}
use Rattle.ticks.specs.LastRuns.{lengths, other_byte, EndsAt, LastRuns}
use Rattle.ticks.proofs.Past.{past_low, past_in, tick_on}

both : {A : Type 0} {b : Bool} → b ≡ true → b ≡ false → A
both e k = absurd (true≢false (sym e ∙ k))

past_end : (p : List ℕ) (i : ℕ) → length p ≤ i → tick p i ≡ false
past_end p i h = rw (get_or-eq_default p 0 h)

inside : (p : List ℕ) (i : ℕ) → tick p i ≡ true → i < length p
inside p i t = by (ltb i (length p)) (ltb-true i (length p)) (λ e. both t (past_end p i (ltb-false i (length p) e)))

-- a run lies within the text
run_inside : (p : List ℕ) (b n : ℕ) → MaximalBackticks p b n → b + n ≤ length p
run_inside p b n m =
    let h = m.run.nonempty in
    omega (arith, inside p (b + (n - 1)) (ticks_in p b n m.run (n - 1) (omega arith)))

pub record Seen (p : List ℕ) (i : ℕ) (t : List ℕ) : Type 0 where
  pub size : length t ≡ lengths
  pub edge : tick p i ≡ true → i ≡ 0
  pub covers : (n b : ℕ) → n < lengths → MaximalBackticks p b n → b < i → b + n ≤ get_or t n 0
  pub real : (n : ℕ) → 0 < n → n < lengths → 0 < get_or t n 0 → EndsAt p n (get_or t n 0)

-- no backtick stands after the backticks that are passed
pub past_halts : (p : List ℕ) (at : ℕ) → tick p (past backtick p at) ≡ false
unfolding past
past_halts p at = rw get_or-drop at (front_halts backtick refl ((run_iff backtick (drop at p) (run backtick (drop at p))).0 refl))

-- the next run is from a to e
module _ (p : List ℕ) (i : ℕ) (t : List ℕ) (s : Seen p i t) {a e : ℕ} (qa : a ≡ past other_byte p i) (qe : e ≡ past backtick p a) where
  low : (i ≤ a) × (a ≤ e)
  low = (omega (arith, past_low other_byte p i), omega (arith, past_low backtick p a))

  others : (k : ℕ) → i ≤ k → k < a → tick p k ≡ false
  others k g h = not-true (tick p k) (past_in other_byte p i k g (omega arith))

  ticks : (k : ℕ) → a ≤ k → k < e → tick p k ≡ true
  ticks k g h = past_in backtick p a k g (omega arith)

  -- a maximal run that starts before e starts before i, or is this one
  one_run : {A : Type 0} (n b : ℕ) → MaximalBackticks p b n → b < e → (b < i → A) → (b ≡ a → n ≡ e - a → A) → A
  unfolding past
  one_run {A} n b m l f g =
      order b a
      (λ o. by (ltb b i) (λ x. f (ltb-true b i x)) (λ x. both (ticks_first p b n m.run) (others b (ltb-false b i x) o)))
      (λ o. g o (same o))
      (λ o. inner b l o m.starts)
    where
      same : b ≡ a → n ≡ e - a
      same o = let q = (run_iff backtick (drop b p) n).1 m.run.run in let z = ap (λ (x : ℕ). run backtick (drop x p)) o in omega arith

      inner : (b : ℕ) → b < e → a < b → ((k : ℕ) → b ≡ suc k → tick p k ≡ false) → A
      inner zero l o f = let no : ⊥ = omega arith in absurd no
      inner (suc b) l o f = both (ticks b (omega arith) (omega arith)) (f b refl)

  -- it is one, where it is not empty
  run_here : (n : ℕ) → 0 < n → n ≡ e - a → EndsAt p n e
  run_here n h q =
      record {
        place = a;
        run = record { run = as_backticks p a n h (λ k l. ticks (a + k) (omega arith) (omega arith)) ended; starts = starts };
        ends = omega (arith, low.1);
      }
    where
      ended : tick p (a + n) ≡ false
      ended = let z : a + n ≡ past backtick p a = omega (arith, low.1) in rw z (past_halts p a)

      starts : (k : ℕ) → a ≡ suc k → tick p k ≡ false
      starts k z =
          by (ltb k i)
          (λ x.
          let y : a ≡ i = omega (arith, ltb-true k i x, low.0) in
          let no : ⊥ = omega (arith, s.edge (rw y at (ticks a (omega arith) (omega arith)))) in absurd no)
          (λ x. others k (ltb-false k i x) (omega arith))

  put_same : (n : ℕ) → n < lengths → n ≡ e - a → get_or (set t (e - a) e) n 0 ≡ e
  put_same n h q = rw q (get_or-set_same t (e - a) e 0 (omega (arith, s.size)))

  put_other : (n : ℕ) → (n ≡ e - a → ⊥) → get_or (set t (e - a) e) n 0 ≡ get_or t n 0
  put_other n q = get_or-set_other t (e - a) n e 0 q

  still_covers : (n b : ℕ) → n < lengths → MaximalBackticks p b n → b < e → b + n ≤ get_or (set t (e - a) e) n 0
  still_covers n b h m l =
      by (eqb n (e - a))
      (λ x.
      let y = eqb-true n (e - a) x in
      let z = put_same n h y in
      one_run n b m l (λ o. omega (arith, low.0, low.1)) (λ o w. omega (arith, low.1)))
      (λ x.
      let y = eqb-false n (e - a) x in
      let z = put_other n y in
      one_run n b m l (λ o. omega (arith, s.covers n b h m o)) (λ o w. absurd (y w)))

  still_real : (n : ℕ) → 0 < n → n < lengths → 0 < get_or (set t (e - a) e) n 0 → EndsAt p n (get_or (set t (e - a) e) n 0)
  still_real n g h l =
      by (eqb n (e - a))
      (λ x. let y = eqb-true n (e - a) x in rw (put_same n h y) (run_here n g y))
      (λ x. let z = put_other n (eqb-false n (e - a) x) in rw z (s.real n g h (omega arith)))

  -- over the run; u is what `put` leaves
  pub turn : {u : List ℕ} → u ≡ set t (e - a) e → Seen p e u
  turn q =
      rw q
      (record {
        size = length-set t (e - a) e ∙ s.size;
        edge = λ k. both k (rw qe (past_halts p a));
        covers = still_covers;
        real = still_real;
      })

-- ---- the loop's two ends
pub begins : (p : List ℕ) → Seen p 0 (replicate lengths 0)
begins p =
    record {
      size = length-replicate {A = ℕ} lengths 0;
      edge = λ k. refl;
      covers = λ n b h m l. let no : ⊥ = omega arith in absurd no;
      real = λ n g h l. let no : ⊥ = omega (arith, get_or-replicate {A = ℕ} lengths n 0 0 h) in absurd no;
    }

module _ (p : List ℕ) (i : ℕ) (t : List ℕ) (s : Seen p i t) where
  pub all_seen : length p ≤ i → LastRuns p t
  all_seen h =
      record {
        covers = λ n b l m. let g = m.run.nonempty in s.covers n b l m (omega (arith, run_inside p b n m));
        real = s.real;
      }

-- ---- a search that the table spares
module _ (p t : List ℕ) (r : LastRuns p t) (at n : ℕ) (some : 0 < n) (starts : tick p at ≡ false) where
  pub none_later : n < lengths → get_or t n 0 ≤ at → None ≡ closing_run n (drop at p) at
  none_later h l =
      sym ((no_closing_run_iff p at n some starts).1 (λ b k m. omega (arith, r.covers n b h m)))

  -- and where a search is made for a run that the table has a place for, it finds one
  pub some_later : n < lengths → at < get_or t n 0 → closing_run n (drop at p) at ≡ None → ⊥
  some_later h l e =
      let x = r.real n some h (omega arith) in
      (no_closing_run_iff p at n some starts).0 e x.place
      (order x.place at
      (λ o. both (ticks_in p x.place n x.run.run (at - x.place) (omega (arith, x.ends))) (starts_at x.place o))
      (λ o. omega arith) (λ o. omega arith))
      x.run
    where
      starts_at : (a : ℕ) → a < at → tick p (a + (at - a)) ≡ false
      starts_at a o = let q : a + (at - a) ≡ at = omega arith in rw q starts

-- some backticks are passed where one stands
pub past_some : (p : List ℕ) (at : ℕ) → at < length p → get_or p at 0 ≡ 96 → at < past backtick p at
past_some p at h e = omega (arith, tick_on p at h refl e, past_low backtick p (at + 1))
