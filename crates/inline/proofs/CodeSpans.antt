-- `closing_run` finds the end of the first later maximal run of exactly n backticks. Some each place, before which c backticks stand, no such run
-- has ended, and none has started before those c.
use Rattle.std.specs.Prelude.{None, Option, Some}
use Prim.Native.Nat.{ℕ, zero, suc, ◌+◌, ◌-◌, ◌≤◌, ◌<◌}
use native.Mathlib.Omega.{arith}
use mathlib.Core.Path.{◌≡◌, refl, sym, ap, ◌∙◌, subst}
use mathlib.Core.Logic.{◌↔◌}
use mathlib.Core.List.{List, [], ◌∷◌}
use mathlib.Core.Bool.{Bool, true, false, true≢false}
use borrow.Author.Tests.{ltb-true, ltb-false, eqb-true, eqb-false}
use lib.ListN.{length, get_or, drop, length-drop, get_or-eq_default}
use lib.Dec.{ltb, eqb}
use Rattle.scan.proofs.Test.{by}
use Rattle.scan.proofs.Scan.{Outcome, scan_holds, at_cons}
use Rattle.inline.specs.Pieces.{backtick, MaximalBackticks, FirstRun}
use Rattle.inline.specs.ReadingPieces.{Counted, count_after, run_step, run_done, closing_run}
use Rattle.inline.proofs.Turns.{closes, passed, ends_full, ends_other}
use Rattle.inline.proofs.Ticks.{tick, ticks_in, ticks_end, as_backticks, ticks_first}

-- the first maximal run of exactly n from place `from` on ends at place e
pub record RunEnds (p : List ℕ) (from n e : ℕ) : Type 0 where
  pub place : ℕ
  pub first : FirstRun p from n place
  pub ends : e ≡ place + n

abbrev pub NoRun : List ℕ → ℕ → ℕ → Type 0
NoRun p from n = (b : ℕ) → from ≤ b → MaximalBackticks p b n → ⊥

-- of three ways that two numbers can stand
pub order : {P : Type 0} (a b : ℕ) → (a < b → P) → (a ≡ b → P) → (b < a → P) → P
order a b f g h = by (ltb a b) (λ e. f (ltb-true a b e)) (λ e. by (ltb b a) (λ k. h (ltb-true b a k)) (λ k. g (omega (arith, ltb-false a b e, ltb-false b a k))))

both : {A : Type 0} {b : Bool} → b ≡ true → b ≡ false → A
both e k = absurd (true≢false (sym e ∙ k))

past_end : (p : List ℕ) (i : ℕ) → length p ≤ i → tick p i ≡ false
past_end p i h = rw (get_or-eq_default p 0 h)

-- c backticks stand just before place i, and no other before them; no run of exactly n starts before these
record Stands (p : List ℕ) (from n i c : ℕ) : Type 0 where
  low : from + c ≤ i
  ticks : (k : ℕ) → i ≤ k + c → k < i → tick p k ≡ true
  apart : from < i → from + c < i
  edge : (k : ℕ) → from ≤ k → suc k + c ≡ i → tick p k ≡ false
  none_before : (b : ℕ) → from ≤ b → b + c < i → MaximalBackticks p b n → ⊥

module _ (p : List ℕ) (from n : ℕ) (some : 0 < n) (starts : tick p from ≡ false) where
  begins : Stands p from n from 0
  begins =
      record {
        low = omega arith;
        ticks = λ k h l. let no : ⊥ = omega arith in absurd no;
        apart = λ h. let no : ⊥ = omega arith in absurd no;
        edge = λ k h l. let no : ⊥ = omega arith in absurd no;
        none_before = λ b h l. let no : ⊥ = omega arith in absurd no;
      }

  module _ (i c : ℕ) (s : Stands p from n i c) where
    -- over a backtick
    more_ticks : tick p i ≡ true → Stands p from n (i + 1) (c + 1)
    more_ticks t =
        record {
          low = omega (arith, s.low);
          ticks = λ k h l. order k i (λ m. s.ticks k (omega arith) m) (λ m. rw m t) (λ m. let no : ⊥ = omega arith in absurd no);
          apart = λ h. order from i (λ m. omega (arith, s.apart m)) (λ m. both (rw (← m) at t) starts) (λ m. let no : ⊥ = omega arith in absurd no);
          edge = λ k h l. s.edge k h (omega arith);
          none_before = λ b h l. s.none_before b h (omega arith);
        }

    module _ (t : tick p i ≡ false) where
      -- the c backticks are a run of exactly n
      run_here : c ≡ n → RunEnds p from n i
      run_here e = ends_at (i - n) (omega (arith, s.low))
        where
          ends_at : (b : ℕ) → b + n ≡ i → RunEnds p from n i
          ends_at b q =
              record {
                place = b;
                first =
                    record {
                      later = omega (arith, s.low);
                      run =
                          record {
                            run = as_backticks p b n some (λ k h. s.ticks (b + k) (omega arith) (omega arith)) (rw q t);
                            starts = λ k z. s.edge k (omega (arith, s.apart (omega (arith, s.low)))) (omega arith);
                          };
                      first = λ b' h l. s.none_before b' h (omega arith);
                    };
                ends = sym q;
              }

      -- they are not
      no_run : (c ≡ n → ⊥) → (b : ℕ) → from ≤ b → b ≤ i → MaximalBackticks p b n → ⊥
      no_run ne b h l m =
          order (b + c) i (λ k. s.none_before b h k m)
          (λ k. order c n
          (λ o. both (ticks_in p b n m.run c o) (rw k t))
          ne
          (λ o. both (s.ticks (b + n) (omega arith) (omega arith)) (ticks_end p b n m.run)))
          (λ k. inner b l k m.starts)
        where
          inner : (b : ℕ) → b ≤ i → i < b + c → ((k : ℕ) → b ≡ suc k → tick p k ≡ false) → ⊥
          inner zero l k f = omega (arith, s.low)
          inner (suc b) l k f = both (s.ticks b (omega arith) (omega arith)) (f b refl)

      -- over another byte
      over_byte : (c ≡ n → ⊥) → Stands p from n (i + 1) 0
      over_byte ne =
          record {
            low = omega (arith, s.low);
            ticks = λ k h l. let no : ⊥ = omega arith in absurd no;
            apart = λ h. omega arith;
            edge = λ k h l. let e : k ≡ i = omega arith in rw e t;
            none_before = λ b h l. no_run ne b h (omega arith);
          }

  abbrev Told : Option ℕ → Type 0
  Told (Some e) = RunEnds p from n e
  Told None = NoRun p from n

  -- the scan stands at the place, with what is left of p
  abbrev Reached : Counted → List ℕ → Type 0
  Reached t l = (l ≡ drop t.at p) × Stands p from n t.at t.count

  -- the byte and what is left after it
  opened : (b : ℕ) (l : List ℕ) (i : ℕ) → b ∷ l ≡ drop i p → (b ≡ get_or p i 0) × (l ≡ drop (i + 1) p)
  opened b l i e =
      let h : i < length p = omega (arith, ap length e, length-drop i p) in
      let q : b ∷ l ≡ get_or p i 0 ∷ drop (i + 1) p = e ∙ at_cons p i h in
      ((cc), (cc))

  counted : (b c : ℕ) → backtick b ≡ true → c + 1 ≡ count_after c b
  unfolding count_after
  counted b c e = simp e

  uncounted : (b c : ℕ) → backtick b ≡ false → 0 ≡ count_after c b
  unfolding count_after
  uncounted b c e = simp e

  turn : (t : Counted) (b : ℕ) (l : List ℕ) → Reached t (b ∷ l) → Outcome Reached Told l (run_step n t b (b ∷ l))
  turn t b l (e, s) =
      let (eb, el) = opened b l t.at e in
      by (backtick b)
      (λ k. rw (passed n t b (b ∷ l) (simp k) (counted b t.count k)) (el, more_ticks t.at t.count s (rw eb at k)))
      (λ k. by (eqb t.count n)
      (λ f. rw (closes n t b (b ∷ l) (simp (k, f))) (run_here t.at t.count s (rw eb at k) (eqb-true t.count n f)))
      (λ f. rw (passed n t b (b ∷ l) (simp (k, f)) (uncounted b t.count k)) (el, over_byte t.at t.count s (rw eb at k) (eqb-false t.count n f))))

  last : (t : Counted) → Reached t [] → Told (run_done n t)
  last t (e, s) =
      let h : length p ≤ t.at = omega (arith, ap length e, length-drop t.at p) in
      let k : tick p t.at ≡ false = past_end p t.at h in
      by (eqb t.count n) (λ f. rw (ends_full n t (eqb-true t.count n f)) (run_here t.at t.count s k (eqb-true t.count n f)))
      (λ f. rw (ends_other n t (eqb-false t.count n f))
      (λ b l m. by (ltb t.at b)
      (λ o. both (ticks_first p b n m.run) (past_end p b (omega (arith, ltb-true t.at b o))))
      (λ o. no_run t.at t.count s k (eqb-false t.count n f) b l (ltb-false t.at b o) m)))

  told : Told (closing_run n (drop from p) from)
  unfolding closing_run
  told = scan_holds (run_step n) (run_done n) Reached Told turn last (drop from p) (record { at = from; count = 0 }) (refl, begins)

  one_end : (e e' : ℕ) → RunEnds p from n e → RunEnds p from n e' → e ≡ e'
  one_end e e' r r' =
      order r.place r'.place (λ h. absurd (r'.first.first r.place r.first.later h r.first.run))
      (λ h. omega (arith, r.ends, r'.ends))
      (λ h. absurd (r.first.first r'.place r'.first.later h r'.first.run))

  pub closing_run_iff : (e : ℕ) → (closing_run n (drop from p) from ≡ Some e) ↔ RunEnds p from n e
  closing_run_iff e = (λ q. subst Told q told, λ r. back r (closing_run n (drop from p) from) told)
    where
      back : RunEnds p from n e → (f : Option ℕ) → Told f → f ≡ Some e
      back r (Some d) r' = ap Some (one_end d e r' r)
      back r None no_runs = absurd (no_runs r.place r.first.later r.first.run)

  pub no_closing_run_iff : (closing_run n (drop from p) from ≡ None) ↔ NoRun p from n
  no_closing_run_iff = (λ q. subst Told q told, λ r. back r (closing_run n (drop from p) from) told)
    where
      back : NoRun p from n → (f : Option ℕ) → Told f → f ≡ None
      back r (Some d) r' = absurd (r r'.place r'.first.later r'.first.run)
      back r None no_runs = refl
