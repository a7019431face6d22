-- A search for a maximal run of n backticks goes over other bytes and over runs of another length; a run of n answers it.
use Rattle.std.specs.Prelude.{None, Option, Some}
use Prim.Native.Nat.{ℕ, suc, ◌+◌, ◌-◌, ◌≤◌, ◌<◌}
use native.Mathlib.Nat.{add-zero, zero-add}
use native.Mathlib.Omega.{arith}
use mathlib.Core.Path.{◌≡◌, sym, ◌∙◌}
use mathlib.Core.List.{List, [], ◌∷◌}
use mathlib.Core.Bool.{Bool, true, false}
use borrow.Author.Tests.{eq-eqb, ne_eqb, not-true}
use lib.ListN.{length, drop}
use lib.Seq.{drop-drop}
use Rattle.scan.specs.Reading.{scan, run, past}
use Rattle.scan.specs.Every.{Halts, empty, other}
use Rattle.scan.proofs.Test.{by}
use Rattle.scan.proofs.Scan.{run_yes, run_no, scan_cons, ends}
use Rattle.inline.specs.Pieces.{backtick}
use Rattle.inline.specs.ReadingPieces.{Counted, count_after, run_step, run_done, run_from, closing_run}
use Rattle.inline.proofs.Turns.{closes, passed, ends_full, ends_other}
use Rattle.ticks.specs.LastRuns.{other_byte}

module _ (test : ℕ → Bool) where
  -- a reading that passes each passing byte in one step passes the run of them
  module _ {A : Type 0} (f : List ℕ → ℕ → A) (step : (b : ℕ) (l : List ℕ) (k : ℕ) → test b ≡ true → f (b ∷ l) k ≡ f l (k + 1)) where
    over_front : (l : List ℕ) (k : ℕ) → f (drop (run test l) l) (k + run test l) ≡ f l k
    unfolding run
    over_front [] k = rw add-zero
    over_front (b ∷ l) k =
        by (test b)
        (λ e.
        let p : k + suc (run test l) ≡ k + 1 + run test l = omega arith in
        rw (run_yes test b l e, p) (over_front l (k + 1) ∙ sym (step b l k e)))
        (λ e. rw (run_no test b l e, add-zero))

  after_front : (l : List ℕ) → Halts test (drop (run test l) l)
  unfolding run
  after_front [] = empty
  after_front (b ∷ l) = by (test b) (λ e. rw (run_yes test b l e) (after_front l)) (λ e. rw (run_no test b l e) (other e))

abbrev counted : ℕ → ℕ → Counted
counted at c = record { at = at; count = c }

module _ (n : ℕ) where
  over_tick : (b : ℕ) (l : List ℕ) (at c : ℕ) → backtick b ≡ true → run_from n (b ∷ l) (counted at c) ≡ run_from n l (counted (at + 1) (c + 1))
  unfolding count_after
  over_tick b l at c e = scan_cons (run_step n) (run_done n) b l (counted at c) (passed n (counted at c) b (b ∷ l) (simp e) (simp e))

  over_other : (b : ℕ) (l : List ℕ) (at c : ℕ) → backtick b ≡ false → (c ≡ n → ⊥) → run_from n (b ∷ l) (counted at c) ≡ run_from n l (counted (at + 1) 0)
  unfolding count_after
  over_other b l at c e h = scan_cons (run_step n) (run_done n) b l (counted at c) (passed n (counted at c) b (b ∷ l) (simp (e, ne_eqb c n h)) (simp e))

  -- after a run
  full : (l : List ℕ) (at c : ℕ) → Halts backtick l → c ≡ n → run_from n l (counted at c) ≡ Some at
  unfolding scan
  full _ at c empty h = ends_full n (counted at c) h
  full _ at c (other {b} {l} e) h = scan_cons (run_step n) (run_done n) b l (counted at c) (closes n (counted at c) b (b ∷ l) (simp (e, eq-eqb c n h)))

  module _ (some : 0 < n) where
    not_none : 0 ≡ n → ⊥
    not_none e = omega arith

    unlike : (l : List ℕ) (at c : ℕ) → Halts backtick l → (c ≡ n → ⊥) → run_from n l (counted at c) ≡ run_from n l (counted at 0)
    unfolding scan
    unlike _ at c empty h = ends_other n (counted at c) h ∙ sym (ends_other n (counted at 0) not_none)
    unlike _ at c (other {b} {l} e) h = over_other b l at c e h ∙ sym (over_other b l at 0 e not_none)

    module _ (s : List ℕ) where
      over_others : (i : ℕ) → closing_run n (drop (past other_byte s i) s) (past other_byte s i) ≡ closing_run n (drop i s) i
      unfolding past closing_run
      over_others i =
          rw (← drop-drop (run other_byte (drop i s)) i s)
          (over_front other_byte (closing_run n) (λ b l k e. over_other b l k 0 (not-true (backtick b) e) not_none) (drop i s) i)

      over_ticks : (a : ℕ) → run_from n (drop (past backtick s a) s) (counted (past backtick s a) (run backtick (drop a s))) ≡ closing_run n (drop a s) a
      unfolding past closing_run
      over_ticks a =
          rw (← drop-drop (run backtick (drop a s)) a s)
          (rw (zero-add, add-zero) at (over_front backtick (λ (l : List ℕ) (k : ℕ). run_from n l (counted (a + k) k))
          (λ b l k e. let p : a + (k + 1) ≡ a + k + 1 = omega arith in rw p (over_tick b l (a + k) k e)) (drop a s) 0))

      -- ---- one turn, with the loop's invariant in hand
      module _ (i : ℕ) {r : Option ℕ} (inv : closing_run n (drop i s) i ≡ r) where
        module _ {a e : ℕ} (p : a ≡ past other_byte s i) (q : e ≡ past backtick s a) where
          size : e - a ≡ run backtick (drop a s)
          unfolding past
          size = omega arith

          from_run : run_from n (drop e s) (counted e (e - a)) ≡ r
          from_run = rw (size, q) (over_ticks a ∙ rw p (over_others i) ∙ inv)

          halts : Halts backtick (drop e s)
          unfolding past
          halts = rw (q, ← drop-drop (run backtick (drop a s)) a s) (after_front backtick (drop a s))

          pub run_closes : e - a ≡ n → Some e ≡ r
          run_closes h = sym (full (drop e s) e (e - a) halts h) ∙ from_run

          pub run_passed : (e - a ≡ n → ⊥) → closing_run n (drop e s) e ≡ r
          unfolding closing_run
          run_passed h = sym (unlike (drop e s) e (e - a) halts h) ∙ from_run

        pub none_left : length s ≤ i → None ≡ r
        unfolding closing_run
        none_left h = ends (run_step n) (run_done n) s i inv h (ends_other n (counted i 0) not_none)
