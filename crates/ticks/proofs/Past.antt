-- The place past the backticks, and past other bytes.
use Prim.Native.Nat.{ℕ, zero, suc, ◌+◌, ◌-◌, ◌≤◌, ◌<◌}
use native.Mathlib.Omega.{arith}
use mathlib.Core.Path.{◌≡◌, refl, sym, ap}
use mathlib.Core.Bool.{Bool, true, not}
use mathlib.Core.List.{List, [], ◌∷◌}
use borrow.Author.Tests.{eq-eqb, ne_eqb, eqb-true, eqb-false}
use lib.ListN.{length, get_or, drop, length-drop}
use lib.Seq.{get_or-drop}
use Rattle.scan.specs.Reading.{run, past}
use Rattle.scan.proofs.Test.{by}
use Rattle.scan.proofs.Scan.{run_yes, run_no, run_fits, past_on, past_stop}
use Rattle.inline.specs.Pieces.{backtick}
use Rattle.ticks.specs.LastRuns.{other_byte}

-- ---- a byte, with what the code knows of it
module _ (s : List ℕ) (i : ℕ) {r : ℕ} (h : i < length s) where
  pub tick_on : past backtick s i ≡ r → get_or s i 0 ≡ 96 → past backtick s (i + 1) ≡ r
  tick_on inv e = past_on backtick s i inv h refl (eq-eqb (get_or s i 0) 96 e)

  pub tick_stop : past backtick s i ≡ r → (get_or s i 0 ≡ 96 → ⊥) → i ≡ r
  tick_stop inv e = past_stop backtick s i inv h refl (ne_eqb (get_or s i 0) 96 e)

  pub other_on : past other_byte s i ≡ r → (get_or s i 0 ≡ 96 → ⊥) → past other_byte s (i + 1) ≡ r
  other_on inv e = past_on other_byte s i inv h refl (ap not (ne_eqb (get_or s i 0) 96 e))

  pub other_stop : past other_byte s i ≡ r → get_or s i 0 ≡ 96 → i ≡ r
  other_stop inv e = past_stop other_byte s i inv h refl (ap not (eq-eqb (get_or s i 0) 96 e))

-- ---- where it is, and what stands before it
module _ (test : ℕ → Bool) where
  run_in : (l : List ℕ) (k : ℕ) → k < run test l → test (get_or l k 0) ≡ true
  unfolding run
  run_in [] k h = let no : ⊥ = omega arith in absurd no
  run_in (b ∷ l) zero h = by (test b) (λ e. e) (λ e. let no : ⊥ = omega (arith, run_no test b l e) in absurd no)
  run_in (b ∷ l) (suc k) h =
      by (test b) (λ e. run_in l k (omega (arith, run_yes test b l e))) (λ e. let no : ⊥ = omega (arith, run_no test b l e) in absurd no)

  module _ (s : List ℕ) (i : ℕ) where
    pub past_low : i ≤ past test s i
    unfolding past
    past_low = omega arith

    past_high : i ≤ length s → past test s i ≤ length s
    unfolding past
    past_high h = omega (arith, run_fits test (drop i s), length-drop i s)

    pub past_in : (k : ℕ) → i ≤ k → k < past test s i → test (get_or s k 0) ≡ true
    unfolding past
    past_in k l h =
        let q : i + (k - i) ≡ k = omega arith in
        rw (get_or-drop, q) at (run_in (drop i s) (k - i) (omega arith))

-- the next run, from a to e, ends within the text, and further on where a byte is left
module _ (s : List ℕ) (i : ℕ) {a e : ℕ} (h : i < length s) (p : a ≡ past other_byte s i) (q : e ≡ past backtick s a) where
  pub within : e ≤ length s
  within = let l : a ≤ length s = omega (arith, past_high other_byte s i (omega arith)) in omega (arith, past_high backtick s a l)

  pub further : i < e
  further =
      by (backtick (get_or s i 0))
      (λ t.
      let b = eqb-true (get_or s i 0) 96 t in
      let z : i ≡ a = other_stop s i h (sym p) b in
      let f : past backtick s i ≡ e = rw z (sym q) in
      omega (arith, tick_on s i h f b, past_low backtick s (i + 1)))
      (λ t. omega (arith, other_on s i h (sym p) (eqb-false (get_or s i 0) 96 t), past_low other_byte s (i + 1), past_low backtick s a))
