-- Runs of backticks, byte by byte.
use Prim.Native.Nat.{ℕ, zero, suc, ◌+◌, ◌<◌}
use native.Mathlib.Nat.{add-zero}
use native.Mathlib.Omega.{arith}
use mathlib.Core.Path.{◌≡◌, refl, sym, ap, ◌∙◌}
use mathlib.Core.List.{List, [], ◌∷◌, ◌++◌}
use mathlib.Core.Bool.{Bool, true, false, true≢false}
use lib.ListN.{length, get_or, drop}
use lib.Seq.{get_or-drop, get_or-append-add}
use Rattle.scan.specs.Reading.{run}
use Rattle.scan.proofs.Scan.{run_yes, run_no}
use Rattle.scan.specs.Every.{Every, none, more, Halts, empty, other, FrontOf}
use Rattle.scan.proofs.Every.{run_iff}
use Rattle.inline.specs.Pieces.{backtick, Backticks}

module _ (test : ℕ → Bool) (z : test 0 ≡ false) where
  pub every_at : {l : List ℕ} → Every test l → (rest : List ℕ) (k : ℕ) → k < length l → test (get_or (l ++ rest) k 0) ≡ true
  every_at none rest k h = let no : ⊥ = omega arith in absurd no
  every_at (more e p) rest zero h = e
  every_at (more e p) rest (suc k) h = every_at p rest k (omega arith)

  halts_at : {rest : List ℕ} → Halts test rest → test (get_or rest 0 0) ≡ false
  halts_at empty = z
  halts_at (other e) = e

  pub front_passes : {s : List ℕ} {n : ℕ} → FrontOf test s n → (k : ℕ) → k < n → test (get_or s k 0) ≡ true
  front_passes f k h = rw f.is_front.whole (every_at f.is_front.passes f.rest k (omega (arith, f.size)))

  pub front_halts : {s : List ℕ} {n : ℕ} → FrontOf test s n → test (get_or s n 0) ≡ false
  front_halts {s} {n} f =
      let e : n ≡ length f.front + 0 = omega (arith, f.size) in
      rw (e, f.is_front.whole, get_or-append-add f.front f.rest 0 0) (halts_at f.is_front.halts)

  run_is : (s : List ℕ) (n : ℕ) → ((k : ℕ) → k < n → test (get_or s k 0) ≡ true) → test (get_or s n 0) ≡ false → run test s ≡ n
  unfolding run
  run_is [] zero f e = refl
  run_is [] (suc n) f e = absurd (true≢false (sym (f 0 (omega arith)) ∙ z))
  run_is (b ∷ s) zero f e = run_no test b s e
  run_is (b ∷ s) (suc n) f e = run_yes test b s (f 0 (omega arith)) ∙ ap suc (run_is s n (λ k h. f (suc k) (omega arith)) e)

  pub front_of : (s : List ℕ) (n : ℕ) → ((k : ℕ) → k < n → test (get_or s k 0) ≡ true) → test (get_or s n 0) ≡ false → FrontOf test s n
  front_of s n f e = (run_iff test s n).0 (run_is s n f e)

-- the byte at a place is a backtick
abbrev pub tick : List ℕ → ℕ → Bool
tick p i = backtick (get_or p i 0)

module _ (p : List ℕ) (a n : ℕ) where
  pub ticks_in : Backticks p a n → (k : ℕ) → k < n → tick p (a + k) ≡ true
  ticks_in r k h = rw get_or-drop at (front_passes backtick refl r.run k h)

  pub ticks_end : Backticks p a n → tick p (a + n) ≡ false
  ticks_end r = rw get_or-drop at (front_halts backtick refl r.run)

  pub as_backticks : 0 < n → ((k : ℕ) → k < n → tick p (a + k) ≡ true) → tick p (a + n) ≡ false → Backticks p a n
  as_backticks h f e =
      record { nonempty = h; run = front_of backtick refl (drop a p) n (λ k l. rw get_or-drop (f k l)) (rw get_or-drop e) }

  -- a run of backticks starts with one
  pub ticks_first : Backticks p a n → tick p a ≡ true
  ticks_first r = rw add-zero at (ticks_in r 0 r.nonempty)
