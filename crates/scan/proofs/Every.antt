-- `run` is the length of the front of a list that passes a test.
use Prim.Native.Nat.{ℕ, suc}
use mathlib.Core.Path.{◌≡◌, refl, sym, ap, ◌∙◌}
use mathlib.Core.List.{List, [], ◌∷◌, ◌++◌}
use mathlib.Core.Bool.{Bool}
use mathlib.Core.Logic.{◌↔◌}
use lib.ListN.{length}
use Rattle.scan.specs.Every.{Every, none, more, Halts, empty, other, FrontOf}
use Rattle.scan.specs.Reading.{run}
use Rattle.scan.proofs.Test.{by}
use Rattle.scan.proofs.Scan.{run_yes, run_no}

module _ (test : ℕ → Bool) where
  run_front : {l rest : List ℕ} → Every test l → Halts test rest → run test (l ++ rest) ≡ length l
  unfolding run
  run_front none empty = refl
  run_front none (other {b} {l} e) = run_no test b l e
  run_front {rest = rest} (more {b} {l} e p) h = run_yes test b (l ++ rest) e ∙ ap suc (run_front p h)

  found : (s : List ℕ) → FrontOf test s (run test s)
  unfolding run
  found [] = record { front = []; rest = []; is_front = record { whole = refl; passes = none; halts = empty }; size = refl }
  found (b ∷ s) =
      by (test b)
      (λ e.
      let f = found s in
      record {
        front = b ∷ f.front;
        rest = f.rest;
        is_front = record { whole = ap (λ (x : List ℕ). b ∷ x) f.is_front.whole; passes = more e f.is_front.passes; halts = f.is_front.halts };
        size = ap suc f.size ∙ sym (run_yes test b s e);
      })
      (λ e. record { front = []; rest = b ∷ s; is_front = record { whole = refl; passes = none; halts = other e }; size = sym (run_no test b s e) })

  -- `run` is the length of that front, and there is one
  pub run_iff : (s : List ℕ) (n : ℕ) → (run test s ≡ n) ↔ FrontOf test s n
  run_iff s n = (
    (λ e. rw e at (found s)),
    (λ f. rw f.is_front.whole (run_front f.is_front.passes f.is_front.halts) ∙ f.size),
  )
