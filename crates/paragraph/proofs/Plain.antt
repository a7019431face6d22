-- A run of plain bytes: each is a piece in no pair, so the loop keeps what it keeps.
use Rattle.std.specs.Prelude.{None}
use Prim.Native.Nat.{ℕ, zero, suc, ◌+◌, ◌≤◌, ◌<◌}
use native.Mathlib.Nat.{add-zero}
use native.Mathlib.Omega.{arith}
use mathlib.Core.Path.{◌≡◌, refl}
use mathlib.Core.Bool.{true}
use mathlib.Core.List.{List}
use lib.ListN.{length, get_or, drop, length-drop}
use Rattle.scan.proofs.Test.{by}
use Rattle.scan.proofs.Scan.{at_cons, run_yes, run_no}
use Rattle.scan.specs.Reading.{run, past}
use Rattle.marking.specs.Marking.{plain}
use Rattle.row.specs.declared.Definition.{Definition}
use Rattle.inline.specs.ReadingPieces.{quiet, piece}
use Rattle.inline.proofs.PieceBounds.{run_fits}
use Rattle.step.specs.declared.Walk.{Walk}
use Rattle.paragraph.specs.declared.Bracket.{Bracket}
use Rattle.inline.proofs.Pieces.{quiet_other, at_quiet}
use Rattle.step.specs.Promise.{opening_end}
use Rattle.step.proofs.Openings.{none_other}
use Rattle.step.proofs.Step.{step_quiet}
use Rattle.paragraph.proofs.Loop.{On}
use Rattle.paragraph.proofs.Turns.{piece_on}

-- a run that is not empty: its first byte, and the run after it
module _ (p : List ℕ) (a n : ℕ) (e : run quiet (drop a p) ≡ suc n) where
  run_inside : a < length p
  run_inside = omega (arith, e, run_fits quiet (drop a p), length-drop a p)

  run_first : quiet (get_or p a 0) ≡ true
  run_first =
      by (quiet (get_or p a 0)) (λ q. q)
      (λ q. let z = run_no quiet (get_or p a 0) (drop (a + 1) p) q in let f = rw (at_cons p a run_inside) at e in absurd (omega arith))

  run_rest : run quiet (drop (a + 1) p) ≡ n
  run_rest =
      let z = run_yes quiet (get_or p a 0) (drop (a + 1) p) run_first in let f = rw (at_cons p a run_inside) at e in omega arith

-- nothing opens with a plain byte
quiet_end : (p : List ℕ) (a : ℕ) → quiet (get_or p a 0) ≡ true → opening_end p a ≡ None
quiet_end p a q = none_other p a (quiet_other p a q 91 refl) (quiet_other p a q 33 refl)

pub plain_after : (p : List ℕ) (a : ℕ) {r : ℕ} → r ≡ past quiet p a → a ≤ r
unfolding past
plain_after p a e = omega arith

abbrev moved : Walk → ℕ → Walk
moved w at = record { at = at; last = w.last; row = w.row; depth = w.depth; line = w.line }

module _ (s : List ℕ) (offset : ℕ) (p : List ℕ) (labels : List (List ℕ)) (ds : List Definition) (k : ℕ) (t₀ : List ℕ) {stack : List Bracket} {t : List ℕ} where
  run_on : (n : ℕ) (w : Walk) → On s offset p labels ds k t₀ stack w t → run quiet (drop w.at p) ≡ n
      → On s offset p labels ds k t₀ stack (moved w (w.at + n)) t
  run_on zero w o e = rw (add-zero w.at) o
  run_on (suc n) w o e =
      let q = run_first p w.at n e in
      let y = step_quiet s offset p labels ds w t (piece plain w.at (w.at + 1)) (at_quiet p w.at q) refl w.depth w.line in
      let o' = piece_on s offset p labels ds k t₀ o (run_inside p w.at n e) (quiet_end p w.at q) (λ z. absurd (quiet_other p w.at q 93 refl z)) y refl o.line_before in
      let m : w.at + 1 + n ≡ w.at + suc n = omega arith in
      rw m at (run_on n (moved w (w.at + 1)) o' (run_rest p w.at n e))

  pub plain_on : {w : Walk} → On s offset p labels ds k t₀ stack w t → {r : ℕ} → r ≡ past quiet p w.at → On s offset p labels ds k t₀ stack (moved w r) t
  unfolding past
  plain_on {w} o e = rw e (run_on (run quiet (drop w.at p)) w o refl)
