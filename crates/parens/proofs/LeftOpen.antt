-- Where fewer closing parentheses follow than are open, the run leaves one open.
use Prim.Native.Nat.{ℕ, ◌+◌, ◌<◌}
use native.Mathlib.Omega.{arith}
use mathlib.Core.Path.{◌≡◌, refl, ◌∙◌}
use mathlib.Core.List.{List, [], ◌∷◌}
use mathlib.Core.Bool.{Bool, true, false, not, ◌&&◌}
use borrow.Author.Tests.{ne_eqb}
use lib.ListN.{get_or}
use Rattle.scan.proofs.Test.{by}
use Rattle.scan.specs.Byte.{punctuation, escapes}
use Rattle.scan.specs.Reading.{bare, scan}
use Rattle.scan.proofs.Scan.{scan_cons}
use Rattle.target.specs.Target.{control}
use Rattle.target.specs.Reading.{Running, depth_after, halts, raw_from}
use Rattle.target.proofs.Turns.{halted, passed}
use Rattle.parens.specs.Unclosed.{odd_after, closers_before, closers}
use Rattle.parens.proofs.Slashes.{bare_with, inked, inside_next}

abbrev pub state : ℕ → Bool → ℕ → Running
state at inside depth = record { at = at; inside = inside; depth = depth }

pub pass : (b : ℕ) (s : List ℕ) (at d : ℕ) (inside : Bool) {k : Bool} {e : ℕ} → halts d b inside ≡ false → (not inside && escapes (b ∷ s)) ≡ k → depth_after d b inside ≡ e
    → raw_from (b ∷ s) (state at inside d) ≡ raw_from s (state (at + 1) k e)
pass b s at d inside h k e = scan_cons _ _ b s _ (passed _ _ _ h refl refl) ∙ rw (k, e)

pub halt : (b : ℕ) (s : List ℕ) (at d : ℕ) (inside : Bool) → halts d b inside ≡ true → raw_from (b ∷ s) (state at inside d) ≡ record { end = at; depth = d }
halt b s at d inside h = scan_cons _ _ b s _ (halted _ _ _ h)

-- one byte: the run goes on, and still fewer closing ones follow than are open
fewer : (c d b : ℕ) (odd : Bool) → control b ≡ false → closers_before c b odd < d → (halts d b odd ≡ false) × (c < depth_after d b odd)
unfolding closers_before depth_after
fewer c d b odd n h =
    by (bare 41 b odd)
    (λ e. let q = rw (n, e) at h in (simp (n, e, ne_eqb d 0 (λ z. omega arith)), simp e (omega arith)))
    (λ e. by (bare 40 b odd)
    (λ o. let q = rw (n, e, o) at h in (simp (n, e), simp (e, o) (omega arith)))
    (λ o. let q = rw (n, e, o) at h in (simp (n, e), simp (e, o) (omega arith))))

pub same_halts : (d b : ℕ) (odd : Bool) → halts d b (odd && punctuation b) ≡ halts d b odd
same_halts d b odd = rw (bare_with 41 b odd (punctuation b) (inked 41 b refl))

pub same_depth : (d b : ℕ) (odd : Bool) → depth_after d b (odd && punctuation b) ≡ depth_after d b odd
unfolding depth_after
same_depth d b odd = rw (bare_with 41 b odd (punctuation b) (inked 41 b refl), bare_with 40 b odd (punctuation b) (inked 40 b refl))

pub left_open : (s : List ℕ) (at d : ℕ) (odd : Bool) → closers odd s < d → 0 < (raw_from s (state at (odd && punctuation (get_or s 0 0)) d)).depth
unfolding closers scan
left_open [] at d odd h = omega arith
left_open (b ∷ s) at d odd h =
    by (control b)
    (λ e. rw (halt b s at d (odd && punctuation b) (simp e)) (omega arith))
    (λ e.
    let (g, l) = fewer (closers (odd_after odd b) s) d b odd e h in
    rw (pass b s at d (odd && punctuation b) (same_halts d b odd ∙ g) (inside_next odd b s) (same_depth d b odd))
    (left_open s (at + 1) (depth_after d b odd) (odd_after odd b) l))
