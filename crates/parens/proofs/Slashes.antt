-- Backslashes before a place, counted back from it; and what a parenthesis is, escaped or not.
use Prim.Native.Nat.{ℕ, zero, suc, ◌-◌, ◌≤◌, ◌<◌}
use native.Mathlib.Omega.{arith}
use mathlib.Core.Path.{◌≡◌, refl, sym, ◌∙◌}
use mathlib.Core.List.{List, ◌∷◌}
use mathlib.Core.Bool.{Bool, true, false, cond, not, ◌&&◌}
use borrow.Author.Tests.{eq-eqb, ne_eqb, eqb-true}
use lib.ListN.{get_or}
use lib.Dec.{eqb}
use Rattle.scan.proofs.Test.{by, and_false}
use Rattle.scan.specs.Byte.{punctuation, escapes}
use Rattle.scan.specs.Reading.{bare}
use Rattle.parens.specs.Unclosed.{odd_after, slashed}

-- ---- counting back
abbrev pub flip : Bool → Bool → Bool
flip odd x = cond odd (not x) x

flip_not : (odd x : Bool) → flip (not odd) x ≡ flip odd (not x)
flip_not true true = refl
flip_not true false = refl
flip_not false true = refl
flip_not false false = refl

flip_false : (odd : Bool) → flip odd false ≡ odd
flip_false true = refl
flip_false false = refl

module _ (s : List ℕ) (k : ℕ) (odd : Bool) {r : Bool} (inv : flip odd (slashed s (suc k)) ≡ r) where
  pub back_slash : get_or s k 0 ≡ 92 → flip (not odd) (slashed s k) ≡ r
  unfolding slashed
  back_slash e = flip_not odd (slashed s k) ∙ (simp (eq-eqb (get_or s k 0) 92 e) at inv)

  pub back_other : (get_or s k 0 ≡ 92 → ⊥) → odd ≡ r
  unfolding slashed
  back_other e = sym (flip_false odd) ∙ (simp (ne_eqb (get_or s k 0) 92 e) at inv)

-- with the loop's place, which the code steps back from before it reads
pub step_slash : (s : List ℕ) (k : ℕ) (odd : Bool) {r : Bool} → flip odd (slashed s k) ≡ r → 0 < k → get_or s (k - 1) 0 ≡ 92 → flip (not odd) (slashed s (k - 1)) ≡ r
step_slash s zero odd inv h e = let no : ⊥ = omega arith in absurd no
step_slash s (suc k) odd inv h e = let q : suc k - 1 ≡ k = omega arith in rw q (back_slash s k odd inv (rw q at e))

pub step_other : (s : List ℕ) (k : ℕ) (odd : Bool) {r : Bool} → flip odd (slashed s k) ≡ r → 0 < k → (get_or s (k - 1) 0 ≡ 92 → ⊥) → odd ≡ r
step_other s zero odd inv h e = let no : ⊥ = omega arith in absurd no
step_other s (suc k) odd inv h e = let q : suc k - 1 ≡ k = omega arith in back_other s k odd inv (rw q at e)

pub step_start : (s : List ℕ) (k : ℕ) (odd : Bool) {r : Bool} → flip odd (slashed s k) ≡ r → k ≤ 0 → odd ≡ r
unfolding slashed
step_start s zero odd inv h = sym (flip_false odd) ∙ inv
step_start s (suc k) odd inv h = let no : ⊥ = omega arith in absurd no

-- ---- a byte m is escaped or not, whatever else q holds of
pub bare_with : (m b : ℕ) (odd q : Bool) → (b ≡ m → q ≡ true) → bare m b (odd && q) ≡ bare m b odd
bare_with m b odd q f = by (eqb b m) (λ e. rw (f (eqb-true b m e)) (kept odd)) (λ e. simp (e, and_false))
  where
    kept : (o : Bool) → (not (o && true) && eqb b m) ≡ (not o && eqb b m)
    kept true = refl
    kept false = refl

pub inked : (m b : ℕ) → punctuation m ≡ true → b ≡ m → punctuation b ≡ true
inked m b h e = rw e h

-- the second byte of an escape is ASCII punctuation after backslashes of odd number
pub inside_next : (odd : Bool) (b : ℕ) (s : List ℕ) → (not (odd && punctuation b) && escapes (b ∷ s)) ≡ (odd_after odd b && punctuation (get_or s 0 0))
inside_next odd b s = by (eqb b 92) (λ e. rw (eqb-true b 92 e) (slash odd (punctuation (get_or s 0 0)))) (λ e. simp (e, and_false))
  where
    slash : (o x : Bool) → (not (o && true) && x) ≡ (not o && x)
    slash true x = refl
    slash false x = refl
