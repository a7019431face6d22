-- Escapes undone, one byte after the other.
use Prim.Native.Nat.{ℕ, ◌+◌, ◌≤◌, ◌<◌}
use native.Mathlib.Nat.{add-zero}
use native.Mathlib.Omega.{arith}
use mathlib.Core.Path.{◌≡◌, refl, sym, subst}
use mathlib.Core.List.{List, [], ◌∷◌, ◌++◌, flat_map}
use mathlib.Core.Bool.{Bool, true, false, true≢false}
use lib.ListN.{length, get_or, drop, drop_of_length-le}
use lib.Seq.{get_or-drop}
use lib.Dec.{eqb}
use borrow.Author.Tests.{ne_eqb}
use Rattle.scan.proofs.Test.{by, and_right}
use Rattle.scan.specs.Byte.{punctuation, escapes}
use Rattle.scan.proofs.Scan.{peek_inside, at_cons}
use Rattle.escaping.specs.Reading.{undone, backslash}

pub undone_escape : (b p : ℕ) (s : List ℕ) → escapes (b ∷ p ∷ s) ≡ true → undone (b ∷ p ∷ s) ≡ p ∷ undone s
unfolding undone
undone_escape b p s e = subst (λ (t : Bool). elim t [ true ↦ p ∷ undone s | false ↦ b ∷ undone (p ∷ s) ] ≡ p ∷ undone s) (sym e) refl

pub undone_byte : (b : ℕ) (s : List ℕ) → escapes (b ∷ s) ≡ false → undone (b ∷ s) ≡ b ∷ undone s
unfolding undone
undone_byte b [] e = refl
undone_byte b (p ∷ s) e = subst (λ (t : Bool). elim t [ true ↦ p ∷ undone s | false ↦ b ∷ undone (p ∷ s) ] ≡ b ∷ undone (p ∷ s)) (sym e) refl

-- no escape stands where there is no backslash
pub no_escape : (s : List ℕ) (i : ℕ) → (get_or s i 0 ≡ 92 → ⊥) → escapes (drop i s) ≡ false
no_escape s i n = rw (get_or-drop i s 0 0, add-zero i, ne_eqb (get_or s i 0) 92 n) refl

-- both bytes of an escape stand within the list
escape_inside : (s : List ℕ) (i : ℕ) → escapes (drop i s) ≡ true → i + 1 < length s
escape_inside s i e =
    let p : punctuation (get_or s (i + 1) 0) ≡ true = rw (get_or-drop i s 1 0) at (and_right (eqb (get_or (drop i s) 0 0) 92) _ e) in
    peek_inside s (i + 1) (λ z. true≢false (sym (rw z at p)))

module _ (s : List ℕ) (i : ℕ) (h : i < length s) where
  pub byte_inside : i + backslash (drop i s) < length s
  byte_inside = by (escapes (drop i s)) (λ e. rw e (escape_inside s i e)) (λ e. rw e (omega arith))

  -- the next byte that is given
  pub undone_at : undone (drop i s) ≡ get_or s (i + backslash (drop i s)) 0 ∷ undone (drop (i + backslash (drop i s) + 1) s)
  undone_at =
      by (escapes (drop i s))
      (λ e. let k = escape_inside s i e in rw (e, at_cons s i h, at_cons s (i + 1) k) (undone_escape _ _ _ (rw (at_cons s i h, at_cons s (i + 1) k) at e)))
      (λ e. rw (e, add-zero, at_cons s i h) (undone_byte _ _ (rw (at_cons s i h) at e)))

-- ---- a loop that writes f of each byte given, which stands at i
module _ (f : ℕ → List ℕ) (s : List ℕ) (i : ℕ) where
  pub next_undone : {j : ℕ} → j ≡ i + backslash (drop i s) → i < length s → flat_map f (undone (drop i s)) ≡ f (get_or s j 0) ++ flat_map f (undone (drop (j + 1) s))
  unfolding flat_map
  next_undone e h = rw (e, undone_at s i h)

  pub none_undone : length s ≤ i → flat_map f (undone (drop i s)) ≡ []
  unfolding flat_map undone
  none_undone h = rw (drop_of_length-le s h)
