-- What the character at a place gives: its first byte, and the bytes of it that are left.
use Prim.Native.Nat.{ℕ, zero, suc, ◌+◌, ◌/◌, ◌%◌, ◌^◌, ◌<◌}
use native.Mathlib.Nat.{div-lt_iff_lt-mul, pow-suc}
use native.Mathlib.Omega.{arith}
use mathlib.Core.Path.{◌≡◌, refl, sym, ap, ◌∙◌}
use mathlib.Core.List.{List, [], ◌∷◌, ◌++◌}
use mathlib.Core.Bool.{true, false, true≢false, cond}
use Rattle.std.specs.Prelude.{Option, Some, None}
use borrow.Author.Tests.{eq-eqb, ne_eqb}
use lib.ListN.{length, get_or, drop}
use lib.Dec.{eqb}
use Rattle.scan.specs.Byte.{blank}
use Rattle.scan.proofs.Test.{by}
use Rattle.scan.proofs.Scan.{at_cons, peek_inside}
use Rattle.casefold.specs.Fold.{expand, lower}
use Rattle.folding.specs.Pair.{pair, code_of}
use Rattle.folding.specs.Word.{unpack, unpacked, word_of}
use Rattle.folding.proofs.Pair.{pair_bounds, code_low, code_high}
use Rattle.folding.proofs.Words.{word_right, expand_headed}
use Rattle.matching.proofs.Starts.{start_pair}
use Rattle.alike.specs.Left.{form_from, word_from, Opens}
use Rattle.alike.proofs.Left.{loose, word_one}

-- ---- the bytes of a number
grow : (k n : ℕ) → n < 256 ^ k → unpack k n ≡ unpack (suc k) n
unfolding unpack
grow zero n h = let z : n ≡ 0 = omega arith in rw (eq-eqb n 0 z, unpack)
grow (suc k) n h =
    let g : n / 256 < 256 ^ k = (div-lt_iff_lt-mul {k = 256} {x = n} {y = 256 ^ k} (omega arith)).1 (rw pow-suc at h) in
    by (eqb n 0) (λ e. rw (e, unpack)) (λ e. rw (e, unpack) (ap (λ (l : List ℕ). (n % 256) ∷ l) (grow k (n / 256) g)))

pub unpack_next : (n : ℕ) → (n ≡ 0 → ⊥) → n < 2 ^ 64 → unpacked n ≡ (n % 256) ∷ unpacked (n / 256)
unfolding unpack
unpack_next n z h =
    let g : n / 256 < 256 ^ 7 = (div-lt_iff_lt-mul {k = 256} {x = n} {y = 256 ^ 7} (omega arith)).1 h in
    rw (ne_eqb n 0 z, unpack) (ap (λ (l : List ℕ). (n % 256) ∷ l) (grow 7 (n / 256) g))

pub unpacked_0 : unpacked 0 ≡ []
unfolding unpack
unpacked_0 = refl

-- ---- b and x are the bytes at p and after it, they may be a character of the table
module _ (s : List ℕ) (p : ℕ) (h : p < length s) (ink : blank (get_or s p 0) ≡ false) {b x : ℕ} (eb : b ≡ get_or s p 0) (ex : x ≡ get_or s (p + 1) 0) where
  module _ (none : None ≡ cond (pair b x) (Some (code_of b x)) None) where
    is_none : pair b x ≡ false
    is_none = by (pair b x) (λ e. let k : None ≡ Some (code_of b x) = none ∙ rw e refl in grind (arith, k)) (λ e. e)

    pub opens_one : {y : ℕ} → y ≡ lower b → Opens s p y (p + 1) 0
    opens_one {y} ey =
        let n : pair (get_or s p 0) (get_or s (p + 1) 0) ≡ false = rw (← eb, ← ex) is_none in
        record { opens = word_one s p h ink n ∙ rw (unpacked_0, ey, eb) refl }

  module _ (is_pair : pair b x ≡ true) where
    pub pair_inside : p + 1 < length s
    pair_inside = peek_inside s (p + 1) (λ q. let k = pair_bounds b x is_pair in omega arith)

    both : drop p s ≡ b ∷ x ∷ drop (p + 2) s
    both = let two : p + 1 + 1 ≡ p + 2 = omega arith in rw (at_cons s p h, at_cons s (p + 1) pair_inside, ← eb, ← ex, two)

    pub word_pair : word_from s p ≡ expand (code_of b x) ++ form_from s (p + 2)
    word_pair = rw (both, loose p 2 (omega arith)) (start_pair b x (drop (p + 2) s) false is_pair)

    nonzero : (f : ℕ) → unpacked f ≡ expand (code_of b x) → f ≡ 0 → ⊥
    nonzero f e q =
        let n : [] ≡ expand (code_of b x) = sym unpacked_0 ∙ (rw q at e) in
        true≢false (sym (rw (← n) at (expand_headed (code_of b x) (code_low b x is_pair) (code_high b x is_pair))))

    opens_code : {k f : ℕ} → k ≡ code_of b x → f ≡ word_of k → f < 2 ^ 64 → Opens s p (f % 256) (p + 2) (f / 256)
    opens_code {k} {f} ek ef l =
        let e : unpacked f ≡ expand (code_of b x) = ap unpacked (ef ∙ ap word_of ek) ∙ word_right (code_of b x) (code_low b x is_pair) (code_high b x is_pair) in
        record {
          opens = word_pair ∙ ap (λ (m : List ℕ). m ++ form_from s (p + 2)) (sym e ∙ unpack_next f (nonzero f e) l);
        }

  -- c is the character that they are
  module _ {c : ℕ} (some : Some c ≡ cond (pair b x) (Some (code_of b x)) None) where
    found : (pair b x ≡ true) × (c ≡ code_of b x)
    found =
        by (pair b x)
        (λ e. let k : Some c ≡ Some (code_of b x) = some ∙ rw e refl in (e, grind (arith, k)))
        (λ e. let k : ◌≡◌ {A = Option ℕ} (Some c) None = some ∙ rw e refl in absurd (grind (arith, k)))

    pub opens_pair : {f : ℕ} → f ≡ word_of c → f < 2 ^ 64 → Opens s p (f % 256) (p + 2) (f / 256)
    opens_pair ef l = opens_code found.0 found.1 ef l
