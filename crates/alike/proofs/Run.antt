-- Bytes that two labels have in common are passed; and a turn with the table.
use Prim.Native.Nat.{ℕ, zero, suc, ◌+◌, ◌-◌, ◌≤◌, ◌<◌}
use native.Mathlib.Omega.{arith}
use native.Mathlib.Nat.{add-zero}
use mathlib.Core.Path.{◌≡◌, refl, sym, ap, ◌∙◌}
use mathlib.Core.List.{List, [], ◌∷◌, ◌++◌}
use mathlib.Core.Bool.{Bool, true, false, true≢false}
use borrow.Author.Tests.{eq-eqb, ne_eqb, eqb-true, eqb-false}
use lib.ListN.{length, get_or, length-append}
use lib.Dec.{eqb}
use Rattle.scan.specs.Byte.{blank}
use Rattle.scan.proofs.Test.{by}
use Rattle.scan.proofs.Scan.{past_stop}
use Rattle.scan.specs.Reading.{past}
use Rattle.casefold.specs.Fold.{expand, lower}
use Rattle.folding.specs.Pair.{pair, code_of, headed}
use Rattle.folding.specs.Word.{unpacked}
use Rattle.folding.proofs.Pair.{pair_bounds, code_low, code_high, low_alone}
use Rattle.folding.proofs.Words.{expand_headed}
use Rattle.matching.specs.Reading.{equals}
use Rattle.matching.proofs.Spelled.{second_high}
use Rattle.alike.specs.Reading.{gap, last_ascii, beyond, same, SameCount}
use Rattle.alike.specs.Left.{form_from, word_from, form, leads, Opens, Passed, Meets, Shared}
use Rattle.alike.proofs.Left.{put, form_at, form_word, word_one}
use Rattle.alike.proofs.Turn.{ascii_alike}
use Rattle.alike.proofs.Opening.{word_pair, pair_inside}
use Rattle.alike.proofs.Quick.{Each, plain_ink, same_left, same_right, same_byte, left_plain, right_plain, count_left, count_right, count_on}

pub equals_more : (l f g : List ℕ) → equals (l ++ f) (l ++ g) ≡ equals f g
unfolding equals
equals_more [] f g = refl
equals_more (x ∷ l) f g = rw (eq-eqb x x refl) (equals_more l f g)

-- ---- the form from a place where no blank stands
module _ (s : List ℕ) (i : ℕ) (h : i < length s) (ink : blank (get_or s i 0) ≡ false) where
  form_here : form_from s i ≡ word_from s i
  form_here = form_word s i i (past_stop blank s i refl h refl ink) h

  form_one : pair (get_or s i 0) (get_or s (i + 1) 0) ≡ false → form_from s i ≡ (lower (get_or s i 0) ∷ []) ++ form_from s (i + 1)
  form_one n = form_here ∙ word_one s i h ink n

  module _ (p : pair (get_or s i 0) (get_or s (i + 1) 0) ≡ true) where
    form_two : form_from s i ≡ expand (code_of (get_or s i 0) (get_or s (i + 1) 0)) ++ form_from s (i + 2)
    form_two = form_here ∙ word_pair s i h ink refl refl p

    -- the form from the second byte of a character on
    form_second : form_from s (i + 1) ≡ (lower (get_or s (i + 1) 0) ∷ []) ++ form_from s (i + 2)
    form_second =
        let k = pair_bounds (get_or s i 0) (get_or s (i + 1) 0) p in
        let m = second_high (get_or s i 0) (get_or s (i + 1) 0) p in
        let b : blank (get_or s (i + 1) 0) ≡ false = simp (ne_eqb (get_or s (i + 1) 0) 32 (λ q. omega arith), ne_eqb (get_or s (i + 1) 0) 9 (λ q. omega arith), ne_eqb (get_or s (i + 1) 0) 10 (λ q. omega arith)) in
        let two : i + 1 + 1 ≡ i + 2 = omega arith in
        rw two at (next s (i + 1) (pair_inside s i h ink refl refl p) b (low_alone (get_or s (i + 1) 0) (get_or s (i + 1 + 1) 0) (omega arith)))
      where
        next : (t : List ℕ) (j : ℕ) → j < length t → blank (get_or t j 0) ≡ false → pair (get_or t j 0) (get_or t (j + 1) 0) ≡ false → form_from t j ≡ (lower (get_or t j 0) ∷ []) ++ form_from t (j + 1)
        next t j l b n = form_word t j j (past_stop blank t j refl l refl b) l ∙ word_one t j l b n

-- ---- one byte that both have; where it begins a character, the next byte too
pub record Step (a b : List ℕ) (i j : ℕ) : Type 0 where
  pub alike : equals (form_from a i) (form_from b j) ≡ equals (form_from a (i + 1)) (form_from b (j + 1))
  pub less : length (form_from a (i + 1)) ≤ length (form_from a i)

no_lead : (x y : ℕ) → leads x ≡ false → pair x y ≡ false
unfolding pair
no_lead x y e = rw e

some_length : (l : List ℕ) → headed l ≡ true → 0 < length l
some_length [] e = absurd (true≢false (sym e))
some_length (x ∷ l) e = omega arith

module _ (m : ℕ) (a b : List ℕ) (i j : ℕ) (e : same m a b i j ≡ true) (near : leads (get_or a i 0) ≡ true → get_or a (i + 1) 0 ≡ get_or b (j + 1) 0) where
  la : i < length a
  la = same_left m a b i j refl e

  lb : j < length b
  lb = same_right m a b i j refl e

  ia : blank (get_or a i 0) ≡ false
  ia = plain_ink m (get_or a i 0) (left_plain m a b i j refl e)

  ib : blank (get_or b j 0) ≡ false
  ib = plain_ink m (get_or b j 0) (right_plain m a b i j refl e)

  one : get_or a i 0 ≡ get_or b j 0
  one = same_byte m a b i j refl e

  pairs : pair (get_or b j 0) (get_or b (j + 1) 0) ≡ pair (get_or a i 0) (get_or a (i + 1) 0)
  pairs =
      by (leads (get_or a i 0))
      (λ l. rw (← one, ← near l) refl)
      (λ l. no_lead (get_or b j 0) (get_or b (j + 1) 0) (rw (← one) l) ∙ sym (no_lead (get_or a i 0) (get_or a (i + 1) 0) l))

  step_single : pair (get_or a i 0) (get_or a (i + 1) 0) ≡ false → Step a b i j
  step_single n =
      let fa = form_one a i la ia n in
      let fb : form_from b j ≡ (lower (get_or a i 0) ∷ []) ++ form_from b (j + 1) = rw one (form_one b j lb ib (pairs ∙ n)) in
      let c : length (form_from a i) ≡ suc (length (form_from a (i + 1))) = ap length fa in
      record { alike = rw (fa, fb) (equals_more (lower (get_or a i 0) ∷ []) (form_from a (i + 1)) (form_from b (j + 1))); less = omega arith }

  step_double : pair (get_or a i 0) (get_or a (i + 1) 0) ≡ true → Step a b i j
  step_double p =
      let l : leads (get_or a i 0) ≡ true = by (leads (get_or a i 0)) (λ h. h) (λ h. absurd (true≢false (sym p ∙ no_lead (get_or a i 0) (get_or a (i + 1) 0) h))) in
      let q : pair (get_or b j 0) (get_or b (j + 1) 0) ≡ true = pairs ∙ p in
      let t : List ℕ = expand (code_of (get_or a i 0) (get_or a (i + 1) 0)) in
      let fa = form_two a i la ia p in
      let fb : form_from b j ≡ expand (code_of (get_or a i 0) (get_or a (i + 1) 0)) ++ form_from b (j + 2) = rw (one, near l) (form_two b j lb ib q) in
      let ga = form_second a i la ia p in
      let gb : form_from b (j + 1) ≡ (lower (get_or a (i + 1) 0) ∷ []) ++ form_from b (j + 2) = rw (near l) (form_second b j lb ib q) in
      let c : length (form_from a i) ≡ length t + length (form_from a (i + 2)) = ap length fa ∙ length-append t (form_from a (i + 2)) in
      let d : length (form_from a (i + 1)) ≡ suc (length (form_from a (i + 2))) = ap length ga in
      let o : 0 < length t = some_length t (expand_headed _ (code_low (get_or a i 0) (get_or a (i + 1) 0) p) (code_high (get_or a i 0) (get_or a (i + 1) 0) p)) in
      let u : equals (form_from a i) (form_from b j) ≡ equals (form_from a (i + 2)) (form_from b (j + 2)) = rw (fa, fb) (equals_more t (form_from a (i + 2)) (form_from b (j + 2))) in
      let v : equals (form_from a (i + 1)) (form_from b (j + 1)) ≡ equals (form_from a (i + 2)) (form_from b (j + 2)) = rw (ga, gb) (equals_more (lower (get_or a (i + 1) 0) ∷ []) (form_from a (i + 2)) (form_from b (j + 2))) in
      record { alike = u ∙ sym v; less = omega arith }

  step_one : Step a b i j
  step_one = by (pair (get_or a i 0) (get_or a (i + 1) 0)) step_double step_single

-- ---- a run of them
pub passed_none : (a b : List ℕ) (i j : ℕ) → Passed a b i j 0
passed_none a b i j = record { alike = rw (add-zero, add-zero) refl; less = rw add-zero (omega arith); left_fits = λ h. absurd (omega arith); right_fits = λ h. absurd (omega arith) }

module _ (m : ℕ) (a b : List ℕ) (i j : ℕ) where
  passed_on : (n : ℕ) → Passed a b i j n → same m a b (i + n) (j + n) ≡ true → Step a b (i + n) (j + n) → Passed a b i j (suc n)
  passed_on n p e s =
      let u : i + suc n ≡ i + n + 1 = omega arith in
      let v : j + suc n ≡ j + n + 1 = omega arith in
      let x = same_left m a b (i + n) (j + n) refl e in
      let y = same_right m a b (i + n) (j + n) refl e in
      let k = p.less in
      let l = s.less in
      record { alike = rw (u, v) (p.alike ∙ s.alike); less = rw u (omega arith); left_fits = λ h. omega arith; right_fits = λ h. omega arith }

  -- of n + 1 bytes that are the same, n are passed
  pub all_but_last : (n : ℕ) → Each m a b i j (suc n) → Passed a b i j n
  all_but_last zero f = passed_none a b i j
  all_but_last (suc n) f =
      let e = f n (omega arith) in
      let u : i + suc n ≡ i + n + 1 = omega arith in
      let v : j + suc n ≡ j + n + 1 = omega arith in
      let g : get_or a (i + n + 1) 0 ≡ get_or b (j + n + 1) 0 = rw (u, v) at (same_byte m a b (i + suc n) (j + suc n) refl (f (suc n) (omega arith))) in
      passed_on n (all_but_last n (λ k h. f k (omega arith))) e (step_one m a b (i + n) (j + n) e (λ l. g))

  -- and the last too where it begins no character
  pub all_of_them : (n : ℕ) → Each m a b i j (suc n) → leads (get_or a (i + n) 0) ≡ false → Passed a b i j (suc n)
  all_of_them n f l =
      let e = f n (omega arith) in
      passed_on n (all_but_last n f) e (step_one m a b (i + n) (j + n) e (λ t. absurd (true≢false (sym t ∙ l))))

-- ---- n is the count of them, and not 0
module _ (m : ℕ) (a b : List ℕ) (i j : ℕ) where
  pub run_inside : (n : ℕ) → SameCount m a b i j n → (n ≡ 0 → ⊥) → i + n ≤ length a
  run_inside zero e z = absurd (z refl)
  run_inside (suc n) e z = let l = same_left m a b (i + n) (j + n) refl (e.each n (omega arith)) in omega arith

  pub run_back : (n : ℕ) → SameCount m a b i j n → (n ≡ 0 → ⊥) → Passed a b i j (n - 1)
  run_back zero e z = absurd (z refl)
  run_back (suc n) e z = let k : suc n - 1 ≡ n = omega arith in rw k (all_but_last m a b i j n e.each)

  pub run_whole : (n : ℕ) → SameCount m a b i j n → (n ≡ 0 → ⊥) → {x : ℕ} {v : Bool} → x ≡ get_or a (i + n - 1) 0 → v ≡ leads x → v ≡ false → Passed a b i j n
  run_whole zero e z ex ev f = absurd (z refl)
  run_whole (suc n) e z {x} ex ev f =
      let k : i + suc n - 1 ≡ i + n = omega arith in
      let y : x ≡ get_or a (i + n) 0 = rw k at ex in
      all_of_them m a b i j n e.each (rw (← y) (sym ev ∙ f))

pub positive : (n : ℕ) → (n ≡ 0 → ⊥) → 0 < n
positive n z = omega arith

-- the places past it fit where the places before it and the labels do
pub run_left : (a b : List ℕ) (i j n m : ℕ) → Passed a b i j n → i ≤ m → length a ≤ m → i + n ≤ m
run_left a b i j n m p h k = by (eqb n 0) (λ e. let z = eqb-true n 0 e in omega arith) (λ e. let f = p.left_fits (positive n (eqb-false n 0 e)) in omega arith)

pub run_right : (a b : List ℕ) (i j n m : ℕ) → Passed a b i j n → j ≤ m → length b ≤ m → j + n ≤ m
run_right a b i j n m p h k = by (eqb n 0) (λ e. let z = eqb-true n 0 e in omega arith) (λ e. let f = p.right_fits (positive n (eqb-false n 0 e)) in omega arith)

-- ---- what both labels share from the first characters past the blanks on
module _ (a b : List ℕ) (p q : ℕ) (m : Meets a b p q) where
  -- beyond ASCII: a run of bytes
  pub shared_run : {n : ℕ} → Passed a b p q n → (n ≡ 0 → ⊥) → Shared a b p q n
  shared_run {n} s z = record {
    some = positive n z;
    alike = rw (← form_here a p m.left_inside m.left_ink, ← form_here b q m.right_inside m.right_ink) s.alike;
    left_fits = s.left_fits (positive n z);
    right_fits = s.right_fits (positive n z);
  }

  -- in ASCII: a byte that is alike when folded, and those that follow
  pub shared_ascii : beyond (get_or a p 0) (get_or b q 0) ≡ false → {n : ℕ} → SameCount last_ascii a b (p + 1) (q + 1) n → Shared a b p q (1 + n)
  shared_ascii low {n} c =
      let u : p + (1 + n) ≡ p + 1 + n = omega arith in
      let v : q + (1 + n) ≡ q + 1 + n = omega arith in
      let h = m.left_inside in
      let k = m.right_inside in
      record {
        some = omega arith;
        alike = rw (u, v) (ascii_alike a b p q (get_or a p 0) (get_or b q 0) refl refl h k m.left_ink m.right_ink low (m.alike low) ∙ sym (count_on a b (p + 1) (q + 1) c refl));
        left_fits = rw u (count_left last_ascii a b (p + 1) (q + 1) c (omega arith));
        right_fits = rw v (count_right last_ascii a b (p + 1) (q + 1) c (omega arith));
      }

-- ---- a turn with the table: the words at p and q were opened
module _ (a b : List ℕ) (p q : ℕ) {x i w y j v : ℕ} {r : Bool} (o : Opens a p x i w) (u : Opens b q y j v) (inv : equals (word_from a p) (word_from b q) ≡ r) where
  opened : equals (x ∷ form a i w) (y ∷ form b j v) ≡ r
  opened = rw (← o.opens, ← u.opens) inv

  pub first_differs : (x ≡ y → ⊥) → false ≡ r
  unfolding equals
  first_differs n = rw (ne_eqb x y n) at opened

  module _ (e : x ≡ y) where
    pub first_agrees : equals (form a i w) (form b j v) ≡ r
    unfolding equals
    first_agrees = rw (eq-eqb x y e) at opened

    pub whole_agrees : w ≡ v → equals (form_from a i) (form_from b j) ≡ r
    whole_agrees d = sym (equals_more (unpacked w) (form_from a i) (form_from b j)) ∙ (rw (← d) at first_agrees)

-- each turn takes a byte at least off what is left of a
pub opens_less : (a : List ℕ) (k p : ℕ) {x i w : ℕ} → p ≡ past blank a k → p < length a → Opens a p x i w → length (form_from a i) < length (form_from a k)
opens_less a k p {x} {i} {w} ep h o = let l = put_longer (gap k p) (word_from a p) in let m : length (word_from a p) ≡ suc (length (unpacked w) + length (form_from a i)) = ap length o.opens ∙ rw length-append refl in rw (form_at a k p ep h) (omega arith)
  where
    put_longer : (g : Bool) (l : List ℕ) → length l ≤ length (put g l)
    put_longer true l = omega arith
    put_longer false l = omega arith
