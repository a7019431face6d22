-- Comparing two labels in step. A loop keeps `equals (form_from a i) (form_from b j) ≡ r`: `begins` says it of the start, and the ways through a
-- turn are `differ`, `both_over` and `shared_on`, and with the table `uneven`, `level_over` and `word_on`. Each premise is a fact that the loop
-- has there.
use Prim.Native.Nat.{ℕ, ◌+◌, ◌≤◌, ◌<◌}
use native.Mathlib.Omega.{arith}
use mathlib.Core.Path.{◌≡◌, refl, sym, ap, ◌∙◌}
use mathlib.Core.List.{List, [], ◌∷◌}
use mathlib.Core.Bool.{Bool, true, false, true≢false, beq, not, ◌&&◌, ◌||◌}
use borrow.Author.Tests.{eq-eqb, ne_eqb, eqb-true, eqb-false, not-true, not-false, leb-true, leb-false, le-leb, lt-leb, ltb-false}
use lib.ListN.{length, get_or, get_or-eq_default}
use lib.Dec.{leb, ltb, eqb}
use Rattle.scan.proofs.Test.{by, and_left, and_right, neither}
use Rattle.scan.specs.Byte.{blank}
use Rattle.scan.specs.Reading.{past}
use Rattle.casefold.specs.Fold.{lower}
use Rattle.folding.proofs.Pair.{low_alone}
use Rattle.matching.specs.Reading.{compared, equals, matches}
use Rattle.alike.specs.Reading.{gap, level, last_ascii, beyond, apart}
use Rattle.alike.specs.Left.{form_from, word_from, Meets, Shared}
use Rattle.alike.proofs.Left.{put, form_over, form_at, ink_at, Inked, word_ink, word_one}

or_false_left : (s : Bool) → (s || not true) ≡ true → s ≡ true
or_false_left true e = refl
or_false_left false e = e

-- ---- what comparing two forms with or without a space in front comes to
no_space : (x : ℕ) → blank x ≡ false → x ≡ 32 → ⊥
no_space x e q = true≢false (rw q at e)

module _ (l : List ℕ) (i : Inked l) where
  nil_put : (u : Bool) → equals [] (put u l) ≡ false
  unfolding equals
  nil_put true = refl
  nil_put false = rw i.whole

  put_nil : (u : Bool) → equals (put u l) [] ≡ false
  unfolding equals
  put_nil true = refl
  put_nil false = rw i.whole

  module _ (m : List ℕ) (j : Inked m) where
    put_same : (u v : Bool) → beq u v ≡ true → equals (put u l) (put v m) ≡ equals l m
    unfolding equals
    put_same true true e = refl
    put_same false false e = refl
    put_same true false e = absurd (true≢false (sym e))
    put_same false true e = absurd (true≢false (sym e))

    put_other : (u v : Bool) → beq u v ≡ false → equals (put u l) (put v m) ≡ false
    unfolding equals
    put_other true true e = absurd (true≢false e)
    put_other false false e = absurd (true≢false e)
    put_other true false e = rw j.whole (rw (ne_eqb 32 j.first (λ k. no_space j.first j.ink (sym k))))
    put_other false true e = rw i.whole (rw (ne_eqb i.first 32 (no_space i.first i.ink)))

-- ---- the start
pub begins : (a b : List ℕ) → equals (form_from a 0) (form_from b 0) ≡ matches a b
unfolding matches compared
begins a b = refl

-- ---- where the labels are level and a is not over, neither is b
pub level_inside : (a b : List ℕ) (i j p q : ℕ) {v : Bool} → v ≡ level a b i j p q → v ≡ true → p < length a → q < length b
unfolding level
level_inside a b i j p q ev h k =
    by (leb (length b) q)
    (λ f. absurd (true≢false (sym h ∙ ev ∙ simp (lt-leb (length a) p k, f))))
    (leb-false (length b) q)

pub level_ends : (a b : List ℕ) (i j p q : ℕ) {v : Bool} → v ≡ level a b i j p q → v ≡ true → length a ≤ p → length b ≤ q
unfolding level
level_ends a b i j p q ev h k =
    by (leb (length b) q)
    (leb-true (length b) q)
    (λ f. absurd (true≢false (sym h ∙ ev ∙ simp (le-leb (length a) p k, f))))

-- ---- x and y are ASCII: the words are read on after them
module _ (a b : List ℕ) (p q x y : ℕ) (ex : x ≡ get_or a p 0) (ey : y ≡ get_or b q 0) (h : p < length a) (k : q < length b) (ia : blank (get_or a p 0) ≡ false) (ib : blank (get_or b q 0) ≡ false) (low : beyond x y ≡ false) where
  lows : (ltb last_ascii x ≡ false) × (ltb last_ascii y ≡ false)
  lows = neither (ltb last_ascii x) (ltb last_ascii y) low

  one_left : word_from a p ≡ lower x ∷ form_from a (p + 1)
  one_left = let l = ltb-false last_ascii x lows.0 in rw ex (word_one a p h ia (low_alone (get_or a p 0) (get_or a (p + 1) 0) (omega arith)))

  one_right : word_from b q ≡ lower y ∷ form_from b (q + 1)
  one_right = let l = ltb-false last_ascii y lows.1 in rw ey (word_one b q k ib (low_alone (get_or b q 0) (get_or b (q + 1) 0) (omega arith)))

  pub ascii_alike : lower x ≡ lower y → equals (word_from a p) (word_from b q) ≡ equals (form_from a (p + 1)) (form_from b (q + 1))
  unfolding equals
  ascii_alike e = rw (one_left, one_right) (rw (eq-eqb _ _ e))

  pub ascii_unlike : (lower x ≡ lower y → ⊥) → equals (word_from a p) (word_from b q) ≡ false
  unfolding equals
  ascii_unlike n = rw (one_left, one_right) (rw (ne_eqb _ _ n))

-- ---- a turn: the labels were read to i and j, and the blanks there reach to p and q
module _ (a b : List ℕ) (i j p q : ℕ) (ep : p ≡ past blank a i) (eq : q ≡ past blank b j) where
  ink_left : p < length a → Inked (word_from a p)
  ink_left h = word_ink a p h (ink_at a i p ep h)

  ink_right : q < length b → Inked (word_from b q)
  ink_right h = word_ink b q h (ink_at b j q eq h)

  turn : equals (form_from a i) (form_from b j) ≡ (level a b i j p q && (leb (length a) p || equals (word_from a p) (word_from b q)))
  unfolding level equals
  turn =
      by (leb (length a) p)
      (λ e.
      by (leb (length b) q)
      (λ f. rw (form_over a i p ep (leb-true _ _ e), form_over b j q eq (leb-true _ _ f)) (simp (e, f)))
      (λ f. rw (form_over a i p ep (leb-true _ _ e), form_at b j q eq (leb-false _ _ f)) (nil_put _ (ink_right (leb-false _ _ f)) (gap j q) ∙ simp (e, f))))
      (λ e.
      by (leb (length b) q)
      (λ f. rw (form_at a i p ep (leb-false _ _ e), form_over b j q eq (leb-true _ _ f)) (put_nil _ (ink_left (leb-false _ _ e)) (gap i p) ∙ simp (e, f)))
      (λ f.
      rw (form_at a i p ep (leb-false _ _ e), form_at b j q eq (leb-false _ _ f))
      (by (beq (gap i p) (gap j q))
      (λ g. put_same _ (ink_left (leb-false _ _ e)) _ (ink_right (leb-false _ _ f)) (gap i p) (gap j q) g ∙ simp (e, f, g))
      (λ g. put_other _ (ink_left (leb-false _ _ e)) _ (ink_right (leb-false _ _ f)) (gap i p) (gap j q) g ∙ simp (e, f, g)))))

  -- v is the answer of `level`
  module _ {v r : Bool} (ev : v ≡ level a b i j p q) (inv : equals (form_from a i) (form_from b j) ≡ r) where
    pub uneven : v ≡ false → false ≡ r
    uneven h = sym (rw (← ev, h) at turn) ∙ inv

    pub level_over : v ≡ true → length a ≤ p → true ≡ r
    level_over h k = sym (rw (← ev, h, le-leb (length a) p k) at turn) ∙ inv

    pub word_on : v ≡ true → p < length a → equals (word_from a p) (word_from b q) ≡ r
    word_on h k = sym (rw (← ev, h, lt-leb (length a) p k) at turn) ∙ inv

  -- v is the answer of `apart` at the bytes there
  abbrev x : ℕ
  x = get_or a p 0

  abbrev y : ℕ
  y = get_or b q 0

  module _ {v : Bool} (ev : v ≡ apart a b i j p q x y) where
    -- ASCII bytes that are unlike decide where the labels are level
    unlike_level : {r : Bool} → level a b i j p q ≡ true → (not (beyond x y) && not (eqb (lower x) (lower y))) ≡ true → equals (form_from a i) (form_from b j) ≡ r → false ≡ r
    unlike_level l u inv =
        let low : beyond x y ≡ false = not-true _ (and_left _ (not (eqb (lower x) (lower y))) u) in
        let n : lower x ≡ lower y → ⊥ = eqb-false _ _ (not-true _ (and_right (not (beyond x y)) _ u)) in
        by (leb (length a) p)
        (λ e.
        let f : length b ≤ q = level_ends a b i j p q refl l (leb-true (length a) p e) in
        absurd (n (ap lower (get_or-eq_default a 0 (leb-true (length a) p e) ∙ sym (get_or-eq_default b 0 f)))))
        (λ e.
        let h = leb-false (length a) p e in
        let k = level_inside a b i j p q refl l h in
        sym (ascii_unlike a b p q x y refl refl h k (ink_at a i p ep h) (ink_at b j q eq k) low n) ∙ word_on refl inv l h)

    pub differ : {r : Bool} → equals (form_from a i) (form_from b j) ≡ r → v ≡ true → false ≡ r
    unfolding apart
    differ inv h =
        by (level a b i j p q)
        (λ l. unlike_level l (or_false_left _ (rw l at (sym ev ∙ h))) inv)
        (λ l. uneven refl inv l)

    module _ (h : v ≡ false) where
      close : ((not (beyond x y) && not (eqb (lower x) (lower y))) ≡ false) × (not (level a b i j p q) ≡ false)
      unfolding apart
      close = neither _ _ (sym ev ∙ h)

      levels : level a b i j p q ≡ true
      levels = not-false _ close.1

      pub both_inside : p < length a → q < length b
      both_inside k = level_inside a b i j p q refl levels k

      pub both_over : {r : Bool} → equals (form_from a i) (form_from b j) ≡ r → length a ≤ p → true ≡ r
      both_over inv k = level_over refl inv levels k

      pub meets : p < length a → Meets a b p q
      meets k = record {
        left_inside = k;
        right_inside = both_inside k;
        left_ink = ink_at a i p ep k;
        right_ink = ink_at b j q eq (both_inside k);
        alike = λ low. eqb-true _ _ (not-false _ (rw low at close.0));
      }

      pub shared_on : {r : Bool} → equals (form_from a i) (form_from b j) ≡ r → p < length a → {n : ℕ} → Shared a b p q n → equals (form_from a (p + n)) (form_from b (q + n)) ≡ r
      shared_on inv k s = sym s.alike ∙ word_on refl inv levels k
