-- ASCII, with no table: a turn of the key, the bytes that two labels start with, and where they differ after them.
use Prim.Native.Nat.{ℕ, zero, suc, ◌+◌, ◌≤◌, ◌<◌}
use native.Mathlib.Nat.{add-zero}
use native.Mathlib.Omega.{arith}
use mathlib.Core.Path.{◌≡◌, refl, sym, ap, ◌∙◌}
use mathlib.Core.List.{List, ◌∷◌}
use mathlib.Core.Bool.{Bool, true, false, not, ◌&&◌}
use borrow.Author.Tests.{ltb-true, leb-true, eqb-false, not-true}
use lib.ListN.{length, get_or}
use lib.Dec.{leb, ltb, eqb}
use Rattle.std.specs.declared.cmp.Ordering.{Ordering}
use Rattle.std.specs.declared.cmp.Ordering.TheVariants.{Less, Equal, Greater}
use Rattle.std.specs.Ordering.{nat_cmp}
use Rattle.std.proofs.lemmas.Cmp.{ranked}
use Rattle.scan.specs.Byte.{blank}
use Rattle.scan.specs.Reading.{past}
use Rattle.scan.proofs.Test.{and_left, and_right}
use Rattle.scan.proofs.Scan.{peek_inside, past_stop}
use Rattle.casefold.specs.Fold.{lower}
use Rattle.folding.proofs.Pair.{low_alone}
use Rattle.matching.specs.Reading.{compared}
use Rattle.alike.specs.Reading.{gap, last_ascii, plain, unlike, SameCount}
use Rattle.alike.specs.Left.{form_from, word_from}
use Rattle.alike.proofs.Left.{put, form_over, form_at, form_word, ink_at, word_one}
use Rattle.alike.proofs.Quick.{plain_ink, same_byte, left_plain, right_plain, Each}
use Rattle.order.specs.Order.{order, mix, mixed, front, key}
use Rattle.order.proofs.Heads.{head_less, head_greater, head_same}
use Rattle.ranking.specs.Gap.{mix_gap}

-- ---- the key of s: it was read to i, and the blanks there reach to p
pub key_begins : (s : List ℕ) → front (mixed 0 (form_from s 0)) ≡ key (compared s)
unfolding compared key
key_begins s = refl

mixed_put : (h : ℕ) (g : Bool) (l : List ℕ) → mixed h (put g l) ≡ mixed (mix_gap h g) l
unfolding mixed mix_gap
mixed_put h true l = refl
mixed_put h false l = refl

module _ (s : List ℕ) (i p h : ℕ) {r : ℕ} (ep : p ≡ past blank s i) (inv : front (mixed h (form_from s i)) ≡ r) where
  pub key_over : length s ≤ p → front h ≡ r
  unfolding mixed
  key_over k = rw (form_over s i p ep k) at inv

  pub key_plain : p < length s → {b v c g : ℕ} → b ≡ get_or s p 0 → b ≤ last_ascii → v ≡ lower b → g ≡ mix_gap h (gap i p) → c ≡ mix g v → front (mixed c (form_from s (p + 1))) ≡ r
  unfolding mixed
  key_plain k {b} {v} {c} {g} eb low ev eg ec =
      let alone = low_alone (get_or s p 0) (get_or s (p + 1) 0) (omega arith) in
      let w = word_one s p k (ink_at s i p ep k) alone in
      rw (ec, ev, eb, eg) (ap front (sym (mixed_put h (gap i p) (word_from s p) ∙ rw w refl))) ∙ (rw (form_at s i p ep k) at inv)

-- ---- at a plain byte
module _ (s : List ℕ) (i : ℕ) (e : plain last_ascii (get_or s i 0) ≡ true) where
  inside : i < length s
  inside = let h : 32 < get_or s i 0 = ltb-true 32 _ (and_left _ (leb (get_or s i 0) last_ascii) e) in peek_inside s i (λ q. omega arith)

  pub form_plain : form_from s i ≡ lower (get_or s i 0) ∷ form_from s (i + 1)
  form_plain =
      let ink = plain_ink last_ascii (get_or s i 0) e in
      let low : get_or s i 0 ≤ last_ascii = leb-true _ last_ascii (and_right (ltb 32 (get_or s i 0)) _ e) in
      form_word s i i (past_stop blank s i refl inside refl ink) inside
      ∙ word_one s i inside ink (low_alone (get_or s i 0) (get_or s (i + 1) 0) (omega arith))

-- a turn of the key at such a byte
module _ (s : List ℕ) (i : ℕ) {b : ℕ} (eb : b ≡ get_or s i 0) (e : plain last_ascii b ≡ true) where
  here : plain last_ascii (get_or s i 0) ≡ true
  here = ap (plain last_ascii) (sym eb) ∙ e

  pub ink_inside : i < length s
  ink_inside = inside s i here

  pub key_ink : (h : ℕ) {r v c : ℕ} → front (mixed h (form_from s i)) ≡ r → v ≡ lower b → c ≡ mix h v → front (mixed c (form_from s (i + 1))) ≡ r
  unfolding mixed
  key_ink h inv ev ec = rw (ec, ev, eb) (rw (form_plain s i here) at inv)

-- ---- the bytes that a and b start with
module _ (a b : List ℕ) (i j : ℕ) where
  each_on : (n : ℕ) → Each last_ascii a b i j n → order (form_from a i) (form_from b j) ≡ order (form_from a (i + n)) (form_from b (j + n))
  each_on zero f = rw (add-zero i, add-zero j)
  each_on (suc n) f =
      let e = f n (omega arith) in
      let u : i + suc n ≡ i + n + 1 = omega arith in
      let v : j + suc n ≡ j + n + 1 = omega arith in
      let x = form_plain a (i + n) (left_plain last_ascii a b (i + n) (j + n) refl e) in
      let y = form_plain b (j + n) (right_plain last_ascii a b (i + n) (j + n) refl e) in
      each_on n (λ k h. f k (omega arith))
      ∙ rw (x, y, same_byte last_ascii a b (i + n) (j + n) refl e, u, v) (head_same _ _ _)

module _ (a b : List ℕ) {n : ℕ} (c : SameCount last_ascii a b 0 0 n) where
  pub order_passed : order (form_from a n) (form_from b n) ≡ order (compared a) (compared b)
  unfolding compared
  order_passed = let z : 0 + n ≡ n = omega arith in sym (rw z at (each_on a b 0 0 n c.each))

  -- x and y come next, and differ
  module _ {x y : ℕ} {v : Bool} (ex : x ≡ get_or a n 0) (ey : y ≡ get_or b n 0) (ev : v ≡ unlike x y) (t : v ≡ true) where
    plains : (plain last_ascii x && plain last_ascii y) ≡ true
    unfolding unlike
    plains = and_left _ (not (eqb (lower x) (lower y))) (sym ev ∙ t)

    differs : lower x ≡ lower y → ⊥
    unfolding unlike
    differs = eqb-false _ _ (not-true _ (and_right (plain last_ascii x && plain last_ascii y) _ (sym ev ∙ t)))

    by_heads : order (compared a) (compared b) ≡ order (lower x ∷ form_from a (n + 1)) (lower y ∷ form_from b (n + 1))
    by_heads =
        let f = form_plain a n (rw (← ex) (and_left _ (plain last_ascii y) plains)) in
        let g = form_plain b n (rw (← ey) (and_right (plain last_ascii x) _ plains)) in
        sym order_passed ∙ rw (f, g, ← ex, ← ey) refl

    -- k and l are those bytes folded, and o is what comparing them gives
    pub order_bytes : {k l : ℕ} → k ≡ lower x → l ≡ lower y → {o : Ordering} → o ≡ nat_cmp k l → o ≡ order (compared a) (compared b)
    order_bytes {k} {l} ek el {o} e = by_heads_at o (e ∙ rw (ek, el) refl)
      where
        by_heads_at : (o : Ordering) → o ≡ nat_cmp (lower x) (lower y) → o ≡ order (compared a) (compared b)
        by_heads_at Less e = sym (by_heads ∙ head_less (lower x) (lower y) _ _ (ranked (lower x) (lower y) Less e))
        by_heads_at Equal e = absurd (differs (ranked (lower x) (lower y) Equal e))
        by_heads_at Greater e = sym (by_heads ∙ head_greater (lower x) (lower y) _ _ (ranked (lower x) (lower y) Greater e))
