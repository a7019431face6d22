-- What single ASCII bytes tell where labels are compared in step: two that are unlike decide, and two that are the same are passed.
use Prim.Native.Nat.{ℕ, zero, suc, ◌+◌, ◌≤◌, ◌<◌}
use native.Mathlib.Nat.{add-zero}
use native.Mathlib.Decide.{dec_lt}
use native.Mathlib.Omega.{arith}
use mathlib.Core.Path.{◌≡◌, refl, sym, ap, ◌∙◌, subst}
use mathlib.Core.List.{List}
use mathlib.Core.Bool.{Bool, true, false, not, ◌&&◌, ◌||◌}
use borrow.Author.Tests.{eq-eqb, ne_eqb, eqb-true, leb-true, leb-false, lt-leb, ltb-true, le-ltb, not-true}
use lib.ListN.{length, get_or}
use lib.Dec.{leb, ltb, eqb}
use Rattle.scan.proofs.Test.{by, and_left, and_right, neither}
use Rattle.scan.specs.Byte.{blank}
use Rattle.scan.proofs.Scan.{peek_inside, past_stop}
use Rattle.scan.specs.Reading.{past}
use Rattle.casefold.specs.Fold.{lower}
use Rattle.matching.specs.Reading.{equals, matches}
use Rattle.alike.specs.Reading.{gap, level, last_ascii, beyond, apart, plain, unlike, same, SameCount}
use Rattle.alike.specs.Left.{form_from}
use Rattle.alike.proofs.Turn.{begins, ascii_alike, word_on, differ}

-- ---- at a byte that is no blank
pub plain_ink : (m x : ℕ) → plain m x ≡ true → blank x ≡ false
plain_ink m x e =
    let h : 32 < x = ltb-true 32 x (and_left _ (leb x m) e) in
    simp (ne_eqb x 32 (λ q. omega arith), ne_eqb x 9 (λ q. omega arith), ne_eqb x 10 (λ q. omega arith))

low : (x : ℕ) → plain last_ascii x ≡ true → ltb last_ascii x ≡ false
low x e = le-ltb last_ascii x (leb-true x last_ascii (and_right (ltb 32 x) _ e))

lows : (x y : ℕ) → plain last_ascii x ≡ true → plain last_ascii y ≡ true → beyond x y ≡ false
lows x y d e = simp (low x d, low y e)

past_here : (m : ℕ) (s : List ℕ) (i : ℕ) → plain m (get_or s i 0) ≡ true → i ≡ past blank s i
past_here m s i e =
    let h : 32 < get_or s i 0 = ltb-true 32 _ (and_left _ (leb (get_or s i 0) m) e) in
    past_stop blank s i refl (peek_inside s i (λ q. omega arith)) refl (plain_ink m (get_or s i 0) e)

-- ---- labels whose first bytes are unlike do not match
pub unlike_first : (a b : List ℕ) {x y : ℕ} {v : Bool} → x ≡ get_or a 0 0 → y ≡ get_or b 0 0 → v ≡ unlike x y → v ≡ true → matches a b ≡ false
unfolding unlike apart
unlike_first a b {x} {y} ex ey ev h =
    let u : ((plain last_ascii x && plain last_ascii y) && not (eqb (lower x) (lower y))) ≡ true = sym ev ∙ h in
    let i : (plain last_ascii x && plain last_ascii y) ≡ true = and_left _ (not (eqb (lower x) (lower y))) u in
    let f : eqb (lower x) (lower y) ≡ false = not-true _ (and_right (plain last_ascii x && plain last_ascii y) _ u) in
    let kx : plain last_ascii x ≡ true = and_left _ (plain last_ascii y) i in
    let ky : plain last_ascii y ≡ true = and_right (plain last_ascii x) _ i in
    let n : apart a b 0 0 0 0 x y ≡ true = simp (lows x y kx ky, f) in
    sym (differ a b 0 0 0 0 (past_here last_ascii a 0 (rw (← ex) kx)) (past_here last_ascii b 0 (rw (← ey) ky)) (rw (← ex, ← ey) (sym n)) (begins a b) refl)

-- ---- one and the same byte
module _ (m : ℕ) (a b : List ℕ) (i j : ℕ) {v : Bool} (ev : v ≡ same m a b i j) (h : v ≡ true) where
  stands : (not (leb (length a) i || leb (length b) j) && (eqb (get_or a i 0) (get_or b j 0) && plain m (get_or a i 0))) ≡ true
  unfolding same
  stands = sym ev ∙ h

  within : (leb (length a) i ≡ false) × (leb (length b) j ≡ false)
  within = neither (leb (length a) i) (leb (length b) j) (not-true _ (and_left _ (eqb (get_or a i 0) (get_or b j 0) && plain m (get_or a i 0)) stands))

  pub same_left : i < length a
  same_left = leb-false (length a) i within.0

  pub same_right : j < length b
  same_right = leb-false (length b) j within.1

  alike : (eqb (get_or a i 0) (get_or b j 0) && plain m (get_or a i 0)) ≡ true
  alike = and_right (not (leb (length a) i || leb (length b) j)) _ stands

  pub same_byte : get_or a i 0 ≡ get_or b j 0
  same_byte = eqb-true _ _ (and_left _ (plain m (get_or a i 0)) alike)

  pub left_plain : plain m (get_or a i 0) ≡ true
  left_plain = and_right (eqb (get_or a i 0) (get_or b j 0)) _ alike

  pub right_plain : plain m (get_or b j 0) ≡ true
  right_plain = rw (← same_byte) left_plain

no_gap : (k : ℕ) → gap k k ≡ false
no_gap k = by (eqb k 0) (λ e. simp (e, eq-eqb k k refl)) (λ e. simp (e, eq-eqb k k refl))

-- ---- a step over it where it is ASCII
module _ (a b : List ℕ) (i j : ℕ) {v : Bool} (ev : v ≡ same last_ascii a b i j) (h : v ≡ true) where
  la : i < length a
  la = same_left last_ascii a b i j ev h

  lb : j < length b
  lb = same_right last_ascii a b i j ev h

  pa : plain last_ascii (get_or a i 0) ≡ true
  pa = left_plain last_ascii a b i j ev h

  pb : plain last_ascii (get_or b j 0) ≡ true
  pb = right_plain last_ascii a b i j ev h

  levels : level a b i j i j ≡ true
  unfolding level
  levels = simp (lt-leb (length a) i la, lt-leb (length b) j lb, no_gap i, no_gap j)

  same_on : {r : Bool} → equals (form_from a i) (form_from b j) ≡ r → equals (form_from a (i + 1)) (form_from b (j + 1)) ≡ r
  same_on inv =
      sym (ascii_alike a b i j (get_or a i 0) (get_or b j 0) refl refl la lb (plain_ink last_ascii (get_or a i 0) pa) (plain_ink last_ascii (get_or b j 0) pb) (lows (get_or a i 0) (get_or b j 0) pa pb) (ap lower (same_byte last_ascii a b i j ev h)))
      ∙ word_on a b i j i j (past_here last_ascii a i pa) (past_here last_ascii b j pb) refl inv levels la

-- ---- all of them from i and j on
module _ (m : ℕ) (a b : List ℕ) (i j : ℕ) where
  -- one and the same byte stands in both at each of the first n places
  abbrev pub Each : ℕ → Type 0
  Each n = (k : ℕ) → k < n → same m a b (i + k) (j + k) ≡ true

  pub each_none : Each 0
  each_none k h = absurd (omega arith)

  -- one place more
  pub each_more : (n : ℕ) → Each n → {v : Bool} → v ≡ same m a b (i + n) (j + n) → v ≡ true → Each (n + 1)
  each_more n f ev h k l = cases (dec_lt k n)
    where
      cases : Dec (k < n) → same m a b (i + k) (j + k) ≡ true
      cases (yes z) = f k z
      cases (no z) = let e : n ≡ k = omega arith in subst (λ (p : ℕ). same m a b (i + p) (j + p) ≡ true) e (sym ev ∙ h)

  -- the places past them fit where the places before them and the labels do
  pub each_left : (n o : ℕ) → Each n → i ≤ o → length a ≤ o → i + n ≤ o
  each_left zero o f h k = omega arith
  each_left (suc n) o f h k = let l = same_left m a b (i + n) (j + n) refl (f n (omega arith)) in omega arith

  pub each_right : (n o : ℕ) → Each n → j ≤ o → length b ≤ o → j + n ≤ o
  each_right zero o f h k = omega arith
  each_right (suc n) o f h k = let l = same_right m a b (i + n) (j + n) refl (f n (omega arith)) in omega arith

  module _ {n : ℕ} (e : SameCount m a b i j n) where
    pub count_left : i ≤ length a → i + n ≤ length a
    count_left h = each_left n (length a) e.each h (omega arith)

    pub count_right : j ≤ length b → j + n ≤ length b
    count_right h = each_right n (length b) e.each h (omega arith)

-- ---- where they are ASCII
module _ (a b : List ℕ) (i j : ℕ) where
  each_on : (n : ℕ) → Each last_ascii a b i j n → {r : Bool} → equals (form_from a i) (form_from b j) ≡ r → equals (form_from a (i + n)) (form_from b (j + n)) ≡ r
  each_on zero f inv = rw (add-zero, add-zero) inv
  each_on (suc n) f inv =
      let u : i + suc n ≡ i + n + 1 = omega arith in
      let v : j + suc n ≡ j + n + 1 = omega arith in
      rw (u, v) (same_on a b (i + n) (j + n) refl (f n (omega arith)) (each_on n (λ k h. f k (omega arith)) inv))

  pub count_on : {n : ℕ} → SameCount last_ascii a b i j n → {r : Bool} → equals (form_from a i) (form_from b j) ≡ r → equals (form_from a (i + n)) (form_from b (j + n)) ≡ r
  count_on {n} e inv = each_on n e.each inv

pub count_start : (a b : List ℕ) {n : ℕ} → SameCount last_ascii a b 0 0 n → equals (form_from a n) (form_from b n) ≡ matches a b
count_start a b {n} e = let z : 0 + n ≡ n = omega arith in rw z at (count_on a b 0 0 e (begins a b))
