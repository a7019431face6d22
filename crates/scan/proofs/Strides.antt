-- Sixteen items at once: a run of passing items by its parts, and reading on past it.
use Prim.Native.Nat.{ℕ, zero, suc, ◌+◌, ◌-◌, ◌*◌, ◌/◌, ◌≤◌, ◌<◌}
use native.Mathlib.Nat.{add-zero, zero-add, div-mul-le_self}
use native.Mathlib.Omega.{arith}
use mathlib.Core.Path.{◌≡◌, sym, ap, ◌∙◌}
use mathlib.Core.List.{List, [], ◌∷◌}
use mathlib.Core.Bool.{Bool, true, false, true≢false, not, ◌&&◌}
use borrow.Author.Tests.{le-leb, lt-leb, ne_eqb, leb-true, leb-false, not-true, not-false}
use lib.ListN.{length, get_or, take, drop, length-drop}
use lib.Seq.{drop-drop, length-take-le}
use lib.Dec.{eqb}
use Rattle.scan.proofs.Test.{by, leb_same}
use Rattle.scan.specs.Reading.{run, past, runs, past_strides}
use Rattle.scan.proofs.Scan.{run_yes, run_no, run_fits, at_item}

-- a byte that passes is none that does not
pub told_apart : (test : ℕ → Bool) (b m : ℕ) → test b ≡ true → test m ≡ false → eqb b m ≡ false
told_apart test b m e f = ne_eqb b m (λ q. true≢false (sym e ∙ ap test q ∙ f))

module _ {A : Type 0} (test : A → Bool) where
  -- a reading that passes each passing byte in one step passes k of them in k steps
  module _ {R : Type 0} (f : List A → ℕ → R) (step : (b : A) (l : List A) (at : ℕ) → test b ≡ true → f (b ∷ l) at ≡ f l (at + 1)) where
    through : (k : ℕ) (l : List A) (at : ℕ) → k ≤ run test l → f (drop k l) (at + k) ≡ f l at
    unfolding run
    through zero l at h = rw add-zero
    through (suc k) [] at h = let no : ⊥ = omega arith in absurd no
    through (suc k) (b ∷ l) at h =
        by (test b)
        (λ e.
        let p : at + suc k ≡ at + 1 + k = omega arith in
        rw p (through k l (at + 1) (omega (arith, run_yes test b l e)) ∙ sym (step b l at e)))
        (λ e. let no : ⊥ = omega (arith, run_no test b l e) in absurd no)

    -- so it reads the same from past the strides on
    pub strides_through : (s : List A) (at : ℕ) → f (drop (past_strides test s at) s) (past_strides test s at) ≡ f (drop at s) at
    unfolding past_strides
    strides_through s at =
        let n = run test (drop at s) in
        rw (← drop-drop (n / 16 * 16) at s) (through (n / 16 * 16) (drop at s) at (div-mul-le_self n 16))

  -- and so does the end of a run of bytes of which the passing ones are some
  module _ (wide : A → Bool) (among : (b : A) → test b ≡ true → wide b ≡ true) where
    wide_byte : (b : A) (l : List A) (k : ℕ) → test b ≡ true → k + run wide (b ∷ l) ≡ k + 1 + run wide l
    wide_byte b l k e = omega (arith, run_yes wide b l (among b e))

    pub past_through : (s : List A) (at : ℕ) {i : ℕ} → i ≡ past_strides test s at → past wide s i ≡ past wide s at
    unfolding past
    past_through s at e = rw e (strides_through (λ (l : List A) (k : ℕ). k + run wide l) wide_byte s at)

  run_over : (k : ℕ) (l : List A) → k ≤ run test l → run test l ≡ k + run test (drop k l)
  run_over k l h =
      let q = through (λ (m : List A) (at : ℕ). at + run test m) (λ b m at e. omega (arith, run_yes test b m e)) k l 0 h in
      omega arith

  -- ---- a run by its parts
  runs_one : (s : List A) (i : ℕ) {x : A} → i < length s → x ≡ get_or s i x → test x ≡ runs test 1 s i
  runs_one s i {x} h is =
      let rest = drop (i + 1) s in
      let p = ap (run test) (at_item s i h is) in
      by (test x) (λ e. e ∙ sym (le-leb 1 (run test (drop i s)) (omega (arith, run_yes test x rest e))))
      (λ e. e ∙ sym (lt-leb 1 (run test (drop i s)) (omega (arith, run_no test x rest e))))

  module _ (s : List A) (i : ℕ) where
    runs_more : (a b : ℕ) → (runs test a s i && runs test b s (i + a)) ≡ runs test (a + b) s i
    runs_more a b =
        by (runs test a s i)
        (λ e.
        let q = rw (drop-drop a i s) at (run_over a (drop i s) (leb-true a _ e)) in
        rw e (leb_same b _ (a + b) _ (λ h. omega arith) (λ h. omega arith)))
        (λ e. let h = leb-false a _ e in rw e (sym (lt-leb (a + b) _ (omega arith))))

    pub strides_low : {r : ℕ} → r ≡ past_strides test s i → i ≤ r
    unfolding past_strides
    strides_low e = omega arith

    -- fewer items are left
    pub runs_short : length s < i + 16 → false ≡ runs test 16 s i
    runs_short h = sym (lt-leb 16 (run test (drop i s)) (omega (arith, run_fits test (drop i s), length-drop i s)))

    -- ---- with the loop's invariant in hand, `past_strides test s i ≡ r`; p is what a call answered
    module _ {r : ℕ} (inv : past_strides test s i ≡ r) where
      pub strides_on : {p : Bool} → p ≡ runs test 16 s i → not p ≡ false → past_strides test s (i + 16) ≡ r
      unfolding past_strides
      strides_on e k =
          let q = rw (drop-drop 16 i s) at (run_over 16 (drop i s) (leb-true 16 (run test (drop i s)) (sym e ∙ not-false _ k))) in
          omega (arith, inv)

      pub strides_stop : {p : Bool} → p ≡ runs test 16 s i → not p ≡ true → i ≡ r
      unfolding past_strides
      strides_stop e k =
          let q = leb-false 16 (run test (drop i s)) (sym e ∙ not-true _ k) in
          omega (arith, inv)

      pub strides_short : length s - i < 16 → i ≡ r
      unfolding past_strides
      strides_short h = omega (arith, inv, run_fits test (drop i s), length-drop i s)

      pub strides_end : length s ≤ i → i ≡ r
      unfolding past_strides
      strides_end h = omega (arith, inv, run_fits test (drop i s), length-drop i s)

  -- one item more at the front, of which a call answered p
  pub one_more : (s : List A) (k : ℕ) {x : A} {a p : Bool} → a ≡ runs test k s 0 → k < length s → x ≡ get_or s k x → p ≡ test x → (a && p) ≡ runs test (k + 1) s 0
  one_more s k e h is q = rw (e, q, runs_one s k h is) (rw zero-add at (runs_more s 0 k 1))

  -- ---- a slice of n items that all pass is a run of n
  take_to : (n : ℕ) (l : List A) → n ≤ run test l → n ≤ run test (take n l)
  unfolding run
  take_to zero l h = omega arith
  take_to (suc n) [] h = omega arith
  take_to (suc n) (b ∷ l) h =
      by (test b)
      (λ e. omega (arith, run_yes test b (take n l) e, take_to n l (omega (arith, run_yes test b l e))))
      (λ e. omega (arith, run_no test b l e))

  take_from : (n : ℕ) (l : List A) → n ≤ run test (take n l) → n ≤ run test l
  unfolding run
  take_from zero l h = omega arith
  take_from (suc n) [] h = omega arith
  take_from (suc n) (b ∷ l) h =
      by (test b)
      (λ e. omega (arith, run_yes test b l e, take_from n l (omega (arith, run_yes test b (take n l) e))))
      (λ e. omega (arith, run_no test b (take n l) e))

  pub slice_told : (s : List A) (i n : ℕ) {p : Bool} → i + n ≤ length s → p ≡ runs test (length (take (i + n - i) (drop i s))) (take (i + n - i) (drop i s)) 0 → p ≡ runs test n s i
  slice_told s i n h e =
      let size : i + n - i ≡ n = omega arith in
      let long : length (take n (drop i s)) ≡ n = length-take-le n (drop i s) (omega (arith, length-drop i s)) in
      rw (size, long) at e ∙ leb_same n _ n _ (take_from n (drop i s)) (take_to n (drop i s))
