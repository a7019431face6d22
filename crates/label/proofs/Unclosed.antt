-- Reading l as if a `]` followed it, from one place to a later one.
use Rattle.std.specs.Prelude.{None, Option, Some}
use Prim.Native.Nat.{ℕ, zero, suc, ◌+◌, ◌≤◌, ◌<◌}
use native.Mathlib.Nat.{add-zero}
use native.Mathlib.Omega.{arith}
use mathlib.Core.Path.{◌≡◌, refl, sym, ap, ◌∙◌}
use mathlib.Core.List.{List, [], ◌∷◌, ◌++◌}
use mathlib.Core.Bool.{Bool, true, false, true≢false, not, ◌&&◌, ◌||◌}
use borrow.Author.Tests.{eq-eqb, ne_eqb, eqb-true, eqb-false, not-true}
use lib.ListN.{length, get_or, drop, length-drop, drop_of_length-le}
use lib.Seq.{get_or-drop}
use lib.Dec.{eqb, eqb-zero-suc}
use Rattle.scan.proofs.Test.{by, eqb_same, neither}
use Rattle.scan.specs.Byte.{punctuation, escapes}
use Rattle.scan.specs.Reading.{run, past, bare, scan, closing_step, closing_from, closing}
use Rattle.scan.proofs.Scan.{scan_cons, at_cons, run_yes, run_no, run_fits}
use Rattle.scan.proofs.Closing.{closes, bars, passed}
use Rattle.label.specs.Reading.{is_at, escapes_in, plain, unclosed}

-- neither of two, so not the second
right_not : (k x y : Bool) → (k && (x || y)) ≡ false → (k && y) ≡ false
right_not true true y e = absurd (true≢false e)
right_not true false y e = e
right_not false x y e = refl

-- reading stands at i, with l from there on and a `]` after it
abbrev pub goes_on : List ℕ → ℕ → Bool → Option ℕ
goes_on l i inside = closing_from 93 91 93 (drop i l ++ 93 ∷ []) (record { at = i; inside = inside })

abbrev pub Goes : List ℕ → ℕ → Bool → Type 0
Goes l i inside = goes_on l i inside ≡ closing 93 91 93 (l ++ 93 ∷ []) 0

pub started : (l : List ℕ) → Goes l 0 false
unfolding closing
started l = refl

-- an escape starts with the byte b, where a `]` follows l
second : (b : ℕ) (l : List ℕ) → escapes (b ∷ (l ++ 93 ∷ [])) ≡ (eqb b 92 && (eqb 0 (length l) || punctuation (get_or l 0 0)))
second b [] = refl
second b (p ∷ l) = rw (eqb-zero-suc (length l))

module _ (l : List ℕ) (i : ℕ) (inside : Bool) (inv : Goes l i inside) where
  abbrev here : ℕ
  here = get_or l i 0

  abbrev rest : List ℕ
  rest = drop (i + 1) l ++ 93 ∷ []

  module _ (h : i < length l) where
    open_here : closing_from 93 91 93 (here ∷ rest) (record { at = i; inside = inside }) ≡ closing 93 91 93 (l ++ 93 ∷ []) 0
    open_here = rw (at_cons l i h) at inv

    answers : (a : Option ℕ) → a ≡ closing 93 91 93 (l ++ 93 ∷ []) 0 → is_at (length l) a ≡ unclosed l
    unfolding unclosed
    answers a e = ap (is_at (length l)) e

    pub refused : (not inside && (eqb here 91 || eqb here 93)) ≡ true → false ≡ unclosed l
    refused r =
        by (bare 93 here inside)
        (λ c. sym (ne_eqb i (length l) (λ e. omega arith)) ∙ answers (Some i) (sym (scan_cons _ _ here rest _ (closes 93 91 93 _ _ _ c)) ∙ open_here))
        (λ c. answers None (sym (scan_cons _ _ here rest _ (bars 93 91 93 _ _ _ c r)) ∙ open_here))

    -- the byte after this one, or the `]`
    next_byte : escapes (here ∷ rest) ≡ escapes_in l i
    next_byte =
        rw (second here (drop (i + 1) l), get_or-drop, add-zero, eqb_same 0 (length (drop (i + 1) l)) (i + 1) (length l) (λ q. omega (arith, length-drop (i + 1) l)) (λ q. omega (arith, length-drop (i + 1) l)))

    -- p is what a call answered
    pub went : {p : Bool} → (not inside && (eqb here 91 || eqb here 93)) ≡ false → p ≡ escapes_in l i → Goes l (i + 1) (not inside && p)
    went r e =
        ap (λ (k : Bool). closing_from 93 91 93 rest (record { at = i + 1; inside = not inside && k })) (e ∙ sym next_byte)
        ∙ sym (scan_cons _ _ here rest _ (passed 93 91 93 _ _ _ (right_not (not inside) (eqb here 91) (eqb here 93) r) r refl))
        ∙ open_here

  pub ended : length l ≤ i → i ≤ length l → not inside ≡ unclosed l
  unfolding unclosed scan closing_step
  ended h k = last inside (rw (drop_of_length-le l h) at inv)
    where
      last : (inside : Bool) → closing_from 93 91 93 (93 ∷ []) (record { at = i; inside = inside }) ≡ closing 93 91 93 (l ++ 93 ∷ []) 0 → not inside ≡ is_at (length l) (closing 93 91 93 (l ++ 93 ∷ []) 0)
      last false e = sym (eq-eqb i (length l) (omega arith)) ∙ ap (is_at (length l)) e
      last true e = ap (is_at (length l)) e

-- a reading from i on tells of l, where i may be past the `]`, which then stands in an escape
pub record Stands (l : List ℕ) (i : ℕ) : Type 0 where
  pub within : i ≤ length l → Goes l i false
  pub beyond : length l < i → false ≡ unclosed l

module _ (l : List ℕ) where
  pub stands : Stands l 0
  stands = record { within = (λ h. started l); beyond = (λ h. let no : ⊥ = omega arith in absurd no) }

  -- past one plain byte
  on_plain : (i : ℕ) → i < length l → plain (get_or l i 0) ≡ true → Goes l i false → Goes l (i + 1) false
  on_plain i h e g =
      let (n, s) = neither (eqb (get_or l i 0) 91 || eqb (get_or l i 0) 93) _ (not-true _ e) in
      went l i false g h n (rw s refl)

  run_on : (k i : ℕ) → k ≤ run plain (drop i l) → Goes l i false → Goes l (i + k) false
  run_on zero i h g = rw (add-zero i) g
  run_on (suc k) i h g =
      let m : i + 1 + k ≡ i + suc k = omega arith in
      let b : i < length l = omega (arith, run_fits plain (drop i l), length-drop i l) in
      by (plain (get_or l i 0))
      (λ e.
      let r = rw (at_cons l i b, run_yes plain _ _ e) at h in
      rw m at (run_on k (i + 1) (omega arith) (on_plain i b e g)))
      (λ e.
      let r = rw (at_cons l i b, run_no plain _ _ e) at h in
      let no : ⊥ = omega arith in absurd no)

  pub over_plain : (i : ℕ) {j : ℕ} → j ≡ past plain l i → Stands l i → Stands l j
  unfolding past
  over_plain i e s =
      record {
        within = (λ h. rw e (run_on (run plain (drop i l)) i (omega arith) (s.within (omega arith))));
        beyond = (λ h. s.beyond (omega (arith, run_fits plain (drop i l), length-drop i l)));
      }

  -- past a byte that is no bracket: the escape that it starts, or itself
  module _ (i : ℕ) (h : i < length l) (n : (eqb (get_or l i 0) 91 || eqb (get_or l i 0) 93) ≡ false) (s : Stands l i) where
    pub over_escape : {p : Bool} → p ≡ escapes_in l i → p ≡ true → Stands l (i + 2)
    over_escape e t =
        let to : i + 2 ≡ i + 1 + 1 = omega arith in
        let on : Goes l (i + 1) true = went l i false (s.within (omega arith)) h n (sym t ∙ e) in
        record {
          within = (λ k. rw to (went l (i + 1) true on (omega arith) refl refl));
          beyond = (λ k. ended l (i + 1) true on (omega arith) (omega arith));
        }

    pub over_byte : {p : Bool} → p ≡ escapes_in l i → p ≡ false → Stands l (i + 1)
    over_byte e t =
        record {
          within = (λ k. went l i false (s.within (omega arith)) h n (sym t ∙ e));
          beyond = (λ k. let no : ⊥ = omega arith in absurd no);
        }

  pub stopped : (i : ℕ) → i < length l → (eqb (get_or l i 0) 91 || eqb (get_or l i 0) 93) ≡ true → Stands l i → false ≡ unclosed l
  stopped i h r s = refused l i false (s.within (omega arith)) h r

  pub told : (i : ℕ) → length l ≤ i → Stands l i → eqb i (length l) ≡ unclosed l
  told i h s =
      by (eqb i (length l))
      (λ e. e ∙ ended l i false (s.within (omega (arith, eqb-true i (length l) e))) h (omega (arith, eqb-true i (length l) e)))
      (λ e. e ∙ s.beyond (omega (arith, eqb-false i (length l) e)))

  pub plain_on : (i : ℕ) {j : ℕ} → j ≡ past plain l (i + 1) → i < j
  unfolding past
  plain_on i e = omega (arith, e)
