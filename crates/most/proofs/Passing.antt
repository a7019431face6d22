-- What was counted and what is left come to the whole.
use Prim.Native.Nat.{ℕ, zero, suc, ◌+◌, ◌≤◌, ◌<◌}
use native.Mathlib.Nat.{add-zero, zero-add}
use native.Mathlib.Omega.{arith}
use mathlib.Core.Path.{◌≡◌, refl, sym, ap, ◌∙◌}
use mathlib.Core.List.{List, []}
use mathlib.Core.Bool.{Bool, true, false, true≢false, cond, not, ◌&&◌, ◌||◌}
use borrow.Author.Tests.{eq-eqb, ne_eqb, eqb-true, not-true}
use lib.Dec.{eqb}
use Rattle.std.specs.Int.{from_bool}
use lib.ListN.{length, get_or, drop, length-drop, drop_of_length-le}
use Rattle.scan.proofs.Test.{by}
use Rattle.scan.specs.Reading.{run, past}
use Rattle.scan.proofs.Scan.{at_cons, run_yes, run_no, run_fits}
use Rattle.inline.specs.Pieces.{backtick}
use Rattle.inline.specs.ReadingPieces.{quiet}
use Rattle.most.specs.Most.{special, bit, ends, look, stays, held}
use Rattle.most.specs.Counting.{bracket, ends_mark, with_mark}
use Rattle.most.specs.declared.Counted.{Counted}
use Rattle.most.proofs.Counts.{ends_at, held_at, look_at, look_same, held_same, ends_same, ends_run, held_run}

pub one_if : (y : Bool) → from_bool y ≡ bit y
one_if true = refl
one_if false = refl

-- a plain byte is not special
pub plain_special : (b : ℕ) → quiet b ≡ true → special b ≡ false
plain_special b e =
    let n : (m : ℕ) → quiet m ≡ false → b ≡ m → ⊥ = λ m f q. true≢false (sym e ∙ ap quiet q ∙ f) in
    simp (ne_eqb b 91 (n 91 refl), ne_eqb b 93 (n 93 refl), ne_eqb b 96 (n 96 refl), ne_eqb b 92 (n 92 refl))

-- the special bytes are brackets, backslashes and backticks
special_is : (b : ℕ) → special b ≡ bracket b || backtick b
special_is b = same (eqb b 91) (eqb b 92) (eqb b 93) (eqb b 96)
  where
    same : (x y z t : Bool) → (((x || z) || t) || y) ≡ (((x || y) || z) || t)
    same true y z t = refl
    same false true true t = refl
    same false true false true = refl
    same false true false false = refl
    same false false true t = refl
    same false false false true = refl
    same false false false false = refl

bracket_special : (b : ℕ) → bracket b ≡ true → special b ≡ true
bracket_special b e = special_is b ∙ rw e refl

bracket_tick : (b : ℕ) → bracket b ≡ true → eqb b 96 ≡ false
bracket_tick b e = by (eqb b 96) (λ t. absurd (true≢false (sym e ∙ ap bracket (eqb-true b 96 t)))) (λ t. t)

text_special : (b : ℕ) → bracket b ≡ false → (b ≡ 96 → ⊥) → special b ≡ false
text_special b e n = special_is b ∙ rw (e, ne_eqb b 96 n) refl

past_after : (test : ℕ → Bool) (p : List ℕ) (a : ℕ) {r : ℕ} → r ≡ past test p a → a ≤ r
unfolding past
past_after test p a e = omega arith

past_within : (test : ℕ → Bool) (p : List ℕ) (a : ℕ) {r : ℕ} → r ≡ past test p a → a ≤ length p → r ≤ length p
unfolding past
past_within test p a e h = omega (arith, run_fits test (drop a p), length-drop a p)

-- at place i of p
pub record Counting (p : List ℕ) (i : ℕ) (m : Counted) : Type 0 where
  pub ends_are : m.most.ends + ends (drop i p) ≡ ends p
  pub held_are : m.most.held + bit (m.opened && stays (drop i p)) + held (drop i p) ≡ held p
  pub few_ends : m.most.ends ≤ i
  pub few_held : m.most.held ≤ i
  pub inside : i ≤ length p

pub counting_starts : (p : List ℕ) → Counting p 0 record { opened = false; most = record { ends = 0; held = 0 } }
counting_starts p = record { ends_are = omega arith; held_are = omega arith; few_ends = omega arith; few_held = omega arith; inside = omega arith }

module _ (p : List ℕ) (i : ℕ) (h : i < length p) {m : Counted} (c : Counting p i m) where
  -- a byte that is not special
  pass_plain : special (get_or p i 0) ≡ false → Counting p (i + 1) m
  pass_plain n =
      record {
        ends_are = rw (ends_same p i h n) c.ends_are;
        held_are = rw (look_same p i h n, held_same p i h n) c.held_are;
        few_ends = omega (arith, c.few_ends);
        few_held = omega (arith, c.few_held);
        inside = omega arith;
      }

  small : (y : Bool) → bit y ≤ 1
  small true = omega arith
  small false = omega arith

  -- a mark that ends at e
  module _ (s : special (get_or p i 0) ≡ true) {e : ℕ} (on : i < e) (within : e ≤ length p) (el : ends (drop i p) ≡ bit (ends_mark (get_or p i 0)) + ends (drop e p))
      (hl : held (drop i p) ≡ bit (eqb (get_or p i 0) 91 && stays (drop e p)) + held (drop e p)) where
    pass_special : {w : Counted} → w ≡ with_mark m (get_or p i 0) → Counting p e w
    unfolding with_mark
    pass_special ew =
        let l : look (drop i p) ≡ get_or p i 0 = look_at p i h ∙ rw s refl in
        let k = rw l at c.held_are in
        rw ew
        (record {
          ends_are = omega (arith, c.ends_are, el);
          held_are = omega (arith, k, hl);
          few_ends = omega (arith, c.few_ends, small (ends_mark (get_or p i 0)));
          few_held = omega (arith, c.few_held, small (m.opened && not (eqb (get_or p i 0) 93)));
          inside = within;
        })

  pub pass_bracket : bracket (get_or p i 0) ≡ true → {w : Counted} → w ≡ with_mark m (get_or p i 0) → Counting p (i + 1) w
  pass_bracket e =
      let n = bracket_tick (get_or p i 0) e in
      pass_special (bracket_special (get_or p i 0) e) (omega arith) (omega arith) (ends_at p i h ∙ rw n refl) (held_at p i h)

  pub pass_run : get_or p i 0 ≡ 96 → {w : Counted} → w ≡ with_mark m 96 → {e : ℕ} → e ≡ past backtick p (i + 1) → Counting p e w
  pass_run b ew q =
      pass_special (rw b refl) (omega (arith, past_after backtick p (i + 1) q)) (past_within backtick p (i + 1) q (omega arith))
      (rw b (ends_run p i h b q)) (rw (b, zero-add) (held_run p i h b q)) (rw b ew)

-- ---- plain bytes, one after the other
-- a run of them that is not empty: its first byte, and the run after it
module _ (p : List ℕ) (a n : ℕ) (e : run quiet (drop a p) ≡ suc n) where
  pub run_inside : a < length p
  run_inside = omega (arith, e, run_fits quiet (drop a p), length-drop a p)

  pub run_first : quiet (get_or p a 0) ≡ true
  run_first =
      by (quiet (get_or p a 0)) (λ q. q)
      (λ q. let z = run_no quiet (get_or p a 0) (drop (a + 1) p) q in let f = rw (at_cons p a run_inside) at e in absurd (omega arith))

  pub run_rest : run quiet (drop (a + 1) p) ≡ n
  run_rest =
      let z = run_yes quiet (get_or p a 0) (drop (a + 1) p) run_first in let f = rw (at_cons p a run_inside) at e in omega arith

-- what one plain byte leaves as it is, all of them do
module _ (p : List ℕ) (P : ℕ → Type 0) (step : (i : ℕ) → i < length p → quiet (get_or p i 0) ≡ true → P i → P (i + 1)) where
  through_run : (n i : ℕ) → run quiet (drop i p) ≡ n → P i → P (i + n)
  through_run zero i e x = rw (add-zero i) x
  through_run (suc n) i e x =
      let m : i + 1 + n ≡ i + suc n = omega arith in
      rw m at (through_run n (i + 1) (run_rest p i n e) (step i (run_inside p i n e) (run_first p i n e) x))

  pub through_plain : (i : ℕ) {r : ℕ} → r ≡ past quiet p i → P i → P r
  unfolding past
  through_plain i e x = rw e (through_run (run quiet (drop i p)) i refl x)

counting_plain : (p : List ℕ) (i : ℕ) {m : Counted} {r : ℕ} → r ≡ past quiet p i → Counting p i m → Counting p r m
counting_plain p i {m} = through_plain p (λ j. Counting p j m) (λ j h q c. pass_plain p j h c (plain_special (get_or p j 0) q)) i

-- a byte that is no mark, and the plain bytes after it
pub pass_text : (p : List ℕ) (i : ℕ) → i < length p → {m : Counted} → Counting p i m → bracket (get_or p i 0) ≡ false → (get_or p i 0 ≡ 96 → ⊥) → {r : ℕ} → r ≡ past quiet p (i + 1) → Counting p r m
pass_text p i h c n t e = counting_plain p (i + 1) e (pass_plain p i h c (text_special (get_or p i 0) n t))

pub past_on : (test : ℕ → Bool) (p : List ℕ) (i : ℕ) {r : ℕ} → r ≡ past test p (i + 1) → i < r
past_on test p i e = omega (arith, past_after test p (i + 1) e)

-- ---- at the end
module _ (p : List ℕ) (i : ℕ) (h : length p ≤ i) {m : Counted} (c : Counting p i m) where
  pub all_ends : m.most.ends ≡ ends p
  unfolding ends
  all_ends = let z : drop i p ≡ [] = drop_of_length-le p h in let e = rw z at c.ends_are in omega arith

  pub all_held : {n : ℕ} → n ≡ m.most.held + bit (m.opened) → n ≡ held p
  unfolding held look
  all_held e =
      let z : drop i p ≡ [] = drop_of_length-le p h in
      let k = rw z at c.held_are in
      by (m.opened) (λ q. let a = rw q at k in let b = rw q at e in omega arith) (λ q. let a = rw q at k in let b = rw q at e in omega arith)
