-- `closing` finds a place exactly where a text ends that its closing delimiter follows.
use Prim.Native.Nat.{ℕ, suc, ◌+◌, ◌≤◌, ◌<◌}
use native.Mathlib.Nat.{add-zero}
use native.Mathlib.Omega.{arith}
use mathlib.Core.Path.{◌≡◌, refl, sym, ap, subst, ◌∙◌}
use mathlib.Core.List.{List, [], ◌∷◌, ◌++◌}
use mathlib.Core.Bool.{Bool, true, false, true≢false, not, ◌&&◌, ◌||◌}
use mathlib.Core.Logic.{◌↔◌, ◌⊎◌, inl, inr, ⊎_elim}
use borrow.Author.Tests.{eq-eqb, eqb-true, not-true}
use lib.ListN.{length, drop, length-drop, length-append}
use lib.Dec.{eqb}
use Rattle.scan.specs.Byte.{punctuation, escapes}
use Rattle.scan.specs.Closing.{Units, none, escape, byte, inner, Closed}
use Rattle.scan.specs.Reading.{stop, next, scan, bare, Reached, closing_step, closing_from, closing}
use Rattle.std.specs.Prelude.{Option}
use Rattle.std.specs.Prelude.{Some, None}
use Rattle.scan.proofs.Test.{by, and_left, and_right}
use Rattle.scan.proofs.Scan.{scan_cons, Outcome, scan_holds}

-- ---- the ways through a turn: each premise is a fact that the code has there
module _ (close bar other : ℕ) (t : Reached) (b : ℕ) (s : List ℕ) where
  pub closes : bare close b t.inside ≡ true → closing_step close bar other t b s ≡ stop (Some t.at)
  unfolding closing_step
  closes h = simp h

  pub bars : bare close b t.inside ≡ false → (not t.inside && (eqb b bar || eqb b other)) ≡ true → closing_step close bar other t b s ≡ stop None
  unfolding closing_step
  bars h k = simp (h, k)

  pub passed : {k : Bool} → bare close b t.inside ≡ false → (not t.inside && (eqb b bar || eqb b other)) ≡ false → k ≡ escapes s
      → closing_step close bar other t b s ≡ next (record { at = t.at + 1; inside = not t.inside && k })
  unfolding closing_step
  passed h o e = simp (h, o, e)

-- a text at the front of s, which starts at place `at`, whose closing delimiter stands at place e
pub record ClosedAt (close bar other : ℕ) (s : List ℕ) (at e : ℕ) : Type 0 where
  pub text : List ℕ
  pub more : List ℕ
  pub closed : Closed close bar other s text more
  pub place : e ≡ at + length text

pub never : {e : ℕ} → None ≡ Some e → ⊥
never q = let z : ◌≡◌ {A = ℕ} 0 1 = cc in omega arith

pub at_inj : {d e : ℕ} → Some d ≡ Some e → d ≡ e
at_inj q = cc

-- what follows the byte after b does not matter
escapes_front : (b c : ℕ) (l m : List ℕ) → escapes (b ∷ (l ++ c ∷ m)) ≡ escapes (b ∷ (l ++ c ∷ []))
escapes_front b c [] m = refl
escapes_front b c (x ∷ l) m = refl

pub slash : (b p : ℕ) (s : List ℕ) → escapes (b ∷ p ∷ s) ≡ true → (b ≡ 92) × (punctuation p ≡ true)
slash b p s x = (eqb-true b 92 (and_left _ (punctuation p) x), and_right (eqb b 92) _ x)

abbrev Below : ℕ → Option ℕ → Type 0
Below n (Some e) = e < n
Below n None = Unit {0}

module _ (close bar other : ℕ) where
  keeps : (n : ℕ) (t : Reached) (b : ℕ) (s : List ℕ) → t.at + length (b ∷ s) ≡ n
      → Outcome (λ (t : Reached) (l : List ℕ). t.at + length l ≡ n) (Below n) s (closing_step close bar other t b (b ∷ s))
  unfolding closing_step
  keeps n t b s i =
      by (bare close b t.inside) (λ e. rw e (omega arith))
      (λ e. by (not t.inside && (eqb b bar || eqb b other)) (λ f. rw (e, f) tt) (λ f. rw (e, f) (omega arith)))

  -- the delimiter that is found stands before the end
  pub closing_below : (s : List ℕ) (at e : ℕ) → closing close bar other s at ≡ Some e → e < at + length s
  unfolding closing
  closing_below s at e q =
      let h : Below (at + length s) (closing close bar other s at) =
      scan_holds (closing_step close bar other) _ (λ (t : Reached) (l : List ℕ). t.at + length l ≡ at + length s) (Below (at + length s))
      (keeps (at + length s)) (λ t i. tt) s (record { at = at; inside = false }) refl in
      subst (Below (at + length s)) q h

-- the backslash is no delimiter
module _ (close bar other : ℕ) (free : inner close bar other 92 ≡ true) where
  not_close : (b : ℕ) → inner close bar other b ≡ true → eqb b close ≡ false
  not_close b e = not-true _ (and_left _ (not (eqb b bar || eqb b other)) e)

  not_bars : (b : ℕ) → inner close bar other b ≡ true → (eqb b bar || eqb b other) ≡ false
  not_bars b e = not-true _ (and_right (not (eqb b close)) _ e)

  -- a turn over a byte that is no bare delimiter
  pass : (b : ℕ) (s : List ℕ) (at : ℕ) (inside k : Bool) → bare close b inside ≡ false → (not inside && (eqb b bar || eqb b other)) ≡ false
      → (not inside && escapes (b ∷ s)) ≡ k
      → closing_from close bar other (b ∷ s) (record { at = at; inside = inside }) ≡ closing_from close bar other s (record { at = at + 1; inside = k })
  pass b s at inside k c o e = scan_cons _ _ b s _ (passed close bar other _ _ _ c o refl) ∙ rw e

  -- ---- complete: a text that its closing delimiter follows is found
  find : (more : List ℕ) {l : List ℕ} → Units (inner close bar other) (close ∷ []) l → (at : ℕ)
      → closing_from close bar other (l ++ close ∷ more) (record { at = at; inside = false }) ≡ Some (at + length l)
  find more none at = scan_cons _ _ close more _ (closes close bar other _ _ _ (eq-eqb close close refl)) ∙ ap Some (sym (add-zero at))
  find more (escape {p} {l} e t) at =
      pass 92 _ at false true (not_close 92 free) (not_bars 92 free) e ∙ pass p _ (at + 1) true false refl refl refl ∙ find more t (at + 1 + 1) ∙ ap Some (omega arith)
  find more (byte {b} {l} a e t) at =
      pass b _ at false false (not_close b a) (not_bars b a) (escapes_front b close l more ∙ e) ∙ find more t (at + 1) ∙ ap Some (omega arith)

  -- ---- sound: what is found is the end of such a text
  Turn : (b : ℕ) (s : List ℕ) (at : ℕ) (inside : Bool) (e : ℕ) → Type 0
  Turn b s at inside e =
      ((bare close b inside ≡ true) × (at ≡ e))
      ⊎ ((bare close b inside ≡ false) × ((not inside && (eqb b bar || eqb b other)) ≡ false)
      × (closing_from close bar other s (record { at = at + 1; inside = not inside && escapes (b ∷ s) }) ≡ Some e))

  turn : (b : ℕ) (s : List ℕ) (at : ℕ) (inside : Bool) (e : ℕ) → closing_from close bar other (b ∷ s) (record { at = at; inside = inside }) ≡ Some e → Turn b s at inside e
  unfolding Turn
  turn b s at inside e r =
      by (bare close b inside)
      (λ c. inl (c, at_inj (sym (scan_cons _ _ b s _ (closes close bar other _ _ _ c)) ∙ r)))
      (λ c. by (not inside && (eqb b bar || eqb b other))
      (λ o. absurd (never (sym (scan_cons _ _ b s _ (bars close bar other _ _ _ c o)) ∙ r)))
      (λ o. inr (c, o, sym (pass b s at inside _ c o refl) ∙ r)))

  abbrev Sound : List ℕ → Type 0
  Sound s = (at e : ℕ) → closing_from close bar other s (record { at = at; inside = false }) ≡ Some e → ClosedAt close bar other s at e

  -- at the closing delimiter
  here : (b : ℕ) (s : List ℕ) (at e : ℕ) → (bare close b false ≡ true) × (at ≡ e) → ClosedAt close bar other (b ∷ s) at e
  here b s at e (c, q) =
      record { text = []; more = s; closed = record { whole = ap (λ (x : ℕ). x ∷ s) (eqb-true b close c); text = none }; place = omega arith }

  admitted : (b : ℕ) → bare close b false ≡ false → (eqb b bar || eqb b other) ≡ false → inner close bar other b ≡ true
  admitted b c o = simp (c, o)

  -- before a byte of the text
  byte_more : (b : ℕ) (s : List ℕ) (at e : ℕ) → inner close bar other b ≡ true → escapes (b ∷ s) ≡ false → ClosedAt close bar other s (at + 1) e → ClosedAt close bar other (b ∷ s) at e
  byte_more b s at e a x m =
      record {
        text = b ∷ m.text;
        more = m.more;
        closed =
            record {
              whole = ap (λ (r : List ℕ). b ∷ r) m.closed.whole;
              text = byte a (sym (escapes_front b close m.text m.more) ∙ (rw m.closed.whole at x)) m.closed.text;
            };
        place = omega arith;
      }

  -- before an escape of the text
  escape_more : (p : ℕ) (s : List ℕ) (at e : ℕ) → punctuation p ≡ true → ClosedAt close bar other s (at + 1 + 1) e → ClosedAt close bar other (92 ∷ p ∷ s) at e
  escape_more p s at e x m =
      record {
        text = 92 ∷ p ∷ m.text;
        more = m.more;
        closed = record { whole = ap (λ (r : List ℕ). 92 ∷ p ∷ r) m.closed.whole; text = escape x m.closed.text };
        place = omega arith;
      }

  nil_never : (t : Reached) {e : ℕ} → closing_from close bar other [] t ≡ Some e → ⊥
  unfolding scan
  nil_never t r = never r

  sound_two : (b p : ℕ) (s : List ℕ) → Sound (p ∷ s) → Sound s → Sound (b ∷ p ∷ s)
  unfolding Turn
  sound_two b p s f g at e r =
      ⊎_elim (here b (p ∷ s) at e)
      (λ (c, o, q).
      by (escapes (b ∷ p ∷ s))
      (λ x.
      let (eb, ep) = slash b p s x in
      ⊎_elim (λ (d, z). absurd (true≢false (sym d)))
      (λ (d, v, q'). rw eb (escape_more p s at e ep (g (at + 1 + 1) e q')))
      (turn p s (at + 1) true e (rw x at q)))
      (λ x. byte_more b (p ∷ s) at e (admitted b c o) x (f (at + 1) e (rw x at q))))
      (turn b (p ∷ s) at false e r)

  sound_one : (b : ℕ) → Sound (b ∷ [])
  unfolding Turn
  sound_one b at e r = ⊎_elim (here b [] at e) (λ (c, o, q). absurd (nil_never _ q)) (turn b [] at false e r)

  sound : (s : List ℕ) → Sound s
  sound [] = λ at e r. absurd (nil_never _ r)
  sound (b ∷ []) = sound_one b
  sound (b ∷ p ∷ s) = sound_two b p s (sound (p ∷ s)) (sound s)

  pub closing_iff : (s : List ℕ) (at e : ℕ) → (closing close bar other s at ≡ Some e) ↔ ClosedAt close bar other s at e
  unfolding closing
  closing_iff s at e = (sound s at e, (λ m. rw (m.closed.whole, m.place) (find m.more m.closed.text at)))

  -- the delimiter that is found stands within the list
  pub closing_inside : (s : List ℕ) (at e : ℕ) → closing close bar other (drop at s) at ≡ Some e → (at ≤ e) × (e < length s)
  closing_inside s at e q =
      let m = (closing_iff (drop at s) at e).0 q in
      let n : length (drop at s) ≡ length m.text + suc (length m.more) = ap length m.closed.whole ∙ length-append m.text _ in
      let k = length-drop at s in
      (omega (arith, m.place), omega (arith, m.place))
