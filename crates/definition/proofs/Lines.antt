-- Places of what follows in a text; and `line_after` finds exactly the end of a line.
use Rattle.std.specs.Prelude.{None, Some}
use Prim.Native.Nat.{ℕ, ◌+◌, ◌-◌, ◌≤◌, ◌<◌}
use native.Mathlib.Omega.{arith}
use mathlib.Core.Path.{◌≡◌, refl, sym, ap, ◌∙◌}
use mathlib.Core.List.{List, [], ◌∷◌, ◌++◌}
use mathlib.Core.Bool.{Bool}
use mathlib.Core.Logic.{◌↔◌, ◌⊎◌, inl, inr}
use borrow.Author.Tests.{le-leb, lt-leb, leb-true, leb-false, eq-eqb, eqb-true}
use lib.ListN.{length, get_or, drop, length-append, length-drop, drop_of_length-le}
use lib.Seq.{drop_at, drop-drop}
use lib.Dec.{leb, eqb}
use Rattle.scan.proofs.Test.{by}
use Rattle.scan.specs.Reading.{run, past}
use Rattle.scan.proofs.Scan.{at_cons}
use Rattle.scan.specs.Every.{Every, Halts, empty, other}
use Rattle.scan.proofs.Every.{run_iff}
use Rattle.block.specs.Line.{padding, EndOfLine, feed, end}
use Rattle.definition.specs.Definition.{LineEnd}
use Rattle.definition.specs.Reading.{line_after}

-- what is left of s from place n on
pub record Left (s : List ℕ) (n : ℕ) (more : List ℕ) : Type 0 where
  pub fits : n ≤ length s
  pub rest : drop n s ≡ more

-- after a front that is passed
pub left_after : (s : List ℕ) (n : ℕ) (front rest : List ℕ) → n ≤ length s → drop n s ≡ front ++ rest → Left s (n + length front) rest
left_after s n front rest h e =
    record {
      fits = omega (arith, length-drop n s, ap length e, length-append front rest);
      rest = sym (drop-drop (length front) n s) ∙ ap (drop (length front)) e ∙ drop_at front rest (length front) refl;
    }

-- it is left at one place only
pub left_one : (s rest : List ℕ) (m n : ℕ) → Left s m rest → Left s n rest → m ≡ n
left_one s rest m n p q = omega (arith, p.fits, q.fits, ap length p.rest, ap length q.rest, length-drop m s, length-drop n s)

pub left_moved : {s rest : List ℕ} {m n : ℕ} → m ≡ n → Left s m rest → Left s n rest
left_moved e w = rw e at w

-- the byte before place n is an LF, or s ends there
abbrev pub LineEnded : List ℕ → ℕ → Type 0
LineEnded s n = (get_or s (n - 1) 0 ≡ 10) ⊎ (n ≡ length s)

-- what is left of s after the end of a line
pub record LeftByLine (s more : List ℕ) : Type 0 where
  pub place : ℕ
  pub left : Left s place more
  pub ended : LineEnded s place

-- the byte at the front of what follows
pub record Next (s : List ℕ) (n b : ℕ) (rest : List ℕ) : Type 0 where
  pub inside : n < length s
  pub byte : get_or s n 0 ≡ b
  pub after : Left s (n + 1) rest

head_of : {a b : ℕ} {l m : List ℕ} → a ∷ l ≡ b ∷ m → (a ≡ b) × (l ≡ m)
head_of e = ((cc), (cc))

pub next_byte : (s : List ℕ) (n b : ℕ) (rest : List ℕ) → Left s n (b ∷ rest) → Next s n b rest
next_byte s n b rest w =
    let h : n < length s = omega (arith, w.fits, ap length w.rest, length-drop n s) in
    let (e, f) = head_of (sym (at_cons s n h) ∙ w.rest) in
    record { inside = h; byte = e; after = record { fits = omega arith; rest = f } }

-- the front that passes a test, and what follows it
pub front_run : (test : ℕ → Bool) (s : List ℕ) (n : ℕ) {l rest : List ℕ} → drop n s ≡ l ++ rest → Every test l → Halts test rest → past test s n ≡ n + length l
unfolding past
front_run test s n {l} {rest} e p h =
    ap (λ (k : ℕ). n + k) ((run_iff test (drop n s) (length l)).1 (record { front = l; rest = rest; is_front = record { whole = e; passes = p; halts = h }; size = refl }))

pub record Passed (test : ℕ → Bool) (s : List ℕ) (n : ℕ) : Type 0 where
  pub front : List ℕ
  pub rest : List ℕ
  pub whole : drop n s ≡ front ++ rest
  pub passes : Every test front
  pub place : past test s n ≡ n + length front
  pub there : Left s (past test s n) rest

pub passed : (test : ℕ → Bool) (s : List ℕ) (n : ℕ) → n ≤ length s → Passed test s n
passed test s n h =
    let f = (run_iff test (drop n s) (run test (drop n s))).0 refl in
    let p = front_run test s n f.is_front.whole f.is_front.passes f.is_front.halts in
    record {
      front = f.front;
      rest = f.rest;
      whole = f.is_front.whole;
      passes = f.is_front.passes;
      place = p;
      there = rw p (left_after s n f.front f.rest h f.is_front.whole);
    }

-- ---- the end of a line
pub record LineAt (s : List ℕ) (n k : ℕ) : Type 0 where
  pub rest : List ℕ
  pub line : LineEnd (drop n s) rest
  pub place : Left s k rest
  pub onward : n ≤ k

pub at_inj : {d e : ℕ} → Some d ≡ Some e → d ≡ e
at_inj q = cc

never : {e : ℕ} → None ≡ Some e → ⊥
never q = let z : ◌≡◌ {A = ℕ} 0 1 = cc in omega arith

module _ (s : List ℕ) (n : ℕ) (h : n ≤ length s) where
  ended : (k : ℕ) {ending rest : List ℕ} → (p : Passed padding s n) → p.rest ≡ ending → EndOfLine ending rest → Left s k rest → past padding s n ≤ k → LineAt s n k
  ended k {ending} {rest} p e t w o =
      record {
        rest = rest;
        line = record { pad = p.front; ending = ending; whole = p.whole ∙ ap (λ (x : List ℕ). p.front ++ x) e; padded = p.passes; ended = t };
        place = w;
        onward = omega (arith, p.place);
      }

  line_sound : (k : ℕ) → line_after s n ≡ Some k → LineAt s n k
  unfolding line_after
  line_sound k q =
      let p = passed padding s n h in
      let i = past padding s n in
      by (leb (length s) i)
      (λ t.
      let e : i ≡ k = at_inj (rw t at q) in
      let nil : p.rest ≡ [] = sym p.there.rest ∙ drop_of_length-le s (leb-true (length s) i t) in
      ended k p nil end (rw (e, nil) at p.there) (omega arith))
      (λ f.
      by (eqb (get_or s i 0) 10)
      (λ t.
      let e : i + 1 ≡ k = at_inj (rw (f, t) at q) in
      let w : p.rest ≡ 10 ∷ drop (i + 1) s = sym p.there.rest ∙ at_cons s i (leb-false (length s) i f) ∙ ap (λ (x : ℕ). x ∷ drop (i + 1) s) (eqb-true (get_or s i 0) 10 t) in
      ended k p w feed (left_moved e (next_byte s i 10 (drop (i + 1) s) (rw w at p.there)).after) (omega arith))
      (λ t. absurd (never (rw (f, t) at q))))

  found_end : {k i : ℕ} {ending rest : List ℕ} → past padding s n ≡ i → EndOfLine ending rest → Left s i ending → Left s k rest → line_after s n ≡ Some k
  unfolding line_after
  found_end {k} {i} e (feed {rest}) w v =
      let b = next_byte s i 10 rest w in
      rw (e, lt-leb (length s) i b.inside, eq-eqb (get_or s i 0) 10 b.byte) (ap Some (left_one s rest (i + 1) k b.after v))
  found_end {k} {i} e end w v =
      rw (e, le-leb (length s) i (omega (arith, ap length w.rest, length-drop i s))) (ap Some (left_one s [] i k w v))

  line_halts : {ending rest : List ℕ} → EndOfLine ending rest → Halts padding ending
  line_halts feed = other refl
  line_halts end = empty

  pub line_complete : (k : ℕ) {rest : List ℕ} → LineEnd (drop n s) rest → Left s k rest → line_after s n ≡ Some k
  line_complete k l w =
      found_end (front_run padding s n l.whole l.padded (line_halts l.ended)) l.ended (left_after s n l.pad l.ending h l.whole) w

  end_place : {i : ℕ} {ending rest : List ℕ} → EndOfLine ending rest → Left s i ending → LeftByLine s rest
  end_place {i} (feed {rest}) w =
      let b = next_byte s i 10 rest w in
      let e : i + 1 - 1 ≡ i = omega arith in
      record { place = i + 1; left = b.after; ended = inl (ap (λ (j : ℕ). get_or s j 0) e ∙ b.byte) }
  end_place {i} end w = record { place = i; left = w; ended = inr (omega (arith, w.fits, ap length w.rest, length-drop i s)) }

  pub line_place : {rest : List ℕ} → LineEnd (drop n s) rest → LeftByLine s rest
  line_place l = end_place l.ended (left_after s n l.pad l.ending h l.whole)

  pub line_after_iff : (k : ℕ) → (line_after s n ≡ Some k) ↔ LineAt s n k
  line_after_iff k = (line_sound k, λ m. line_complete k m.line m.place)
