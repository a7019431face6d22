-- The spans so far and the brackets that are open, by the bytes that were passed: no more than the paragraph can have at the most.
use Rattle.std.specs.Prelude.{None, Option, Some}
use Prim.Native.Nat.{ℕ, ◌+◌, ◌-◌, ◌≤◌, ◌<◌}
use native.Mathlib.Omega.{arith}
use mathlib.Core.Path.{◌≡◌, refl, sym, ap, ◌∙◌}
use mathlib.Core.List.{List}
use mathlib.Core.Bool.{Bool, true, false, true≢false, not}
use borrow.Author.Tests.{ne_eqb, eqb-true, eqb-false}
use lib.Dec.{eqb}
use lib.ListN.{length, get_or, drop}
use lib.Seq.{get_or-drop}
use native.Mathlib.Nat.{add-zero}
use Rattle.scan.proofs.Test.{by, and_left}
use Rattle.scan.specs.Byte.{punctuation, escapes}
use Rattle.scan.specs.Reading.{run}
use Rattle.marking.specs.Marking.{nothing, role, plain, Piece}
use Rattle.marking.specs.Reading.{is_code}
use Rattle.inline.specs.Pieces.{backtick, image_opens, Backticks}
use Rattle.inline.specs.ReadingPieces.{piece, piece_from, span_or_text, closing_run}
use Rattle.inline.proofs.PieceBounds.{some_run}
use Rattle.inline.proofs.Ticks.{tick, ticks_in, ticks_end}
use Rattle.inline.proofs.CodeSpans.{closing_run_iff}
use Rattle.inline.proofs.Turns.{from_escape, from_backticks}
use Rattle.inline.proofs.Pieces.{image_bytes, at_plain}
use mathlib.Core.Logic.{inl, inr}
use Rattle.scan.proofs.Scan.{peek_inside}
use Rattle.scan.proofs.Every.{run_iff}
use Rattle.step.specs.Promise.{Opening}
use Rattle.most.specs.Most.{special, bit, ends, look, stays, held}
use Rattle.most.proofs.Counts.{ends_at, held_at, look_at, look_same, held_same, ends_later, held_later}

-- from row k on: r rows, and d brackets are open at place a of p
pub record SoFar (p : List ℕ) (k a r d : ℕ) : Type 0 where
  pub rows : r + ends (drop a p) ≤ k + ends p
  pub depth : d + held (drop a p) ≤ held p + bit (eqb (look (drop a p)) 93)

pub so_far_starts : (p : List ℕ) (k : ℕ) → SoFar p k 0 k 0
so_far_starts p k = record { rows = omega arith; depth = omega arith }

-- a `[` either may stay open, or a `]` comes next
one_of : (y : Bool) → bit (not y) + bit y ≡ 1
one_of true = omega arith
one_of false = omega arith

-- ---- from a to a' no more rows come than spans can end there
pub record Few (p : List ℕ) (a r a' r' : ℕ) : Type 0 where
  pub few_are : r' + ends (drop a' p) ≤ r + ends (drop a p)

module _ (p : List ℕ) (a : ℕ) {r a' r' : ℕ} (on : a < a') where
  pub few_none : r' ≡ r → Few p a r a' r'
  few_none e = record { few_are = omega (arith, ends_later p a a' (omega arith)) }

  pub few_close : a < length p → get_or p a 0 ≡ 93 → r' ≤ r + 1 → Few p a r a' r'
  few_close h c e =
      let z : ends (drop a p) ≡ 1 + ends (drop (a + 1) p) = ends_at p a h ∙ rw c refl in
      record { few_are = omega (arith, ends_later p (a + 1) a' (omega arith)) }

-- the last backtick of a run, at place j
ends_tick : (p : List ℕ) (j : ℕ) → tick p j ≡ true → tick p (j + 1) ≡ false → ends (drop j p) ≡ 1 + ends (drop (j + 1) p)
ends_tick p j t n =
    let b : get_or p j 0 ≡ 96 = eqb-true (get_or p j 0) 96 t in
    ends_at p j (peek_inside p j (λ q. omega arith)) ∙ rw (b, n) refl

-- a code span from a ends with the last backtick of a run
abbrev pub CodeEnds : List ℕ → ℕ → Piece → Type 0
CodeEnds p a q = is_code q.kind ≡ true → 1 + ends (drop q.end p) ≤ ends (drop a p)

module _ (p : List ℕ) (a n : ℕ) (r : Backticks p a n) where
  code_ends : (f : Option ℕ) → closing_run n (drop (a + n) p) (a + n) ≡ f → CodeEnds p a (span_or_text a (a + n) f)
  code_ends (Some e) q c =
      let m = (closing_run_iff p (a + n) n r.nonempty (ticks_end p a n r) e).0 q in
      let u = m.first.run.run in
      let some = u.nonempty in
      let j = m.place + (n - 1) in
      let i : m.place + n ≡ j + 1 = omega arith in
      let z = ends_tick p j (ticks_in p m.place n u (n - 1) (omega arith)) (rw i at (ticks_end p m.place n u)) in
      let g : e ≡ j + 1 = omega (arith, m.ends) in
      rw g (omega (arith, ends_later p a j (omega (arith, m.first.later))))
  code_ends None q c = absurd (true≢false (sym c))

-- ---- one piece further, past the byte at a
module _ (p : List ℕ) (k a r d : ℕ) (h : a < length p) (x : SoFar p k a r d) {a' r' : ℕ} (on : a < a') (few : Few p a r a' r') where
  rows_on : r' + ends (drop a' p) ≤ k + ends p
  rows_on = omega (arith, x.rows, few.few_are)

  module _ {d' : ℕ} where
    -- a backtick or a backslash
    pub next_mark : special (get_or p a 0) ≡ true → (get_or p a 0 ≡ 93 → ⊥) → d' ≡ d → SoFar p k a' r' d'
    next_mark s n e =
        let l : look (drop a p) ≡ get_or p a 0 = look_at p a h ∙ rw s refl in
        let z = rw (l, ne_eqb (get_or p a 0) 93 n) at x.depth in
        record { rows = rows_on; depth = omega (arith, z, held_later p a a' (omega arith)) }

    -- plain text
    pub next_text : special (get_or p a 0) ≡ false → a' ≡ a + 1 → d' ≡ d → SoFar p k a' r' d'
    next_text s ea e = record { rows = rows_on; depth = rw (ea, e, look_same p a h s, held_same p a h s) x.depth }

    pub next_close : get_or p a 0 ≡ 93 → d' ≡ d - 1 → SoFar p k a' r' d'
    next_close c e =
        let b : bit (eqb (look (drop a p)) 93) ≤ 1 = by (eqb (look (drop a p)) 93) (λ q. rw q (omega arith)) (λ q. rw q (omega arith)) in
        record { rows = rows_on; depth = omega (arith, x.depth, b, held_later p a a' (omega arith), held_later p 0 a' (omega arith)) }

    -- a `[` at b, from which on as much is held and looked for as from a
    opens_at : (b : ℕ) → b < length p → get_or p b 0 ≡ 91 → look (drop b p) ≡ look (drop a p) → held (drop b p) ≡ held (drop a p) → a' ≡ b + 1 → d' ≡ d + 1 → SoFar p k a' r' d'
    opens_at b g c el eh ea e =
        let l : look (drop a p) ≡ 91 = sym el ∙ look_at p b g ∙ rw c refl in
        let z = rw l at x.depth in
        let y : held (drop a p) ≡ bit (stays (drop (b + 1) p)) + held (drop (b + 1) p) = sym eh ∙ held_at p b g ∙ rw c refl in
        record { rows = rows_on; depth = rw ea (omega (arith, z, y, one_of (eqb (look (drop (b + 1) p)) 93))) }

    pub next_open : get_or p a 0 ≡ 91 → a' ≡ a + 1 → d' ≡ d + 1 → SoFar p k a' r' d'
    next_open c = opens_at a h c refl refl

    pub next_image : get_or p a 0 ≡ 33 → a + 1 < length p → get_or p (a + 1) 0 ≡ 91 → a' ≡ a + 2 → d' ≡ d + 1 → SoFar p k a' r' d'
    next_image m g c ea =
        let s : special (get_or p a 0) ≡ false = rw m refl in
        opens_at (a + 1) g c (look_same p a h s) (held_same p a h s) (omega arith)

-- ---- what starts at a place, by its first byte
pub data Begins (p : List ℕ) (a : ℕ) : Type 0 where
  mark : special (get_or p a 0) ≡ true → (get_or p a 0 ≡ 93 → ⊥) → CodeEnds p a (piece_from p a) → role (piece_from p a).kind ≡ nothing → Begins p a
  text : special (get_or p a 0) ≡ false → piece_from p a ≡ piece plain a (a + 1) → Begins p a
  close : get_or p a 0 ≡ 93 → Begins p a
  link : get_or p a 0 ≡ 91 → Begins p a
  image : get_or p a 0 ≡ 33 → get_or p (a + 1) 0 ≡ 91 → image_opens (drop a p) ≡ true → Begins p a

run_role : (a e : ℕ) (f : Option ℕ) → role (span_or_text a e f).kind ≡ nothing
run_role a e (Some c) = refl
run_role a e None = refl

module _ (p : List ℕ) (a : ℕ) where
  escaped : escapes (drop a p) ≡ true → Begins p a
  escaped e =
      let b : get_or p a 0 ≡ 92 = rw (get_or-drop, add-zero) at (eqb-true (get_or (drop a p) 0 0) 92 (and_left _ (punctuation (get_or (drop a p) 1 0)) e)) in
      mark (rw b refl) (λ q. omega arith) (λ q. absurd (true≢false (sym q ∙ ap (λ (x : Piece). is_code x.kind) (from_escape p a e)))) (ap (λ (x : Piece). role x.kind) (from_escape p a e))

  ticks : escapes (drop a p) ≡ false → backtick (get_or p a 0) ≡ true → Begins p a
  ticks e t =
      let b : get_or p a 0 ≡ 96 = eqb-true (get_or p a 0) 96 t in
      let n = a + run backtick (drop a p) in
      let i : a < length p = peek_inside p a (λ q. omega arith) in
      let m : Backticks p a (run backtick (drop a p)) = record { nonempty = some_run p a i t; run = (run_iff backtick (drop a p) (run backtick (drop a p))).0 refl } in
      mark (rw b refl) (λ q. omega arith) (rw (from_backticks p a e t) (code_ends p a (run backtick (drop a p)) m (closing_run (run backtick (drop a p)) (drop n p) n) refl))
      (ap (λ (x : Piece). role x.kind) (from_backticks p a e t) ∙ run_role a n (closing_run (run backtick (drop a p)) (drop n p) n))

  others : escapes (drop a p) ≡ false → (get_or p a 0 ≡ 96 → ⊥) → (get_or p a 0 ≡ 91 → ⊥) → (get_or p a 0 ≡ 93 → ⊥) → image_opens (drop a p) ≡ false → Begins p a
  others e t o c i =
      by (eqb (get_or p a 0) 92)
      (λ q. mark (rw (eqb-true (get_or p a 0) 92 q) refl) c (λ y. absurd (true≢false (sym y ∙ ap (λ (x : Piece). is_code x.kind) piece_is))) (ap (λ (x : Piece). role x.kind) piece_is))
      (λ q. text (simp (ne_eqb (get_or p a 0) 91 o, ne_eqb (get_or p a 0) 93 c, ne_eqb (get_or p a 0) 96 t, q)) piece_is)
    where
      piece_is : piece_from p a ≡ piece plain a (a + 1)
      piece_is = at_plain p a e i (simp (ne_eqb (get_or p a 0) 91 o, ne_eqb (get_or p a 0) 93 c, ne_eqb (get_or p a 0) 96 t))

  pub begins : Begins p a
  begins =
      by (eqb (get_or p a 0) 91) (λ o. link (eqb-true (get_or p a 0) 91 o))
      (λ o. by (eqb (get_or p a 0) 93) (λ c. close (eqb-true (get_or p a 0) 93 c))
      (λ c. by (image_opens (drop a p)) (λ i. let (m, n) = image_bytes p a i in image m n i)
      (λ i. by (escapes (drop a p)) escaped
      (λ e. by (backtick (get_or p a 0)) (ticks e)
      (λ t. others e (eqb-false (get_or p a 0) 96 t) (eqb-false (get_or p a 0) 91 o) (eqb-false (get_or p a 0) 93 c) i)))))

-- ---- where a bracket opens, all that are open are held
looks_open : (p : List ℕ) (a : ℕ) → a < length p → Opening p a → look (drop a p) ≡ 91
looks_open p a h (inl e) = look_at p a h ∙ rw e refl
looks_open p a h (inr e) =
    let (m, n) = image_bytes p a e in
    let s : special (get_or p a 0) ≡ false = rw m refl in
    sym (look_same p a h s) ∙ look_at p (a + 1) (peek_inside p (a + 1) (λ q. omega arith)) ∙ rw n refl

pub held_deep : (p : List ℕ) (k a r : ℕ) {d : ℕ} → SoFar p k a r d → a < length p → {n : ℕ} → d ≡ n → Opening p a → n ≤ held p
held_deep p k a r x h e i = let z = rw (looks_open p a h i) at x.depth in omega arith
