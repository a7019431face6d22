-- What starts at a place of a paragraph lies within the paragraph.
use Rattle.std.specs.Prelude.{None, Option, Some}
use Prim.Native.Nat.{ℕ, ◌+◌, ◌≤◌, ◌<◌}
use native.Mathlib.Omega.{arith}
use mathlib.Core.Path.{◌≡◌, refl, sym, ap, ◌∙◌, subst}
use mathlib.Core.Logic.{◌≢◌}
use mathlib.Core.List.{List, [], ◌∷◌}
use mathlib.Core.Bool.{Bool, true, false, true≢false, cond, not, ◌&&◌}
use lib.ListN.{length, get_or, drop, length-drop}
use lib.Dec.{eqb}
use Rattle.scan.proofs.Test.{by, and_right}
use Rattle.scan.specs.Byte.{punctuation, escapes}
use Rattle.scan.proofs.Scan.{peek_inside, Outcome, scan_holds, at_cons, run_yes}
pub use Rattle.scan.proofs.Scan.{run_fits}
use Rattle.scan.specs.Reading.{run}
use Rattle.marking.specs.Marking.{Kind, Piece, link, image, escape, code, plain, opens, closes, role, closing, trailing}
use Rattle.marking.proofs.Roles.{nothing≢closing, nothing≢trailing, opening≢closing, opening≢trailing, closing≢trailing}
use Rattle.inline.specs.Pieces.{backtick, image_opens}
use Rattle.inline.specs.ReadingPieces.{Counted, run_step, run_done, closing_run, piece, span_or_text, kind_of, piece_from}
use Rattle.inline.proofs.Turns.{from_escape, from_backticks, from_image, from_byte}

-- ---- the run that closes a code span
abbrev EndsIn : ℕ → ℕ → Option ℕ → Type 0
EndsIn lo hi (Some e) = (lo ≤ e) × (e ≤ hi)
EndsIn lo hi None = Unit {0}

module _ (n lo hi : ℕ) where
  abbrev Reached : Counted → List ℕ → Type 0
  Reached t l = (lo ≤ t.at) × (t.at + length l ≡ hi)

  turn : (t : Counted) (b : ℕ) (s : List ℕ) → Reached t (b ∷ s) → Outcome Reached (EndsIn lo hi) s (run_step n t b (b ∷ s))
  unfolding run_step
  turn t b s (h, k) = by (not (backtick b) && eqb t.count n) (λ e. rw e (omega arith)) (λ e. rw e (omega arith))

  last : (t : Counted) → Reached t [] → EndsIn lo hi (run_done n t)
  unfolding run_done
  last t (h, k) = by (eqb t.count n) (λ e. rw e (omega arith)) (λ e. rw e tt)

closing_run_ends : (n : ℕ) (s : List ℕ) (at : ℕ) → EndsIn at (at + length s) (closing_run n s at)
unfolding closing_run
closing_run_ends n s at =
    scan_holds (run_step n) (run_done n) _ (EndsIn at (at + length s)) (turn n at (at + length s)) (last n at (at + length s)) s (record { at = at; count = 0 }) (omega arith)

pub closing_run_within : (n : ℕ) (s : List ℕ) (at e : ℕ) → closing_run n s at ≡ Some e → (at ≤ e) × (e ≤ at + length s)
closing_run_within n s at e q = subst (EndsIn at (at + length s)) q (closing_run_ends n s at)

-- ---- the piece that starts at a place
-- it starts there, takes up a byte or more, and is no tail; a closing piece takes up one byte
pub record Sized (p : List ℕ) (a : ℕ) (q : Piece) : Type 0 where
  pub starts : q.start ≡ a
  pub grows : a < q.end
  pub within : q.end ≤ length p
  pub no_tail : role q.kind ≢ trailing
  pub one_byte : role q.kind ≡ closing → q.end ≡ a + 1

single_kind : (b c : Bool) → role (cond b (opens link) (cond c closes plain)) ≢ trailing
single_kind true c = opening≢trailing
single_kind false true = closing≢trailing
single_kind false false = nothing≢trailing

module _ (p : List ℕ) (a : ℕ) (h : a < length p) where
  -- a piece that is neither closing bracket nor tail
  other : (k : Kind) (e : ℕ) → role k ≢ closing → role k ≢ trailing → a < e → e ≤ length p → Sized p a (piece k a e)
  other k e c t g w = record { starts = refl; grows = g; within = w; no_tail = t; one_byte = λ r. absurd (c r) }

  -- two bytes stand there, of which the second passes a test
  two_bytes : (test : ℕ → Bool) → test 0 ≡ false → (b : Bool) → (b && test (get_or (drop a p) 1 0)) ≡ true → a + 2 ≤ length p
  two_bytes test f b e =
      let two = peek_inside (drop a p) 1 (λ z. true≢false (sym (and_right b (test (get_or (drop a p) 1 0)) e) ∙ ap test z ∙ f)) in
      omega (arith, length-drop a p)

  escape_sized : escapes (drop a p) ≡ true → Sized p a (piece escape a (a + 2))
  escape_sized e = other escape (a + 2) nothing≢closing nothing≢trailing (omega arith) (two_bytes punctuation refl (eqb (get_or (drop a p) 0 0) 92) e)

  image_sized : image_opens (drop a p) ≡ true → Sized p a (piece (opens image) a (a + 2))
  image_sized e =
      other (opens image) (a + 2) opening≢closing opening≢trailing (omega arith) (two_bytes (λ b. eqb b 91) refl (eqb (get_or (drop a p) 0 0) 33) e)

  ticked_sized : (n : ℕ) (f : Option ℕ) → 0 < n → a + n ≤ length p → EndsIn (a + n) (length p) f → Sized p a (span_or_text a (a + n) f)
  ticked_sized n (Some c) k l i = other code c nothing≢closing nothing≢trailing (omega arith) (omega arith)
  ticked_sized n None k l i = other plain (a + n) nothing≢closing nothing≢trailing (omega arith) l

  byte_sized : Sized p a (piece (kind_of (get_or p a 0)) a (a + 1))
  byte_sized = record { starts = refl; grows = omega arith; within = omega arith; no_tail = single_kind (eqb (get_or p a 0) 91) (eqb (get_or p a 0) 93); one_byte = λ t. refl }

  pub some_run : backtick (get_or p a 0) ≡ true → 0 < run backtick (drop a p)
  some_run t = rw (at_cons p a h, run_yes backtick (get_or p a 0) (drop (a + 1) p) t) (omega arith)

  pub sized : Sized p a (piece_from p a)
  sized =
      by (escapes (drop a p)) (λ e. rw (from_escape p a e) (escape_sized e))
      (λ e. by (backtick (get_or p a 0))
      (λ t.
      let n = run backtick (drop a p) in
      let f : a + n ≤ length p = omega (arith, run_fits backtick (drop a p), length-drop a p) in
      let l : a + n + length (drop (a + n) p) ≡ length p = omega (arith, length-drop (a + n) p) in
      rw (from_backticks p a e t) (ticked_sized n (closing_run n (drop (a + n) p) (a + n)) (some_run t) f (rw l at (closing_run_ends n (drop (a + n) p) (a + n)))))
      (λ t. by (image_opens (drop a p)) (λ i. rw (from_image p a e t i) (image_sized i)) (λ i. rw (from_byte p a e t i) byte_sized)))
