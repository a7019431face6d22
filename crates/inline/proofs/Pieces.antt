-- The piece at a place, by the bytes there.
use Prim.Native.Nat.{ℕ, ◌+◌}
use native.Mathlib.Nat.{add-zero}
use native.Mathlib.Omega.{arith}
use mathlib.Core.Path.{◌≡◌, refl, sym, ap, ◌∙◌}
use mathlib.Core.Bool.{Bool, true, false, true≢false, cond, ◌&&◌, ◌||◌}
use mathlib.Core.List.{List}
use borrow.Author.Tests.{ne_eqb, eqb-true}
use lib.Dec.{eqb}
use lib.ListN.{get_or, drop}
use lib.Seq.{get_or-drop}
use Rattle.scan.specs.Byte.{escapes}
use Rattle.scan.proofs.Test.{and_left, and_right, neither}
use Rattle.marking.specs.Marking.{link, image, opens, closes, plain}
use Rattle.marking.specs.Reading.{is_code}
use Rattle.inline.specs.Pieces.{backtick, image_opens, marks}
use Rattle.inline.specs.ReadingPieces.{quiet, piece, kind_of, piece_from}
use Rattle.inline.proofs.Turns.{from_image, from_byte}

module _ (p : List ℕ) (a : ℕ) where
  pub no_escape : (get_or p a 0 ≡ 92 → ⊥) → escapes (drop a p) ≡ false
  no_escape n = rw (get_or-drop, add-zero, ne_eqb (get_or p a 0) 92 n)

  -- ---- whether `![` stands there, by the two bytes
  pub an_image_opens : image_opens (drop a p) ≡ (eqb (get_or p a 0) 33 && eqb (get_or p (a + 1) 0) 91)
  an_image_opens = rw (get_or-drop a p 0 0, get_or-drop a p 1 0, add-zero)

  pub no_image : (get_or p a 0 ≡ 33 → ⊥) → image_opens (drop a p) ≡ false
  no_image n = an_image_opens ∙ rw (ne_eqb (get_or p a 0) 33 n)

  pub image_bytes : image_opens (drop a p) ≡ true → (get_or p a 0 ≡ 33) × (get_or p (a + 1) 0 ≡ 91)
  image_bytes e =
      let both : (eqb (get_or p a 0) 33 && eqb (get_or p (a + 1) 0) 91) ≡ true = sym an_image_opens ∙ e in (
        eqb-true (get_or p a 0) 33 (and_left (eqb (get_or p a 0) 33) (eqb (get_or p (a + 1) 0) 91) both),
        eqb-true (get_or p (a + 1) 0) 91 (and_right (eqb (get_or p a 0) 33) (eqb (get_or p (a + 1) 0) 91) both),
      )

  -- ---- the piece
  at_byte : (b : ℕ) → get_or p a 0 ≡ b → (b ≡ 92 → ⊥) → (b ≡ 96 → ⊥) → (b ≡ 33 → ⊥) → piece_from p a ≡ piece (kind_of b) a (a + 1)
  at_byte b e n m k =
      from_byte p a (no_escape (λ q. n (sym e ∙ q))) (ne_eqb (get_or p a 0) 96 (λ q. m (sym e ∙ q))) (no_image (λ q. k (sym e ∙ q)))
      ∙ ap (λ (x : ℕ). piece (kind_of x) a (a + 1)) e

  pub at_open : get_or p a 0 ≡ 91 → piece_from p a ≡ piece (opens link) a (a + 1)
  at_open e = at_byte 91 e (λ q. omega arith) (λ q. omega arith) (λ q. omega arith)

  pub at_image : image_opens (drop a p) ≡ true → piece_from p a ≡ piece (opens image) a (a + 2)
  at_image e =
      let (b, c) = image_bytes e in
      from_image p a (no_escape (λ q. omega arith)) (ne_eqb (get_or p a 0) 96 (λ q. omega arith)) e

  pub at_close : get_or p a 0 ≡ 93 → piece_from p a ≡ piece closes a (a + 1)
  at_close e = at_byte 93 e (λ q. omega arith) (λ q. omega arith) (λ q. omega arith)

  -- a byte that starts nothing else
  pub at_plain : escapes (drop a p) ≡ false → image_opens (drop a p) ≡ false → marks (get_or p a 0) ≡ false → piece_from p a ≡ piece plain a (a + 1)
  at_plain e i m =
      let (x, c) = neither (backtick (get_or p a 0) || eqb (get_or p a 0) 91) (eqb (get_or p a 0) 93) m in
      let (t, o) = neither (backtick (get_or p a 0)) (eqb (get_or p a 0) 91) x in
      from_byte p a e t i ∙ simp (o, c)

  -- a byte that is plain text whatever follows
  module _ (e : quiet (get_or p a 0) ≡ true) where
    pub quiet_other : (b : ℕ) → quiet b ≡ false → get_or p a 0 ≡ b → ⊥
    quiet_other b f q = true≢false (sym e ∙ ap quiet q ∙ f)

    pub at_quiet : piece_from p a ≡ piece plain a (a + 1)
    at_quiet =
        at_plain (no_escape (quiet_other 92 refl)) (no_image (quiet_other 33 refl))
        (rw (ne_eqb (get_or p a 0) 96 (quiet_other 96 refl), ne_eqb (get_or p a 0) 91 (quiet_other 91 refl), ne_eqb (get_or p a 0) 93 (quiet_other 93 refl)))

pub byte_no_code : (b : ℕ) → is_code (kind_of b) ≡ false
byte_no_code b = by_tests (eqb b 91) (eqb b 93)
  where
    by_tests : (x y : Bool) → is_code (cond x (opens link) (cond y closes plain)) ≡ false
    by_tests true y = refl
    by_tests false true = refl
    by_tests false false = refl
