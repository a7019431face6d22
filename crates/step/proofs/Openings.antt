-- What opens at a place, `[` or `![`: where it ends, and its piece.
use Rattle.std.specs.Prelude.{Option, None, Some}
use Prim.Native.Nat.{ℕ, ◌+◌, ◌≤◌, ◌<◌}
use native.Mathlib.Omega.{arith}
use mathlib.Core.Path.{◌≡◌, sym, ap, ◌∙◌}
use mathlib.Core.Bool.{Bool, true, false}
use mathlib.Core.Logic.{inl, inr}
use mathlib.Core.List.{List}
use borrow.Author.Tests.{eq-eqb, ne_eqb, eqb-true, eqb-false}
use lib.Dec.{eqb}
use lib.ListN.{length, get_or, drop}
use Rattle.scan.proofs.Test.{by}
use Rattle.marking.specs.Marking.{opens}
use Rattle.inline.specs.Pieces.{image_opens}
use Rattle.inline.specs.ReadingPieces.{piece, piece_from}
use Rattle.inline.proofs.Pieces.{no_image, image_bytes, at_open, at_image}
use Rattle.inline.proofs.PieceBounds.{sized}
use Rattle.link.specs.Reading.{sort_by, text_from}
use Rattle.step.specs.Promise.{opening_end, Opening, is_image, open_end}

pub text_after : (b : Bool) (o : ℕ) → (o < text_from b o) × (text_from b o ≤ o + 2)
text_after true o = omega arith
text_after false o = omega arith

-- a piece that ends at place n opens at place a
pub record Opens (p : List ℕ) (a n : ℕ) : Type 0 where
  pub opening : Opening p a
  pub ends : open_end p a ≡ n

module _ (p : List ℕ) (a : ℕ) where
  pub none_other : (get_or p a 0 ≡ 91 → ⊥) → (get_or p a 0 ≡ 33 → ⊥) → opening_end p a ≡ None
  none_other n m = rw (ne_eqb (get_or p a 0) 91 n, no_image p a m)

  -- ---- the piece
  link_there : get_or p a 0 ≡ 91 → is_image p a ≡ false
  link_there e = ne_eqb (get_or p a 0) 33 (λ q. omega arith)

  image_there : image_opens (drop a p) ≡ true → is_image p a ≡ true
  image_there e = eq-eqb (get_or p a 0) 33 (image_bytes p a e).0

  pub at_opening : Opening p a → piece_from p a ≡ piece (opens (sort_by (is_image p a))) a (open_end p a)
  at_opening (inl e) = at_open p a e ∙ ap (λ (b : Bool). piece (opens (sort_by b)) a (text_from b a)) (sym (link_there e))
  at_opening (inr e) = at_image p a e ∙ ap (λ (b : Bool). piece (opens (sort_by b)) a (text_from b a)) (sym (image_there e))

  -- ---- what an end tells
  pub opens_there : {n : ℕ} → opening_end p a ≡ Some n → Opens p a n
  opens_there {n} e =
      by (eqb (get_or p a 0) 91)
      (λ q. let s : Some (a + 1) ≡ Some n = rw q at e in let m : a + 1 ≡ n = cc in let l = eqb-true (get_or p a 0) 91 q in record { opening = inl l; ends = rw (link_there l, m) })
      (λ q. by (image_opens (drop a p))
      (λ i. let s : Some (a + 2) ≡ Some n = rw (q, i) at e in let m : a + 2 ≡ n = cc in record { opening = inr i; ends = rw (image_there i, m) })
      (λ i. let s : None ≡ Some n = rw (q, i) at e in cc))

  pub none_there : opening_end p a ≡ None → (get_or p a 0 ≡ 91 → ⊥) × (image_opens (drop a p) ≡ false)
  none_there e =
      by (eqb (get_or p a 0) 91) (λ q. let s : Some (a + 1) ≡ None = rw q at e in cc)
      (λ q. (eqb-false (get_or p a 0) 91 q, by (image_opens (drop a p)) (λ i. let s : Some (a + 2) ≡ None = rw (q, i) at e in cc) (λ i. i)))

  -- it ends within the text
  pub opening_inside : {n : ℕ} → Opens p a n → a < length p → n ≤ length p
  opening_inside o h = rw (at_opening o.opening, o.ends) at (sized p a h).within

  pub opening_onward : {n : ℕ} → Opens p a n → a < n
  opening_onward o = omega (arith, text_after (is_image p a) a, o.ends)
