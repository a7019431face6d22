-- The ways through a turn of the loop over backticks, each premise a fact that the code has there; and one equation for each kind of start of a piece.
use Rattle.std.specs.Prelude.{None, Some}
use Prim.Native.Nat.{ℕ, ◌+◌, ◌≤◌}
use native.Mathlib.Omega.{arith}
use mathlib.Core.Path.{◌≡◌, ◌∙◌}
use mathlib.Core.List.{List}
use mathlib.Core.Bool.{true, false, not, ◌&&◌}
use borrow.Author.Tests.{eq-eqb, ne_eqb}
use lib.ListN.{get_or, drop}
use lib.Dec.{eqb}
use Rattle.scan.specs.Byte.{escapes}
use Rattle.scan.specs.Reading.{stop, next, run}
use Rattle.scan.proofs.Test.{by}
use Rattle.marking.specs.Marking.{image, opens, escape}
use Rattle.inline.specs.Pieces.{backtick, image_opens}
use Rattle.inline.specs.ReadingPieces.{Counted, count_after, run_step, run_done, piece, ticked, kind_of, bracket_or_text, piece_from}

module _ (n : ℕ) where
  module _ (t : Counted) (b : ℕ) (s : List ℕ) where
    pub closes : (not (backtick b) && eqb t.count n) ≡ true → run_step n t b s ≡ stop (Some t.at)
    unfolding run_step
    closes h = simp h

    pub passed : {c : ℕ} → (not (backtick b) && eqb t.count n) ≡ false → c ≡ count_after t.count b → run_step n t b s ≡ next (record { at = t.at + 1; count = c })
    unfolding run_step
    passed h e = simp (h, e)

  module _ (t : Counted) where
    pub ends_full : t.count ≡ n → run_done n t ≡ Some t.at
    unfolding run_done
    ends_full h = simp (eq-eqb t.count n h)

    pub ends_other : (t.count ≡ n → ⊥) → run_done n t ≡ None
    unfolding run_done
    ends_other h = simp (ne_eqb t.count n h)

-- no more backticks stand before a place than bytes
pub count_bounded : (c b : ℕ) {k i : ℕ} → k ≡ count_after c b → c ≤ i → k ≤ i + 1
unfolding count_after
count_bounded c b {k} {i} e h = by (backtick b) (λ t. let q = rw t at e in omega arith) (λ t. let q = rw t at e in omega arith)

-- ---- one equation for each kind of start
module _ (p : List ℕ) (a : ℕ) where
  pub from_escape : escapes (drop a p) ≡ true → piece_from p a ≡ piece escape a (a + 2)
  unfolding piece_from
  from_escape e = rw (piece_from, e)

  pub from_backticks : escapes (drop a p) ≡ false → backtick (get_or p a 0) ≡ true → piece_from p a ≡ ticked p a (run backtick (drop a p))
  unfolding piece_from
  from_backticks e t = rw (piece_from, e, t)

  module _ (e : escapes (drop a p) ≡ false) (t : backtick (get_or p a 0) ≡ false) where
    from_rest : piece_from p a ≡ bracket_or_text p a
    unfolding piece_from
    from_rest = rw (piece_from, e, t)

    pub from_image : image_opens (drop a p) ≡ true → piece_from p a ≡ piece (opens image) a (a + 2)
    from_image i = from_rest ∙ rw i

    pub from_byte : image_opens (drop a p) ≡ false → piece_from p a ≡ piece (kind_of (get_or p a 0)) a (a + 1)
    from_byte i = from_rest ∙ rw i
