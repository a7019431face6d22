-- A marking that goes on from another has as many brackets open at every point of the other.
use mathlib.Core.Path.{◌≡◌, refl, sym, ◌∙◌}
use mathlib.Core.List.{List}
use Prim.Native.Nat.{ℕ, ◌≤◌, ◌<◌}
use native.Mathlib.Omega.{arith}
use lib.ListN.{length, take}
use Rattle.marking.specs.Marking.{Rules, Marking, Meets}
use Rattle.marking.specs.Open.{open_brackets}
use Rattle.marking.proofs.Lists.{same_take, at_inside}
use Rattle.marking.proofs.Pairs.{plays_local, pair_inside}
use Rattle.marking.proofs.OpenList.{OpenAt, OpenAre, open_list, listed, number_is}

pub record Keeps {T : Type 0} (m m' : Marking T) : Type 0 where
  pub size_grows : length m.pieces ≤ length m'.pieces
  pub pieces_kept : take (length m.pieces) m.pieces ≡ take (length m.pieces) m'.pieces
  pub pairs_kept : (i j : ℕ) → j < length m.pieces → m'.pairs i j ≡ m.pairs i j

pub keeps_self : {T : Type 0} (m : Marking T) → Keeps m m
keeps_self m = record { size_grows = omega arith; pieces_kept = refl; pairs_kept = λ i j h. refl }

pub keeps_chain : {T : Type 0} (a b c : Marking T) → Keeps a b → Keeps b c → Keeps a c
keeps_chain a b c p q =
    record {
      size_grows = omega (arith, p.size_grows, q.size_grows);
      pieces_kept = p.pieces_kept ∙ same_take (length b.pieces) b.pieces c.pieces (length a.pieces) q.pieces_kept p.size_grows;
      pairs_kept = λ i j h. q.pairs_kept i j (omega (arith, p.size_grows)) ∙ p.pairs_kept i j h;
    }

module _ {T : Type 0} (m m' : Marking T) (w : Keeps m m') (k : ℕ) (hk : k ≤ length m.pieces) where
  open_on : (i : ℕ) → OpenAt m k i → OpenAt m' k i
  open_on i o =
      record {
        bracket = plays_local (length m.pieces) m.pieces m'.pieces i w.pieces_kept (omega (arith, o.before)) o.bracket;
        before = o.before;
        unpaired = λ j h p. o.unpaired j h (sym (w.pairs_kept i j (omega arith)) ∙ p);
      }

  open_off : (i : ℕ) → OpenAt m' k i → OpenAt m k i
  open_off i o =
      record {
        bracket = plays_local (length m.pieces) m'.pieces m.pieces i (sym w.pieces_kept) (omega (arith, o.before)) o.bracket;
        before = o.before;
        unpaired = λ j h p. o.unpaired j h (w.pairs_kept i j (omega arith) ∙ p);
      }

  pub number_on : (xs : List ℕ) → OpenAre m k xs → open_brackets m' k ≡ length xs
  number_on xs a = number_is m' k xs (record { each = λ i o. a.each i (open_off i o); no_others = λ i h. open_on i (a.no_others i h); falling = a.falling })

  pub number_kept : open_brackets m' k ≡ open_brackets m k
  number_kept = number_on (open_list m k) (listed m k) ∙ sym (number_is m k (open_list m k) (listed m k))

-- past the last piece nothing opens and nothing is paired
pub number_beyond : {T : Type 0} {r : Rules T} (m : Marking T) → Meets r m → (k : ℕ) → length m.pieces ≤ k → open_brackets m k ≡ open_brackets m (length m.pieces)
number_beyond m c k h =
    let a : OpenAre m k (open_list m k) = listed m k in
    number_is m k (open_list m k) a
    ∙ sym (number_is m (length m.pieces) (open_list m k) (record { each = λ i o. a.each i (on i o); no_others = λ i p. off i (a.no_others i p); falling = a.falling }))
  where
    on : (i : ℕ) → OpenAt m (length m.pieces) i → OpenAt m k i
    on i o = record { bracket = o.bracket; before = omega (arith, o.before); unpaired = λ j hj p. o.unpaired j (pair_inside ((c.pairs_are i j).0 p)) p }

    off : (i : ℕ) → OpenAt m k i → OpenAt m (length m.pieces) i
    off i o = record { bracket = o.bracket; before = at_inside m.pieces i o.bracket.piece o.bracket.at; unpaired = λ j hj p. o.unpaired j (omega arith) p }
