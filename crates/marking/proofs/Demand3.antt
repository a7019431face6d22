-- Demand 3 for one paragraph: r is what its bytes say, and g a grammar that computes it. Exactly one marking meets the conditions;
-- the reading makes it, and the scan gives its spans and the first bracket too many.
use mathlib.Core.Path.{◌≡◌, refl, sym, ap, ◌∙◌, subst}
use mathlib.Core.Logic.{◌↔◌, ◌⊎◌, inl, inr}
use mathlib.Core.Option.{Option, none, some, some-injective}
use mathlib.Core.List.{List}
use Prim.Native.Nat.{ℕ, suc, ◌<◌}
use native.Mathlib.Omega.{arith}
use lib.ListN.{get_elem?}
use Rattle.marking.specs.Marking.{link, Piece, Rules, Marking, At, Paired, tail_piece, FollowsTaken, Meets}
use Rattle.marking.specs.Spans.{Span, code_span, pair_span, span_end, EndsBefore, SpansAre}
use Rattle.marking.specs.Open.{NeverOver, FirstOver}
use Rattle.marking.specs.Claims.{ExactlyOne, OnePairAtMost, PairsNest, TakenAsOpened, NoLinkHoldsALink, LinksApart, TailsOnlyAfterTaken}
use Rattle.marking.specs.ReadingRules.{Grammar, Computes}
use Rattle.marking.specs.Reading.{reading}
use Rattle.marking.specs.ReadingSpans.{spans, over}
use Rattle.marking.proofs.Sorted.{sorted_same}
use Rattle.marking.proofs.Pairs.{Taken, taken_are, taken_pair, one_partner}
use Rattle.marking.proofs.PairOrder.{one_closing_piece, apart_or_nested}
use Rattle.marking.proofs.Sound.{Sound, rules_of}
use Rattle.marking.proofs.Unique.{unique, not_both}
use Rattle.marking.proofs.Exists.{exists}
use Rattle.marking.proofs.Simulates.{spans_are_reading}
use Rattle.marking.proofs.Over.{Told, over_told, first_over_unique}
use Rattle.marking.proofs.Computes.{same_conditions}

-- ---- any marking that meets the conditions

module _ {T : Type 0} (r : Rules T) (m : Marking T) (c : Meets r m) where
  pub one_pair_at_most : OnePairAtMost m
  one_pair_at_most =
      record {
        for_opening = λ i j j' p p'. one_closing_piece m.pieces i j j' ((c.pairs_are i j).0 p) ((c.pairs_are i j').0 p');
        for_closing = λ i i' j p p'. one_partner m.pieces i i' j ((c.pairs_are i j).0 p) ((c.pairs_are i' j).0 p');
      }

  pub pairs_nest : PairsNest m
  pairs_nest i j i' j' p p' h = apart_or_nested m.pieces i j i' j' ((c.pairs_are i j).0 p) ((c.pairs_are i' j').0 p') h

  pub taken_as_opened : TakenAsOpened m
  taken_as_opened x i j t l =
      let d : Taken r x m i j t = (taken_are c x i j t).0 l in
      record { paired = d.paired; opening = record { piece = d.has_tail.open_piece; at = d.has_tail.open_at; is_kind = d.has_tail.of_sort } }

  pub no_link_holds_a_link : NoLinkHoldsALink m
  no_link_holds_a_link i j i' j' t t' l l' h h' = not_both (((c.links_are i j t).0 l).no_link_between i' j' h h') l'

  pub links_apart : LinksApart m
  links_apart i j i' j' t t' l l' h = by (apart_or_nested m.pieces i j i' j' (taken_pair c link i j t l) (taken_pair c link i' j' t' l') h)
    where
      by : (j < i') ⊎ (j' < j) → j < i'
      by (inl z) = z
      by (inr z) = absurd (no_link_holds_a_link i j i' j' t t' l l' h z)

  pub tails_only_after_taken : TailsOnlyAfterTaken r m
  tails_only_after_taken k q a e =
      let f : FollowsTaken m k = c.no_other_tails k q a e in
      let p : Paired m.pieces f.from f.to = taken_pair c f.sort f.from f.to f.with_tail f.taken in
      let x : Piece = tail_piece p.closed.piece (r.length_of f.with_tail) in
      let b : At m.pieces (suc f.to) x = c.tails f.sort f.from f.to f.with_tail p.closed.piece f.taken p.closed.at in
      record {
        sort = f.sort;
        from = f.from;
        to = f.to;
        with_tail = f.with_tail;
        taken = f.taken;
        close_piece = p.closed.piece;
        close_at = p.closed.at;
        next = f.next;
        is_tail = some-injective q x (sym a ∙ ap (get_elem? m.pieces) f.next ∙ b);
      }

-- the links, images and code spans of a marking have one list
pub spans_unique : {T : Type 0} (r : Rules T) (m : Marking T) (xs ys : List (Span T)) → SpansAre r m xs → SpansAre r m ys → xs ≡ ys
spans_unique r m xs ys a b =
    sorted_same (EndsBefore r) (λ x y z h h'. omega arith) (λ x h. omega arith) xs ys a.in_order b.in_order
    (λ z i. b.each z (a.no_others z i)) (λ z i. a.each z (b.no_others z i))

-- ---- where a grammar computes what the bytes say

module _ {T : Type 0} (r : Rules T) (g : Grammar T) (w : Computes r g) (sd : Sound g) where
  pub reading_meets : Meets r (reading g)
  reading_meets = (same_conditions r g w (reading g)).1 (exists g sd)

  pub is_reading : (m : Marking T) → Meets r m → m ≡ reading g
  is_reading m c = unique g m (reading g) ((same_conditions r g w m).0 c) (exists g sd)

  pub exactly_one : ExactlyOne r
  exactly_one = record { the_marking = reading g; meets = reading_meets; no_other = is_reading; every_other_breaks = λ m ne c. ne (is_reading m c) }

  same_end : (x : Span T) → span_end r x ≡ span_end (rules_of g) x
  same_end (code_span q) = refl
  same_end (pair_span x o c t) = omega (arith, w.lengths t)

  pub spans_of_any : (m : Marking T) → Meets r m → SpansAre r m (spans g)
  spans_of_any m c =
      let a : SpansAre (rules_of g) m (spans g) = subst (λ (y : Marking T). SpansAre (rules_of g) y (spans g)) (sym (is_reading m c)) (spans_are_reading g sd) in
      record { each = a.each; no_others = a.no_others; in_order = λ k x y p q. omega (arith, a.in_order k x y p q, same_end x, same_end y) }

  told : (limit : ℕ) (m : Marking T) → Meets r m → Told limit m (over limit g)
  told limit m c = subst (λ (y : Marking T). Told limit y (over limit g)) (sym (is_reading m c)) (over_told limit g sd)

  pub over_first : (limit : ℕ) (m : Marking T) → Meets r m → (p : ℕ) → (over limit g ≡ some p) ↔ FirstOver limit m p
  over_first limit m c p = ((told limit m c).first p, λ f. back f (over limit g) refl)
    where
      back : FirstOver limit m p → (o : Option ℕ) → over limit g ≡ o → o ≡ some p
      back f none e = absurd (omega (arith, f.too_many, (told limit m c).never e (suc f.index)))
      back f (some p') e = ap {B = Option ℕ} some (first_over_unique limit m p' p ((told limit m c).first p' e) f)

  pub over_never : (limit : ℕ) (m : Marking T) → Meets r m → (over limit g ≡ none) ↔ NeverOver limit m
  over_never limit m c = ((told limit m c).never, λ n. back n (over limit g) refl)
    where
      back : NeverOver limit m → (o : Option ℕ) → over limit g ≡ o → o ≡ none
      back n none e = refl
      back n (some p) e = let f : FirstOver limit m p = (told limit m c).first p e in absurd (omega (arith, f.too_many, n (suc f.index)))
