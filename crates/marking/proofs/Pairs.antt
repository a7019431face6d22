-- A pair by the pieces before its closing piece, which is how the reading meets it; what of a pair depends on the first pieces only; and links and
-- images at once.
use mathlib.Core.Path.{◌≡◌, refl, sym, ◌∙◌, subst}
use mathlib.Core.Logic.Iff
use mathlib.Core.Logic.{◌↔◌}
use mathlib.Core.Bool.{true}
use mathlib.Core.Option.{none, some}
use mathlib.Core.List.{List}
use Prim.Native.Nat.{ℕ, suc, ◌<◌}
use native.Mathlib.Decide.{dec_lt}
use native.Mathlib.Omega.{arith}
use lib.ListN.{length, take, drop, length-take}
use Rattle.marking.specs.Marking.{Sort, link, image, Role, opening, closing, Piece, Plays, openings, closings, Paired, Rules, Marking, chosen, HasTail, Linked, Imaged, Meets}
use Rattle.marking.proofs.Lists.{get_elem?_take, same_take, same_at, at_inside}
use Rattle.marking.proofs.Roles.{image≢link}

-- after piece i stand equally many opening and closing pieces
abbrev pub BalancedAfter : List Piece → ℕ → Type 0
BalancedAfter ps i = openings (drop (suc i) ps) ≡ closings (drop (suc i) ps)

-- i is the last opening piece of ps after which stand equally many opening and closing pieces
pub record LastBalanced (ps : List Piece) (i : ℕ) : Type 0 where
  pub opened : Plays opening ps i
  pub balanced : BalancedAfter ps i
  pub last : (k : ℕ) → i < k → Plays opening ps k → BalancedAfter ps k → ⊥

module _ (ps : List Piece) (j : ℕ) where
  plays_in : {r : Role} (i : ℕ) → i < j → Plays r ps i → Plays r (take j ps) i
  plays_in i h p = record { piece = p.piece; at = get_elem?_take j i ps h ∙ p.at; as_role = p.as_role }

  in_before : {r : Role} (i : ℕ) → Plays r (take j ps) i → i < j
  in_before i p = omega (arith, at_inside (take j ps) i p.piece p.at, length-take j ps)

  plays_out : {r : Role} (i : ℕ) → Plays r (take j ps) i → Plays r ps i
  plays_out i p = record { piece = p.piece; at = sym (get_elem?_take j i ps (in_before i p)) ∙ p.at; as_role = p.as_role }

  -- the pieces before the closing piece end in its pair's inside
  pub partner : (i : ℕ) → Paired ps i j → LastBalanced (take j ps) i
  partner i p = record { opened = plays_in i p.before p.opened; balanced = p.balanced; last = λ k h o e. p.last k (omega arith) (in_before k o) (plays_out k o) e }

  pub pair_of : (i : ℕ) → Plays closing ps j → LastBalanced (take j ps) i → Paired ps i j
  pair_of i c l =
      record {
        closed = c;
        opened = plays_out i l.opened;
        before = in_before i l.opened;
        balanced = l.balanced;
        last = λ k h h' o e. l.last k (omega arith) (plays_in k h' o) e;
      }

pub pair_inside : {ps : List Piece} {i j : ℕ} → Paired ps i j → j < length ps
pair_inside {ps} {i} {j} p = at_inside ps j p.closed.piece p.closed.at

-- ---- what depends on the first k pieces only

pub plays_local : {r : Role} (k : ℕ) (ps ps' : List Piece) (i : ℕ) → take k ps ≡ take k ps' → i < k → Plays r ps i → Plays r ps' i
plays_local k ps ps' i e h c = record { piece = c.piece; at = sym (same_at k ps ps' i e h) ∙ c.at; as_role = c.as_role }

pub paired_local : (k : ℕ) (ps ps' : List Piece) (i j : ℕ) → take k ps ≡ take k ps' → j < k → Paired ps i j → Paired ps' i j
paired_local k ps ps' i j e h c =
    pair_of ps' j i (plays_local k ps ps' j e h c.closed) (subst (λ (l : List Piece). LastBalanced l i) (same_take k ps ps' j e (omega arith)) (partner ps j i c))

-- a closing piece has one opening piece at most
pub one_partner : (ps : List Piece) (i i' j : ℕ) → Paired ps i j → Paired ps i' j → i ≡ i'
one_partner ps i i' j p p' = by (dec_lt i i') (dec_lt i' i)
  where
    by : Dec (i < i') → Dec (i' < i) → i ≡ i'
    by (yes h) d = absurd (p.last i' h p'.before p'.opened p'.balanced)
    by (no h) (yes h') = absurd (p'.last i h' p.before p.opened p.balanced)
    by (no h) (no h') = omega arith

-- ---- links and images at once

-- what the conditions ask of a link, or of an image: that no link lies between is asked of a link alone
pub record Taken {T : Type 0} (r : Rules T) (x : Sort) (m : Marking T) (i j : ℕ) (t : T) : Type 0 where
  pub paired : m.pairs i j ≡ true
  pub no_link_between : x ≡ link → (i' j' : ℕ) → i < i' → j' < j → m.links i' j' ≡ none
  pub has_tail : HasTail r x m.pieces i j t

abbrev pub TakenAre : {T : Type 0} → Rules T → Marking T → Type 0
TakenAre {T} r m = (x : Sort) (i j : ℕ) (t : T) → (chosen x m i j ≡ some t) ↔ Taken r x m i j t

module _ {T : Type 0} (r : Rules T) (m : Marking T) where
  as_link : (i j : ℕ) (t : T) → Linked r m i j t ↔ Taken r link m i j t
  as_link i j t = (
    (λ l. record { paired = l.paired; no_link_between = λ e. l.no_link_between; has_tail = l.has_tail }),
    (λ l. record { paired = l.paired; no_link_between = l.no_link_between refl; has_tail = l.has_tail }),
  )

  as_image : (i j : ℕ) (t : T) → Imaged r m i j t ↔ Taken r image m i j t
  as_image i j t = (
    (λ l. record { paired = l.paired; no_link_between = λ e. absurd (image≢link e); has_tail = l.has_tail }),
    (λ l. record { paired = l.paired; has_tail = l.has_tail }),
  )

  pub links_of : TakenAre r m → (i j : ℕ) (t : T) → (m.links i j ≡ some t) ↔ Linked r m i j t
  links_of a i j t = Iff.trans (a link i j t) (Iff.symm (as_link i j t))

  pub images_of : TakenAre r m → (i j : ℕ) (t : T) → (m.images i j ≡ some t) ↔ Imaged r m i j t
  images_of a i j t = Iff.trans (a image i j t) (Iff.symm (as_image i j t))

pub taken_are : {T : Type 0} {r : Rules T} {m : Marking T} → Meets r m → TakenAre r m
taken_are {r = r} {m = m} c link i j t = Iff.trans (c.links_are i j t) (as_link r m i j t)
taken_are {r = r} {m = m} c image i j t = Iff.trans (c.images_are i j t) (as_image r m i j t)

-- a link is a pair, and so is an image
pub taken_pair : {T : Type 0} {r : Rules T} {m : Marking T} → Meets r m → (x : Sort) (i j : ℕ) (t : T) → chosen x m i j ≡ some t → Paired m.pieces i j
taken_pair c x i j t l = (c.pairs_are i j).0 ((taken_are c x i j t).0 l).paired
