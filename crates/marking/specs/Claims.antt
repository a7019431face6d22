-- What is claimed of the conditions: exactly one marking meets them, and what that comes to for its pairs, links, images and tails.
use Rattle.std.specs.Prelude.{◌≡◌, ◌≢◌, ◌⊎◌, true, List, ℕ, suc, ◌<◌}
use Rattle.std.proofs.Math.Option.{some}
use Rattle.marking.specs.Marking.{Sort, Kind, opens, trailing, role, Piece, Rules, Marking, chosen, At, tail_piece, Meets}

-- one marking meets the conditions, any that meets them is that one, and every other breaks a condition
pub record ExactlyOne {T : Type 0} (r : Rules T) : Type 0 where
  pub the_marking : Marking T
  pub meets : Meets r the_marking
  pub no_other : (m : Marking T) → Meets r m → m ≡ the_marking
  pub every_other_breaks : (m : Marking T) → m ≢ the_marking → Meets r m → ⊥

-- every opening piece and every closing piece is in one pair at most
pub record OnePairAtMost {T : Type 0} (m : Marking T) : Type 0 where
  pub for_opening : (i j j' : ℕ) → m.pairs i j ≡ true → m.pairs i j' ≡ true → j ≡ j'
  pub for_closing : (i i' j : ℕ) → m.pairs i j ≡ true → m.pairs i' j ≡ true → i ≡ i'

-- of two pairs the one that opens later stands after the other, or between its two brackets
abbrev pub PairsNest : {T : Type 0} → Marking T → Type 0
PairsNest m = (i j i' j' : ℕ) → m.pairs i j ≡ true → m.pairs i' j' ≡ true → i < i' → (j < i') ⊎ (j' < j)

-- the k-th piece is of that kind
pub record OfKind (x : Kind) (ps : List Piece) (k : ℕ) : Type 0 where
  pub piece : Piece
  pub at : At ps k piece
  pub is_kind : piece.kind ≡ x

-- i and j are a pair, which an opening of the sort x opens
pub record OpenedAs {T : Type 0} (m : Marking T) (x : Sort) (i j : ℕ) : Type 0 where
  pub paired : m.pairs i j ≡ true
  pub opening : OfKind (opens x) m.pieces i

-- every link is a pair that `[` opens, and every image is a pair that `![` opens
abbrev pub TakenAsOpened : {T : Type 0} → Marking T → Type 0
TakenAsOpened {T} m = (x : Sort) (i j : ℕ) (t : T) → chosen x m i j ≡ some t → OpenedAs m x i j

-- no link lies between the two brackets of another, at any depth, whatever images lie between
abbrev pub NoLinkHoldsALink : {T : Type 0} → Marking T → Type 0
NoLinkHoldsALink {T} m = (i j i' j' : ℕ) (t t' : T) → m.links i j ≡ some t → m.links i' j' ≡ some t' → i < i' → j' < j → ⊥

-- of two links the one that opens later stands after the other
abbrev pub LinksApart : {T : Type 0} → Marking T → Type 0
LinksApart {T} m = (i j i' j' : ℕ) (t t' : T) → m.links i j ≡ some t → m.links i' j' ≡ some t' → i < i' → j < i'

-- the piece q at the index k is the tail of a link or an image, and stands right after its closing piece
pub record TailOfTaken {T : Type 0} (r : Rules T) (m : Marking T) (k : ℕ) (q : Piece) : Type 0 where
  pub sort : Sort
  pub from : ℕ
  pub to : ℕ
  pub with_tail : T
  pub taken : chosen sort m from to ≡ some with_tail
  pub close_piece : Piece
  pub close_at : At m.pieces to close_piece
  pub next : k ≡ suc to
  pub is_tail : q ≡ tail_piece close_piece (r.length_of with_tail)

abbrev pub TailsOnlyAfterTaken : {T : Type 0} → Rules T → Marking T → Type 0
TailsOnlyAfterTaken r m = (k : ℕ) (q : Piece) → At m.pieces k q → role q.kind ≡ trailing → TailOfTaken r m k q
