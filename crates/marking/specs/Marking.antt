-- A paragraph's marking and the conditions on it: document 01, "A paragraph's marking", whose terms are marking, piece, kind, pair, link and tail, and
-- document 02, request 5, whose terms are image and the two sorts of opening.
-- Every condition speaks of a finished marking. What the bytes say comes in through Rules alone.
use Rattle.std.specs.Prelude.{◌≡◌, ◌↔◌, ◌≢◌, Bool, true, List, [], ◌∷◌, ℕ, suc, ◌+◌, ◌≤◌, ◌<◌, take, drop}
use Rattle.std.proofs.Math.Option.{Option, none, some}
use Rattle.std.proofs.Math.ListN.{get_elem?}

-- "Both sorts of opening": that of a link, `[`, and that of an image, `![`
pub data Sort : Type 0 where
  link image : Sort

pub data Kind : Type 0 where
  escape code plain closes tail : Kind
  opens : Sort → Kind

-- What a kind is to pairs: their conditions know a kind by its role alone, so that both sorts of opening count.
pub data Role : Type 0 where
  nothing opening closing trailing : Role

abbrev pub role : Kind → Role
role escape = nothing
role code = nothing
role plain = nothing
role (opens x) = opening
role closes = closing
role tail = trailing

-- "pieces, each with its kind, start and end"
pub record Piece : Type 0 where
  pub kind : Kind
  pub start : ℕ
  pub end : ℕ

-- "A marking of a paragraph is any list of pieces, ..; any choice of pairs among them; and any choice of links among the pairs, each with its tail", and
-- "a marking names its images with their tails as well".
-- Pairs, links and images name pieces by their index from 0: first the opening piece, then the closing one. T is what is told of a tail.
pub record Marking (T : Type 0) : Type 0 where
  pub pieces : List Piece
  pub pairs : ℕ → ℕ → Bool
  pub links : ℕ → ℕ → Option T
  pub images : ℕ → ℕ → Option T

-- its links, or its images: a pair that is one of these is called taken below
abbrev pub chosen : {T : Type 0} → Sort → Marking T → ℕ → ℕ → Option T
chosen link m = m.links
chosen image m = m.images

-- What the bytes of one paragraph say.
pub record Rules (T : Type 0) : Type 1 where
  -- the paragraph's length
  pub size : ℕ
  -- "What starts a piece decides its kind": a piece of this kind and end starts at its start. Of tails it says nothing
  pub Starts : Piece → Type 0
  -- "For a tail, what follows the closing bracket is read on its own": the tail of a pair whose text begins at the first place
  -- and whose closing piece begins at the second
  pub TailAt : ℕ → ℕ → T → Type 0
  -- how many bytes a tail takes up
  pub length_of : T → ℕ

-- the k-th piece is q
abbrev pub At : List Piece → ℕ → Piece → Type 0
At ps k q = get_elem? ps k ≡ some q

-- the k-th piece has that role
pub record Plays (r : Role) (ps : List Piece) (k : ℕ) : Type 0 where
  pub piece : Piece
  pub at : At ps k piece
  pub as_role : role piece.kind ≡ r

-- the pieces stand end to start, from the place a to the place b
abbrev pub Tiles : ℕ → List Piece → ℕ → Type 0
Tiles a [] b = a ≡ b
Tiles a (q ∷ qs) b = (q.start ≡ a) × (q.start ≤ q.end) × Tiles q.end qs b

abbrev pub one_opening : Role → ℕ
one_opening nothing = 0
one_opening opening = 1
one_opening closing = 0
one_opening trailing = 0

abbrev pub one_closing : Role → ℕ
one_closing nothing = 0
one_closing opening = 0
one_closing closing = 1
one_closing trailing = 0

-- how many opening and how many closing pieces there are
abbrev pub openings : List Piece → ℕ
openings [] = 0
openings (q ∷ qs) = one_opening (role q.kind) + openings qs

abbrev pub closings : List Piece → ℕ
closings [] = 0
closings (q ∷ qs) = one_closing (role q.kind) + closings qs

-- the pieces between the pieces i and j
abbrev pub between : List Piece → ℕ → ℕ → List Piece
between ps i j = drop (suc i) (take j ps)

-- "between the two stand equally many opening and closing pieces"
abbrev pub Balanced : List Piece → ℕ → ℕ → Type 0
Balanced ps i j = openings (between ps i j) ≡ closings (between ps i j)

-- "A closing piece pairs with the last opening piece before it such that between the two stand equally many opening and closing pieces"
pub record Paired (ps : List Piece) (i j : ℕ) : Type 0 where
  pub closed : Plays closing ps j
  pub opened : Plays opening ps i
  pub before : i < j
  pub balanced : Balanced ps i j
  pub last : (k : ℕ) → i < k → k < j → Plays opening ps k → Balanced ps k j → ⊥

-- the pair of i and j, which an opening of the sort x opens, has the tail t
pub record HasTail {T : Type 0} (r : Rules T) (x : Sort) (ps : List Piece) (i j : ℕ) (t : T) : Type 0 where
  pub open_piece : Piece
  pub close_piece : Piece
  pub open_at : At ps i open_piece
  pub close_at : At ps j close_piece
  pub of_sort : open_piece.kind ≡ opens x
  pub reads : r.TailAt open_piece.end close_piece.start t

-- a pair that `[` opens; "A link may hold an image, but no link at any depth, through images too"; "and it has a tail"
pub record Linked {T : Type 0} (r : Rules T) (m : Marking T) (i j : ℕ) (t : T) : Type 0 where
  pub paired : m.pairs i j ≡ true
  pub no_link_between : (i' j' : ℕ) → i < i' → j' < j → m.links i' j' ≡ none
  pub has_tail : HasTail r link m.pieces i j t

-- "a pair that `![` opens is no link, and is an image exactly when it has a tail, whatever lies between"
pub record Imaged {T : Type 0} (r : Rules T) (m : Marking T) (i j : ℕ) (t : T) : Type 0 where
  pub paired : m.pairs i j ≡ true
  pub has_tail : HasTail r image m.pieces i j t

-- a tail of n bytes, as the piece after the closing piece c
abbrev pub tail_piece : Piece → ℕ → Piece
tail_piece c n = record { kind = tail; start = c.end; end = c.end + n }

-- piece k stands right after the closing piece of a link or an image
pub record FollowsTaken {T : Type 0} (m : Marking T) (k : ℕ) : Type 0 where
  pub sort : Sort
  pub from : ℕ
  pub to : ℕ
  pub with_tail : T
  pub taken : chosen sort m from to ≡ some with_tail
  pub next : k ≡ suc to

-- "A marking meets the conditions exactly when everything in this section holds of it."
pub record Meets {T : Type 0} (r : Rules T) (m : Marking T) : Type 0 where
  -- "The paragraph is tiled by the pieces."
  pub tiled : Tiles 0 m.pieces r.size
  -- "What starts a piece decides its kind": the kind and the end of every piece that is no tail
  pub kinds : (k : ℕ) (q : Piece) → At m.pieces k q → role q.kind ≢ trailing → r.Starts q
  -- "After the `]` of a link comes its tail, one piece, possibly empty", and that of an image, "like a link's, is one piece after its `]`"
  pub tails : (x : Sort) (i j : ℕ) (t : T) (c : Piece) → chosen x m i j ≡ some t → At m.pieces j c → At m.pieces (suc j) (tail_piece c (r.length_of t))
  -- "a tail stands nowhere else"
  pub no_other_tails : (k : ℕ) (q : Piece) → At m.pieces k q → role q.kind ≡ trailing → FollowsTaken m k
  -- "A closing piece pairs with the last opening piece before it such that .., if there is one; nothing else is a pair."
  pub pairs_are : (i j : ℕ) → (m.pairs i j ≡ true) ↔ Paired m.pieces i j
  -- "A pair is a link exactly when no link lies between its two brackets and it has a tail", where `[` opens it
  pub links_are : (i j : ℕ) (t : T) → (m.links i j ≡ some t) ↔ Linked r m i j t
  -- where `![` opens it: "an image exactly when it has a tail, whatever lies between"
  pub images_are : (i j : ℕ) (t : T) → (m.images i j ≡ some t) ↔ Imaged r m i j t
