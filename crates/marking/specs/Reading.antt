-- A reading from left to right that makes the marking: what the code does, as a definition.
use Rattle.std.specs.Prelude.{Bool, true, false, cond, ℕ, zero, suc, ◌+◌, ltb, eqb, length, get_or}
use Rattle.std.proofs.Math.Option.{Option, none, some}
use mathlib.Core.List.{List, [], ◌∷◌, ◌++◌, tail}
use Rattle.marking.specs.Marking.{Sort, link, image, Kind, escape, code, plain, opens, closes, tail as tail_kind, Role, nothing, opening, closing, trailing, role, Piece, Marking, tail_piece}
use Rattle.marking.specs.Spans.{Span, code_span, pair_span}
use Rattle.marking.specs.ReadingRules.{Grammar}

-- what a piece comes to: no pair, a pair with piece i, or a link or an image with piece i and its tail
pub data Match (T : Type 0) : Type 0 where
  alone : Match T
  paired : ℕ → Match T
  taken : Sort → ℕ → T → Match T

pub record State (T : Type 0) : Type 0 where
  pub place : ℕ
  pub marking : Marking T
  -- the opening pieces that wait for their closing piece, the last one first
  pub stack : List ℕ
  -- the opening piece of the last link; 0 where there is none yet. A pair has a link between exactly where it opens before this
  pub last_link : ℕ
  pub spans : List (Span T)

-- f with its column k replaced
abbrev pub column : {B : Type 0} → (ℕ → ℕ → B) → ℕ → (ℕ → B) → ℕ → ℕ → B
column f k c i j = cond (eqb j k) (c i) (f i j)

abbrev pub pair_column : {T : Type 0} → Match T → ℕ → Bool
pair_column alone i = false
pair_column (paired a) i = eqb i a
pair_column (taken x a t) i = eqb i a

abbrev pub same_sort : Sort → Sort → Bool
same_sort link link = true
same_sort link image = false
same_sort image link = false
same_sort image image = true

-- of the links, or of the images
abbrev pub taken_column : {T : Type 0} → Sort → Match T → ℕ → Option T
taken_column x alone i = none
taken_column x (paired a) i = none
taken_column x (taken y a t) i = cond (same_sort x y) (cond (eqb i a) (some t) none) none

abbrev pub piece_at : {T : Type 0} → Grammar T → ℕ → Piece
piece_at g s = record { kind = g.kind_at s; start = s; end = g.end_at s }

abbrev pub blank : Piece
blank = record { kind = plain; start = 0; end = 0 }

abbrev pub with_tail : {T : Type 0} → Sort → ℕ → Option T → Match T
with_tail x i none = paired i
with_tail x i (some t) = taken x i t

-- the sort of an opening piece; of any other kind it is of no account
abbrev pub sort_of : Kind → Sort
sort_of escape = link
sort_of code = link
sort_of plain = link
sort_of closes = link
sort_of tail_kind = link
sort_of (opens x) = x

-- a link lies between, so that the pair that opens with piece i is none: "whatever lies between" where it opens as an image
abbrev pub barred : Sort → ℕ → ℕ → Bool
barred link i last_link = ltb i last_link
barred image i last_link = false

-- what a closing piece comes to, by the sort of each opening piece and the tail that it would have with it
abbrev pub found_closing : {T : Type 0} → (ℕ → Sort) → (ℕ → Option T) → ℕ → List ℕ → Match T
found_closing sort_at tail_of last_link [] = alone
found_closing sort_at tail_of last_link (i ∷ st) = cond (barred (sort_at i) i last_link) (paired i) (with_tail (sort_at i) i (tail_of i))

abbrev pub found_by : {T : Type 0} → (ℕ → Sort) → (ℕ → Option T) → ℕ → List ℕ → Role → Match T
found_by sort_at tail_of last_link st nothing = alone
found_by sort_at tail_of last_link st opening = alone
found_by sort_at tail_of last_link st closing = found_closing sort_at tail_of last_link st
found_by sort_at tail_of last_link st trailing = alone

abbrev pub stack_by : ℕ → List ℕ → Role → List ℕ
stack_by k st nothing = st
stack_by k st opening = k ∷ st
stack_by k st closing = tail st
stack_by k st trailing = st

abbrev pub extra : {T : Type 0} → Grammar T → Piece → Match T → List Piece
extra g q alone = []
extra g q (paired i) = []
extra g q (taken x i t) = tail_piece q (g.length_of t) ∷ []

abbrev pub place_after : {T : Type 0} → Grammar T → Piece → Match T → ℕ
place_after g q alone = q.end
place_after g q (paired i) = q.end
place_after g q (taken x i t) = q.end + g.length_of t

abbrev pub last_after : {T : Type 0} → ℕ → Match T → ℕ
last_after last_link alone = last_link
last_after last_link (paired i) = last_link
last_after last_link (taken link i t) = i
last_after last_link (taken image i t) = last_link

abbrev pub is_code : Kind → Bool
is_code escape = false
is_code code = true
is_code plain = false
is_code closes = false
is_code tail_kind = false
is_code (opens x) = false

-- the span that ends with the piece q, by what q comes to; opening_piece gives the piece that q is paired with
abbrev pub new_spans : {T : Type 0} → (ℕ → Piece) → Piece → Match T → List (Span T)
new_spans opening_piece q alone = cond (is_code q.kind) (code_span q ∷ []) []
new_spans opening_piece q (paired i) = []
new_spans opening_piece q (taken x i t) = pair_span x (opening_piece i) q t ∷ []

-- m with the piece q and what it comes to
unfoldable pub extend : {T : Type 0} → Grammar T → Marking T → Piece → Match T → Marking T
extend g m q f =
    record {
      pieces = m.pieces ++ q ∷ extra g q f;
      pairs = column m.pairs (length m.pieces) (pair_column f);
      links = column m.links (length m.pieces) (taken_column link f);
      images = column m.images (length m.pieces) (taken_column image f);
    }

unfoldable pub found : {T : Type 0} → Grammar T → State T → Match T
found g s =
    let opening_piece : ℕ → Piece = λ i. get_or s.marking.pieces i blank in
    found_by (λ i. sort_of (opening_piece i).kind) (λ i. g.tail_at (opening_piece i).end s.place) s.last_link s.stack (role (g.kind_at s.place))

unfoldable pub step : {T : Type 0} → Grammar T → State T → State T
step g s =
    record {
      place = place_after g (piece_at g s.place) (found g s);
      marking = extend g s.marking (piece_at g s.place) (found g s);
      stack = stack_by (length s.marking.pieces) s.stack (role (g.kind_at s.place));
      last_link = last_after s.last_link (found g s);
      spans = s.spans ++ new_spans (λ i. get_or s.marking.pieces i blank) (piece_at g s.place) (found g s);
    }

unfoldable pub run : {T : Type 0} → ℕ → Grammar T → State T → State T
run zero g s = s
run (suc n) g s = elim (ltb s.place g.size) [ true ↦ run n g (step g s) | false ↦ s ]

unfoldable pub start : {T : Type 0} → State T
start = record { place = 0; marking = record { pieces = []; pairs = λ i j. false; links = λ i j. none; images = λ i j. none }; stack = []; last_link = 0; spans = [] }

unfoldable pub reading : {T : Type 0} → Grammar T → Marking T
reading g = (run g.size g start).marking
