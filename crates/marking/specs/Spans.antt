-- The spans of a marking, its code spans, its links and its images: document 01, "Rows", and document 02, request 5.
use Rattle.std.specs.Prelude.{◌≡◌, List, ℕ, suc, ◌+◌, ◌<◌}
use Rattle.std.proofs.Math.Option.{some}
use Rattle.std.proofs.Math.ListN.{get_elem?}
use Rattle.scan.specs.Member.{In}
use Rattle.marking.specs.Marking.{Sort, code, Piece, Rules, Marking, chosen, At}

-- a code span's piece, or the opening piece, closing piece and tail of a link or an image
pub data Span (T : Type 0) : Type 0 where
  code_span : Piece → Span T
  pair_span : Sort → Piece → Piece → T → Span T

-- "A span runs .. to the end of its tail or closing backticks."
abbrev pub span_end : {T : Type 0} → Rules T → Span T → ℕ
span_end r (code_span q) = q.end
span_end r (pair_span x o c t) = c.end + r.length_of t

abbrev pub EndsBefore : {T : Type 0} → Rules T → Span T → Span T → Type 0
EndsBefore r x y = span_end r x < span_end r y

-- q is a piece of the marking and a code span
pub record CodeOf {T : Type 0} (m : Marking T) (q : Piece) : Type 0 where
  pub index : ℕ
  pub at : At m.pieces index q
  pub kind_is_code : q.kind ≡ code

-- o and c are the opening and the closing piece of a link or an image of the marking with the tail t
pub record TakenOf {T : Type 0} (m : Marking T) (x : Sort) (o c : Piece) (t : T) : Type 0 where
  pub from : ℕ
  pub to : ℕ
  pub taken : chosen x m from to ≡ some t
  pub open_at : At m.pieces from o
  pub close_at : At m.pieces to c

abbrev pub SpanOf : {T : Type 0} → Marking T → Span T → Type 0
SpanOf m (code_span q) = CodeOf m q
SpanOf m (pair_span x o c t) = TakenOf m x o c t

-- "the links and code spans in the markings" and "the images of the markings too", all of them and nothing else; "Rows stand in increasing order of end."
pub record SpansAre {T : Type 0} (r : Rules T) (m : Marking T) (xs : List (Span T)) : Type 0 where
  pub each : (x : Span T) → SpanOf m x → In x xs
  pub no_others : (x : Span T) → In x xs → SpanOf m x
  pub in_order : (k : ℕ) (x y : Span T) → get_elem? xs k ≡ some x → get_elem? xs (suc k) ≡ some y → EndsBefore r x y
