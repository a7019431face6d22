-- The markings of a note, its span rows, and its first bracket too many: document 01, over all paragraphs of a note, with the definitions of the note and of the
-- sheet beside it. The texts are any lists of bytes.
use Rattle.std.specs.Prelude.{ℕ, ◌+◌, ◌<◌, ◌≡◌}
use Rattle.std.proofs.Math.Option.{some}
use mathlib.Core.List.{List, [], ◌∷◌, ◌++◌, Forall₂}
use Rattle.std.proofs.Math.ListN.{get_elem?}
use Rattle.marking.specs.Marking.{Marking, Meets}
use Rattle.scan.specs.Member.{In}
use Rattle.marking.specs.Spans.{Span, SpanOf}
use Rattle.marking.specs.Open.{NeverOver, FirstOver}
use Rattle.texts.specs.Texts.{Texts}
use Rattle.block.specs.Block.{Placed}
use Rattle.row.specs.declared.Definition.{Definition}
use Rattle.row.specs.Row.{Listed, definitions_of}
use Rattle.row.specs.First.{labels_of}
use Rattle.joined.specs.Joined.{JoinedIs}
use Rattle.inline.specs.Tails.{Tail}
use Rattle.inline.specs.Paragraph.{rules}
use Rattle.inline.specs.Rows.{RowIs, RowsAre, EndsIncrease}

-- "some paragraph has over 64 brackets open at once", and document 02, request 4: "Raise refusal 4 from 64 to 1,024"
abbrev pub depth_limit : ℕ
depth_limit = 1024

-- ---- markings
-- "A marking meets the conditions exactly when everything in this section holds of it": m, of the paragraph q of the note; js is the joined list
abbrev pub MarkingOf : Texts → List Listed → Placed → Marking Tail → Type 0
MarkingOf T js q m = Meets (rules q.bytes (labels_of T js)) m

-- one marking for each paragraph, in order, and each meets the conditions
abbrev pub MarkingsAre : Texts → List Listed → List Placed → List (Marking Tail) → Type 0
MarkingsAre T js ps ms = Forall₂ (MarkingOf T js) ps ms

-- the joined list, the note's paragraphs and their markings
pub record Marked (T : Texts) : Type 0 where
  pub list : List Listed
  pub paragraphs : List Placed
  pub markings : List (Marking Tail)
  pub joined : JoinedIs T list paragraphs
  pub each : MarkingsAre T list paragraphs markings

-- ---- span rows
-- row is that of a link, an image or a code span in the marking of one of these paragraphs of the note s
pub record RowOf (s : List ℕ) (ds : List Definition) (ps : List Placed) (ms : List (Marking Tail)) (row : List ℕ) : Type 0 where
  pub index : ℕ
  pub paragraph : Placed
  pub paragraph_at : get_elem? ps index ≡ some paragraph
  pub marking : Marking Tail
  pub marking_at : get_elem? ms index ≡ some marking
  pub span : Span Tail
  pub of_marking : SpanOf marking span
  pub row_is : RowIs s paragraph.at paragraph.bytes ds span row

-- "Demand 3 compares them whole, number for number, with the rows that this section makes of the links and code spans in the markings", and document 02, request 5:
-- "the rows of demand 3 are those of the images of the markings too": the rows of all of these and nothing else. "Rows stand in increasing order of end",
-- so that each stands there once.
pub record EachRowOnce (T : Texts) (rows : List (List ℕ)) : Type 0 where
  pub marked : Marked T
  pub each : (row : List ℕ) → RowOf T.note (definitions_of marked.list) marked.paragraphs marked.markings row → In row rows
  pub no_others : (row : List ℕ) → In row rows → RowOf T.note (definitions_of marked.list) marked.paragraphs marked.markings row
  pub in_order : EndsIncrease rows

-- What follows: the same rows paragraph after paragraph, those of each by itself. "Places count from the note's start."
pub data RowsIn (T : Texts) (js : List Listed) : List Placed → List (Marking Tail) → List (List ℕ) → Type 0 where
  none : RowsIn T js [] [] []
  more : {q : Placed} {ps : List Placed} {m : Marking Tail} {ms : List (Marking Tail)} {rows others : List (List ℕ)}
      → RowsAre T.note q.at q.bytes (labels_of T js) (definitions_of js) m rows → RowsIn T js ps ms others → RowsIn T js (q ∷ ps) (m ∷ ms) (rows ++ others)

pub record SpanRowsAre (T : Texts) (rows : List (List ℕ)) : Type 0 where
  pub marked : Marked T
  pub rows_are : RowsIn T marked.list marked.paragraphs marked.markings rows

-- ---- brackets open at once
-- more than `depth_limit` brackets are open at once in one of these paragraphs, and the bracket at this place is the first too many in the first of them
pub record FirstDeepIn (ps : List Placed) (ms : List (Marking Tail)) (place : ℕ) : Type 0 where
  pub index : ℕ
  pub paragraph : Placed
  pub paragraph_at : get_elem? ps index ≡ some paragraph
  pub marking : Marking Tail
  pub marking_at : get_elem? ms index ≡ some marking
  pub within : ℕ
  pub too_many : FirstOver depth_limit marking within
  pub place_is : paragraph.at + within ≡ place
  pub none_before : (k : ℕ) (m : Marking Tail) → k < index → get_elem? ms k ≡ some m → NeverOver depth_limit m

-- some paragraph has over `depth_limit` brackets open at once, and the "place of the first bracket too many"
pub record FirstDeep (T : Texts) (place : ℕ) : Type 0 where
  pub marked : Marked T
  pub first : FirstDeepIn marked.paragraphs marked.markings place

-- no paragraph has
pub record NeverDeep (T : Texts) : Type 0 where
  pub marked : Marked T
  pub never : (k : ℕ) (m : Marking Tail) → get_elem? marked.markings k ≡ some m → NeverOver depth_limit m
