-- One step of the code through a paragraph, past one piece.
use Rattle.std.specs.Prelude.{ℕ, ◌+◌, ◌-◌, ◌≤◌, ◌<◌, ◌^◌, ◌≡◌, List, [], ◌∷◌, map, Bool, true, cond, ◌⊎◌, ltb, eqb, length, get_or, drop, Option, None, Some}
use Rattle.line.specs.Line.{line_of}
use Rattle.line.specs.Promise.{none, line_if, Before}
use Rattle.marking.specs.Spans as marked
use Rattle.marking.specs.Reading.{Match, alone, sort_of, found_closing, piece_at, place_after, last_after, new_spans}
use Rattle.row.specs.declared.Definition.{Definition}
use Rattle.span.specs.Row.{whole_rows}
use Rattle.inline.specs.Pieces.{image_opens}
use Rattle.inline.specs.Tails.{Tail}
use Rattle.inline.specs.Reading.{grammar}
use Rattle.inline.specs.ReadingRows.{row_for}
use Rattle.link.specs.Reading.{text_from}
use Rattle.step.specs.Reading.{stored_all}
use Rattle.step.specs.declared.Walk.{Walk}

-- the place of the last link's `[`; 0 where there is none yet
abbrev pub last_place : Option ℕ → ℕ
last_place (Some o) = o
last_place None = 0

-- before the first paragraph
abbrev pub first : Walk
first = record { at = 0; last = None; row = 0; depth = 0; line = none }

-- at a paragraph's start, with no bracket open: rows and lines go on from those before it
abbrev pub afresh : Walk → Walk
afresh w = record { at = 0; last = None; row = w.row; depth = 0; line = w.line }

-- in the paragraph at place `offset` of the note s the walk stands at a byte, and its line is that of an earlier place
pub record Lined (s : List ℕ) (offset : ℕ) (w : Walk) : Type 0 where
  pub before : Before s w.line (offset + w.at)
  pub inside : offset + w.at < length s

-- a row more can be stored in the span table t
abbrev pub fits : List ℕ → Walk → Bool
fits t w = ltb w.row (whole_rows t)

-- the walk with the line of its place, if a row more can be stored
abbrev pub lined : List ℕ → ℕ → List ℕ → Walk → Walk
lined s offset t w = record { at = w.at; last = w.last; row = w.row; depth = w.depth; line = line_if (fits t w) s w.line (offset + w.at) }

-- where the opening piece ends that starts at a place, `[` or `![`
abbrev pub opening_end : List ℕ → ℕ → Option ℕ
opening_end p at = cond (eqb (get_or p at 0) 91) (Some (at + 1)) (cond (image_opens (drop at p)) (Some (at + 2)) None)

-- `[` or `![` stands at place o
abbrev pub Opening : List ℕ → ℕ → Type 0
Opening p o = (get_or p o 0 ≡ 91) ⊎ (image_opens (drop o p) ≡ true)

-- it is `![`
abbrev pub is_image : List ℕ → ℕ → Bool
is_image p o = eqb (get_or p o 0) 33

-- where it ends, and the text of its pair starts
abbrev pub open_end : List ℕ → ℕ → ℕ
open_end p o = text_from (is_image p o) o

-- a `]` at place c, and the text from place a to it
pub record TextTo (p : List ℕ) (a c : ℕ) : Type 0 where
  pub close_at : get_or p c 0 ≡ 93
  pub ordered : a ≤ c
  pub inside : c < length p

-- `[` or `![` at place o and a `]` at place c
pub record Pair (p : List ℕ) (o c : ℕ) : Type 0 where
  pub open_at : Opening p o
  pub text : TextTo p (open_end p o) c

-- a pair that closes at the walk's place, whose opening bracket is open, and the 32-bit number `line`, which is its line if a row more can be stored
pub record LinedPair (s : List ℕ) (offset : ℕ) (p t : List ℕ) (w : Walk) (o line : ℕ) : Type 0 where
  pub pair : Pair p o w.at
  pub some_open : 0 < w.depth
  pub small : line < 2 ^ 32
  pub is_line : w.row < whole_rows t → line ≡ line_of s (offset + o)

pub record BacktickAt (p : List ℕ) (w : Walk) : Type 0 where
  pub inside : w.at < length p
  pub tick : get_or p w.at 0 ≡ 96

-- the places of the paragraph in the note and the numbers of `count` definitions are 32-bit numbers, and a row more can be counted
pub record Bounds (offset : ℕ) (p : List ℕ) (count : ℕ) (w : Walk) : Type 0 where
  pub places : offset + length p < 2 ^ 32
  pub definitions : count < 2 ^ 32
  pub rows : w.row + 1 < 2 ^ 64

module _ (s : List ℕ) (offset : ℕ) (p : List ℕ) (labels : List (List ℕ)) (ds : List Definition) where
  -- the spans that end with the piece at place `at`, by what it comes to
  abbrev pub spans_at : ℕ → Match Tail → List (marked.Span Tail)
  spans_at at f = new_spans (piece_at (grammar p labels)) (piece_at (grammar p labels) at) f

  -- A step from v with the table t to w with the table u, past the piece at v's place, which comes to f.
  pub record Steps (f : Match Tail) (v : Walk) (t : List ℕ) (w : Walk) (u : List ℕ) : Type 0 where
    pub at : w.at ≡ place_after (grammar p labels) (piece_at (grammar p labels) v.at) f
    pub last : last_place w.last ≡ last_after (last_place v.last) f
    pub row : w.row ≡ v.row + length (spans_at v.at f)
    pub table : u ≡ stored_all s t v.row (map (row_for offset p ds) (spans_at v.at f))

  -- what the `]` at v's place comes to with the `[` or `![` at place o
  abbrev pub closing : Walk → ℕ → Match Tail
  closing v o = found_closing (λ a. sort_of ((grammar p labels).kind_at a)) (λ a. (grammar p labels).tail_at ((grammar p labels).end_at a) v.at) (last_place v.last) (o ∷ [])

  -- past a `]` that closes a pair, whose opening bracket is then no longer open
  abbrev pub Closes : ℕ → Walk → List ℕ → Walk → List ℕ → Type 0
  Closes o v t w u = Steps (closing v o) v t w u × (w.depth ≡ v.depth - 1) × (w.line ≡ v.line)

-- past a piece that is in no pair, whatever the definitions are
abbrev pub Passes : List ℕ → ℕ → List ℕ → Walk → List ℕ → Walk → List ℕ → Type 0
Passes s offset p v t w u = ((labels : List (List ℕ)) (ds : List Definition) → Steps s offset p labels ds alone v t w u) × (w.depth ≡ v.depth) × Before s w.line (offset + v.at)
