-- The tail of a link, by the three rules of document 01, "A paragraph's marking". What follows the closing bracket is s, to the paragraph's end.
use Rattle.std.specs.Prelude.{ℕ, ◌+◌, ◌-◌, ◌<◌, ◌≡◌, List, ◌∷◌, ◌++◌, length}
use Rattle.std.proofs.Math.Option.{Option, none, some}
use Rattle.label.specs.Label.{IsLabel}
use Rattle.target.specs.Target.{Space, Destination, Title}
use Rattle.row.specs.declared.Range.{Range}
use Rattle.row.specs.First.{FirstEqual}

-- What is told of a tail. Places count from the paragraph's start; a definition is named by its index, from 0.
pub data Tail : Type 0 where
  -- its length, and where its destination and its title stand, without delimiters
  inline : ℕ → Option Range → Option Range → Tail
  -- its length and its definition
  full : ℕ → ℕ → Tail
  collapsed : ℕ → Tail
  shortcut : ℕ → Tail

abbrev pub length_of : Tail → ℕ
length_of (inline n d t) = n
length_of (full n k) = n
length_of (collapsed k) = 2
length_of (shortcut k) = 0

-- the part of n bytes from place a on
abbrev pub part : ℕ → ℕ → Range
part a n = record { start = a; end = a + n }

-- the place where a rest of s starts, where s starts at place `at`
abbrev pub place_of : ℕ → List ℕ → List ℕ → ℕ
place_of at s rest = at + (length s - length rest)

-- "`(`, optional space", and then body
pub record Opens (s body : List ℕ) : Type 0 where
  pub gap : List ℕ
  pub whole : s ≡ 40 ∷ gap ++ body
  pub spaced : Space gap

-- "at least one byte of space", and then quoted
pub record Apart (s quoted : List ℕ) : Type 0 where
  pub gap : List ℕ
  pub whole : s ≡ gap ++ quoted
  pub spaced : Space gap
  pub some_space : 0 < length gap

-- "optional space, `)`", and then rest
pub record Closes (s rest : List ℕ) : Type 0 where
  pub gap : List ℕ
  pub whole : s ≡ gap ++ 41 ∷ rest
  pub spaced : Space gap

-- "1. `(`, optional space, optionally a destination and after it optionally at least one byte of space and a title, optional space, `)`: inline."
-- s starts at place `at`, and rest follows the tail
pub data InlineFollows (s : List ℕ) (at : ℕ) : Tail → Type 0 where
  empty : (body rest : List ℕ) → Opens s body → Closes body rest → InlineFollows s at (inline (length s - length rest) none none)
  untitled : (body content more rest : List ℕ) (from : ℕ) → Opens s body → Destination body from content more → Closes more rest
      → InlineFollows s at (inline (length s - length rest) (some (part (place_of at s body + from) (length content))) none)
  titled : (body content more quoted content' after rest : List ℕ) (from : ℕ) → Opens s body → Destination body from content more
      → Apart more quoted → Title quoted content' after → Closes after rest
      → InlineFollows s at (inline (length s - length rest) (some (part (place_of at s body + from) (length content))) (some (part (place_of at s quoted + 1) (length content'))))

-- "2. `[`, a label, `]`"
pub record LabelFollows (s label : List ℕ) : Type 0 where
  pub rest : List ℕ
  pub whole : s ≡ 91 ∷ label ++ 93 ∷ rest
  pub is_a_label : IsLabel label

-- "`[]` follows"
pub record EmptyFollows (s : List ℕ) : Type 0 where
  pub rest : List ℕ
  pub whole : s ≡ 91 ∷ 93 ∷ rest

-- The tail of a pair, "first match only": `text` stands between the brackets, s after them, at place `at`; the labels are those of the definitions, in order
pub data TailOf (labels : List (List ℕ)) (text s : List ℕ) (at : ℕ) : Tail → Type 0 where
  first : {t : Tail} → InlineFollows s at t → TailOf labels text s at t
  -- "full if defined, that is, if some definition has an equal label; if not, there is no tail at all"
  second : (label : List ℕ) {k : ℕ} → ((t : Tail) → InlineFollows s at t → ⊥) → LabelFollows s label → FirstEqual labels label k
      → TailOf labels text s at (full (length label + 2) k)
  -- "3. The text between the brackets is a defined label: collapsed if `[]` follows (the tail), else shortcut, empty tail."
  third : {k : ℕ} → ((t : Tail) → InlineFollows s at t → ⊥) → ((label : List ℕ) → LabelFollows s label → ⊥) → IsLabel text → FirstEqual labels text k
      → EmptyFollows s → TailOf labels text s at (collapsed k)
  third_alone : {k : ℕ} → ((t : Tail) → InlineFollows s at t → ⊥) → ((label : List ℕ) → LabelFollows s label → ⊥) → IsLabel text → FirstEqual labels text k
      → (EmptyFollows s → ⊥) → TailOf labels text s at (shortcut k)
