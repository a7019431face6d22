-- A link reference definition, and what it leaves of a block.
use Rattle.std.specs.Prelude.{ℕ, ◌+◌, ◌≤◌, ◌<◌, ◌≡◌, List, [], ◌∷◌, ◌++◌, Bool, length, eqb}
use Rattle.scan.specs.Every.{Every}
use Rattle.label.specs.Label.{IsLabel}
use Rattle.target.specs.Target.{Space, Destination, Title}
use Rattle.block.specs.Line.{padding, EndOfLine}
use Rattle.row.specs.declared.Definition.{Definition}

abbrev pub space : ℕ → Bool
space b = eqb b 32

-- "any or no spaces and tabs and end of line": they stand at the front of s, and `rest` is left. s ends with its block: with an LF, or with the note
pub record LineEnd (s rest : List ℕ) : Type 0 where
  pub pad : List ℕ
  pub ending : List ℕ
  pub whole : s ≡ pad ++ ending
  pub padded : Every padding pad
  pub ended : EndOfLine ending rest

-- "at least one byte of space, a title, any or no spaces and tabs, end of line"; the title's content starts after `before` bytes of s
pub record Titled (s : List ℕ) (before : ℕ) (content rest : List ℕ) : Type 0 where
  pub gap : List ℕ
  pub body : List ℕ
  pub after : List ℕ
  pub whole : s ≡ gap ++ body
  pub spaced : Space gap
  pub apart : 0 < length gap
  pub title : Title body content after
  pub place : before ≡ length gap + 1
  pub line : LineEnd after rest

-- What follows the destination, from place `at` on: the title's place, 0 and 0 where there is none, and what is left.
-- "or, only if that fails, any or no spaces and tabs and end of line"
pub data Ending (s : List ℕ) (at : ℕ) : ℕ → ℕ → List ℕ → Type 0 where
  titled : {before : ℕ} {content rest : List ℕ} → Titled s before content rest → Ending s at (at + before) (at + before + length content) rest
  untitled : {rest : List ℕ} → ((before : ℕ) (content left : List ℕ) → Titled s before content left → ⊥) → LineEnd s rest → Ending s at 0 0 rest

-- "A definition: at most three spaces, `[`, label, `]`, `:`, optional space, a destination, then .."; s starts at place `at` of the note
pub record DefinitionAt (s : List ℕ) (at : ℕ) (d : Definition) (rest : List ℕ) : Type 0 where
  pub indent : List ℕ
  pub label : List ℕ
  pub gap : List ℕ
  pub body : List ℕ
  pub whole : s ≡ indent ++ 91 ∷ label ++ 93 ∷ 58 ∷ gap ++ body
  pub spaces : Every space indent
  pub few : length indent ≤ 3
  pub is_a_label : IsLabel label
  pub label_start : d.label.start ≡ at + length indent + 1
  pub label_ends_at : d.label.end ≡ d.label.start + length label
  pub spaced : Space gap
  pub from : ℕ
  pub content : List ℕ
  pub more : List ℕ
  pub destination : Destination body from content more
  pub destination_start : d.destination.start ≡ d.label.end + 2 + length gap + from
  pub destination_end : d.destination.end ≡ d.destination.start + length content
  pub ending : Ending more (d.destination.end + from) d.title.start d.title.end rest

-- "From its first line, and from the block's bytes alone, definitions are taken while they can be": from the front of s, at place `at`;
-- `left` is what is left over, at place `after`. What a definition leaves starts at place `next`
pub data Taken : List ℕ → ℕ → List Definition → List ℕ → ℕ → Type 0 where
  over : {s : List ℕ} {at : ℕ} → ((d : Definition) (rest : List ℕ) → DefinitionAt s at d rest → ⊥) → Taken s at [] s at
  taken : {s rest left : List ℕ} {at next after : ℕ} {d : Definition} {ds : List Definition} → DefinitionAt s at d rest → at + length s ≡ next + length rest
      → Taken rest next ds left after → Taken s at (d ∷ ds) left after
