-- What each step over a note's blocks, definitions and paragraphs answers.
use Rattle.std.specs.Prelude.{ℕ, ◌+◌, ◌-◌, ◌*◌, ◌≤◌, ◌<◌, ◌≡◌, List, [], ◌∷◌, length, get_or, None, Option, Some}
use Rattle.row.specs.declared.Definition.{Definition}
use Rattle.walk.specs.declared.Block.{Block}
use Rattle.walk.specs.declared.Cursor.{Cursor}
use Rattle.walk.specs.declared.Item.{Item}
use Rattle.walk.specs.declared.Item.TheVariants as item
use Rattle.walk.specs.declared.Next.{Next}
use Rattle.walk.specs.declared.Paragraph.{Paragraph}
use Rattle.walk.specs.Reading.{placed_between, blocks_from, paragraphs_from, definitions_after, paragraphs_after, start_of, end_of, next_of, from}

-- a line ends before place e, or s starts or ends there
abbrev pub LineEnds : List ℕ → ℕ → Type 0
LineEnds s e = 0 < e → e < length s → get_or s (e - 1) 0 ≡ 10

-- the first block from place i on runs from a to e; where a line follows it, it has two bytes at the least
pub record FirstBlock (s : List ℕ) (i a e : ℕ) : Type 0 where
  pub first : blocks_from s i ≡ placed_between s a e ∷ blocks_from s e
  pub low : i ≤ a
  pub nonempty : a < e
  pub inside : e ≤ length s
  pub lined : LineEnds s e
  pub room : e < length s → a + 2 ≤ e

abbrev pub IsBlock : List ℕ → ℕ → Option Block → Type 0
IsBlock s i (Some b) = FirstBlock s i b.start b.end
IsBlock s i None = blocks_from s i ≡ []

-- reading can stand at c: its places are in order and within s
pub record Standing (s : List ℕ) (c : Cursor) : Type 0 where
  pub ordered : c.at ≤ c.end
  pub inside : c.end ≤ length s

-- d is the first definition that c has before it, and c' stands after d; its label lies between the two
pub record FirstDefinition (s : List ℕ) (c : Cursor) (d : Definition) (c' : Cursor) : Type 0 where
  pub first : definitions_after s c ≡ d ∷ definitions_after s c'
  pub within : Standing s c'
  pub starts : c.at < d.label.start
  pub onward : d.label.start < c'.at

abbrev pub IsNext : List ℕ → Cursor → Option Next → Type 0
IsNext s c (Some n) = FirstDefinition s c n.definition n.after
IsNext s c None = definitions_after s c ≡ []

-- the first paragraph from place i on runs from a to e, and its block to n
pub record FirstParagraph (s : List ℕ) (i a e n : ℕ) : Type 0 where
  pub first : paragraphs_from s i ≡ placed_between s a e ∷ paragraphs_from s n
  pub low : i ≤ a
  pub ordered : a ≤ e
  pub ends : e ≤ n
  pub inside : n ≤ length s
  pub onward : i < n

abbrev pub IsParagraph : List ℕ → ℕ → Option Paragraph → Type 0
IsParagraph s i (Some p) = FirstParagraph s i p.start p.end p.next
IsParagraph s i None = paragraphs_from s i ≡ []

-- ---- definitions and paragraphs in one pass
-- d is the first definition that c has before it, the paragraphs are left, and c' stands after d
pub record ItemDefinition (s : List ℕ) (c : Cursor) (d : Definition) (c' : Cursor) : Type 0 where
  pub here : FirstDefinition s c d c'
  pub left : paragraphs_after s c ≡ paragraphs_after s c'
  pub lined : LineEnds s c'.end

-- the first paragraph that c has before it runs from a to e, the definitions are left, and c' stands at the end of its block
pub record ItemParagraph (s : List ℕ) (c : Cursor) (a e : ℕ) (c' : Cursor) : Type 0 where
  pub first : paragraphs_after s c ≡ placed_between s a e ∷ paragraphs_after s c'
  pub left : definitions_after s c ≡ definitions_after s c'
  pub within : Standing s c'
  pub lined : LineEnds s c'.end
  pub over : c'.at ≡ c'.end
  pub low : c.at ≤ a
  pub ordered : a ≤ e
  pub ends : next_of s e ≡ c'.at
  pub onward : a < c'.at
  -- inside a block the paragraph takes the rest of it; a block from its start has two bytes at the least, where a line follows it
  pub rest : c.at < c.end → c'.at ≡ c.end
  pub room : c.end ≤ c.at → c'.at < length s → c.at + 2 ≤ c'.at

pub record NoItem (s : List ℕ) (c : Cursor) : Type 0 where
  pub definitions : definitions_after s c ≡ []
  pub paragraphs : paragraphs_after s c ≡ []

abbrev pub IsItem : List ℕ → Cursor → Option Item → Type 0
IsItem s c (Some (item.Definition d c')) = ItemDefinition s c d c'
IsItem s c (Some (item.Paragraph a e c')) = ItemParagraph s c a e c'
IsItem s c None = NoItem s c

-- ---- a list of paragraphs
-- the list has the paragraphs of s, n of them, and there are no more
pub record Remembers (s list : List ℕ) (n : ℕ) : Type 0 where
  pub each : (k : ℕ) → k < n → FirstParagraph s (from s list k) (start_of list k) (end_of list k) (next_of s (end_of list k))
  pub over : paragraphs_from s (from s list n) ≡ []
  pub fits : 2 * n ≤ length list

-- after paragraph k of n, paragraph k + 1 is looked for from its block's end on
abbrev pub Onward : List ℕ → List ℕ → ℕ → ℕ → Option Paragraph → Type 0
Onward s list n k (Some p) = (k < n) × (p.next ≡ from s list (k + 1))
Onward s list n k None = k ≡ n
