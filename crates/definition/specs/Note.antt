-- A note's definitions and paragraphs.
use Rattle.std.specs.Prelude.{ℕ, ◌≡◌, List, [], ◌∷◌, ◌++◌}
use Rattle.block.specs.Block.{Placed, BlocksOf}
use Rattle.row.specs.declared.Definition.{Definition}
use Rattle.definition.specs.Definition.{Taken}

-- "bytes left over, if any, less a final LF, are a paragraph"
pub data Paragraph : List ℕ → ℕ → List Placed → Type 0 where
  none : {at : ℕ} → Paragraph [] at []
  line : {at : ℕ} {l : List ℕ} → Paragraph (l ++ 10 ∷ []) at (record { at = at; bytes = l } ∷ [])
  bare : {at : ℕ} {b : ℕ} {l : List ℕ} → ((k : List ℕ) → b ∷ l ≡ k ++ 10 ∷ [] → ⊥) → Paragraph (b ∷ l) at (record { at = at; bytes = b ∷ l } ∷ [])

-- the definitions and the paragraphs of these blocks, each block by itself
pub data Read : List Placed → List Definition → List Placed → Type 0 where
  none : Read [] [] []
  block : {b : Placed} {bs ps qs : List Placed} {ds es : List Definition} {left : List ℕ} {after : ℕ}
      → Taken b.bytes b.at ds left after → Paragraph left after ps → Read bs es qs → Read (b ∷ bs) (ds ++ es) (ps ++ qs)

-- the definitions of the note s, "in note order, repeats too", and its paragraphs
pub record NoteIs (s : List ℕ) (ds : List Definition) (ps : List Placed) : Type 0 where
  pub blocks : List Placed
  pub are_blocks : BlocksOf s blocks
  pub read : Read blocks ds ps
