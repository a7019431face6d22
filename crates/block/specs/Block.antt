-- The blocks of a note.
use Rattle.std.specs.Prelude.{ℕ, ◌+◌, ◌≡◌, List, [], ◌∷◌, ◌++◌, length}
use Rattle.block.specs.Line.{Lines, Blank}

-- bytes of the note, and the place where they start
pub record Placed : Type 0 where
  pub at : ℕ
  pub bytes : List ℕ

-- the bytes of some lines
abbrev pub bytes_of_lines : List (List ℕ) → List ℕ
bytes_of_lines [] = []
bytes_of_lines (l ∷ ls) = l ++ bytes_of_lines ls

-- "other lines": none of them is blank
pub data AllOther : List (List ℕ) → Type 0 where
  none : AllOther []
  more : {l : List ℕ} {ls : List (List ℕ)} → (Blank l → ⊥) → AllOther ls → AllOther (l ∷ ls)

-- no line follows, or a blank one
pub data BlankOrEnd : List (List ℕ) → Type 0 where
  end : BlankOrEnd []
  blank : {l : List ℕ} {ls : List (List ℕ)} → Blank l → BlankOrEnd (l ∷ ls)

-- no line stands before, or a blank one: there is none, or the last is blank
pub data Fresh : List (List ℕ) → Type 0 where
  start : Fresh []
  blank_last : {l : List ℕ} → Blank l → Fresh (l ∷ [])
  further : {l m : List ℕ} {ls : List (List ℕ)} → Fresh (m ∷ ls) → Fresh (l ∷ m ∷ ls)

-- "A block is a maximal run of other lines": b is lines of s, at least one and none blank, and on either side of them stands no line, or a blank one
pub record MaximalRun (s : List ℕ) (b : Placed) : Type 0 where
  pub before : List (List ℕ)
  pub first : List ℕ
  pub run : List (List ℕ)
  pub after : List (List ℕ)
  pub are_lines : Lines s (before ++ ((first ∷ run) ++ after))
  pub others : AllOther (first ∷ run)
  pub fresh : Fresh before
  pub over : BlankOrEnd after
  pub whole : b ≡ record { at = length (bytes_of_lines before); bytes = bytes_of_lines (first ∷ run) }

-- "A block is a maximal run of other lines": all of them among the lines from place `at` on, in order. The lines are blank ones and runs of others, and after a run no line follows, or a blank one
pub data Blocks : ℕ → List (List ℕ) → List Placed → Type 0 where
  none : {at : ℕ} → Blocks at [] []
  blank : {at : ℕ} {l : List ℕ} {ls : List (List ℕ)} {bs : List Placed} → Blank l → Blocks (at + length l) ls bs → Blocks at (l ∷ ls) bs
  block : {at : ℕ} {l : List ℕ} {run rest : List (List ℕ)} {bs : List Placed} → AllOther (l ∷ run) → BlankOrEnd rest
      → Blocks (at + length (bytes_of_lines (l ∷ run))) rest bs → Blocks at ((l ∷ run) ++ rest) (record { at = at; bytes = bytes_of_lines (l ∷ run) } ∷ bs)

-- the blocks of the note s
pub record BlocksOf (s : List ℕ) (bs : List Placed) : Type 0 where
  pub lines : List (List ℕ)
  pub are_lines : Lines s lines
  pub are_blocks : Blocks 0 lines bs
