-- Definitions and paragraphs, by reading a text that ends with the block. Places count from the text's start.
use Rattle.std.specs.Prelude.{ℕ, zero, suc, ◌+◌, ◌-◌, List, [], ◌∷◌, ◌++◌, cond, length, get_or, take, drop, leb, eqb, None, Option, Some}
use Rattle.scan.specs.Reading.{past}
use Rattle.label.specs.Reading.{label_end}
use Rattle.target.specs.Reading.{space_run, part, destination_of, title_of}
use Rattle.target.specs.declared.Part.{Part}
use Rattle.block.specs.Line.{padding}
use Rattle.block.specs.Block.{Placed}
use Rattle.block.specs.Reading.{blocks}
use Rattle.row.specs.declared.Definition.{Definition}
use Rattle.definition.specs.Definition.{space}
use Rattle.definition.specs.declared.Entry.{Entry}

-- ---- one definition
-- the place after spaces and tabs from place n on, and the end of their line
unfoldable pub line_after : List ℕ → ℕ → Option ℕ
line_after s n =
    cond (leb (length s) (past padding s n)) (Some (past padding s n))
    (cond (eqb (get_or s (past padding s n) 0) 10) (Some (past padding s n + 1)) None)

-- a title from a to e, or 0 and 0, where its line's end is found
abbrev pub span_to : ℕ → ℕ → Option ℕ → Option Part
span_to a e (Some n) = Some (part a e n)
span_to a e None = None

abbrev pub with_line : List ℕ → Option Part → Option Part
with_line s (Some p) = span_to p.start p.end (line_after s p.next)
with_line s None = None

-- the place after space from place n on
abbrev pub space_after : List ℕ → ℕ → ℕ
space_after s n = n + space_run (drop n s)

-- from place n on: at least one byte of space, a title, and its line's end
unfoldable pub title_after : List ℕ → ℕ → Option Part
title_after s n = cond (eqb (space_after s n) n) None (with_line s (title_of (drop (space_after s n) s) (space_after s n)))

-- from place n on, where there is no title: the line's end
abbrev pub or_line : List ℕ → ℕ → Option Part → Option Part
or_line s n (Some p) = Some p
or_line s n None = span_to 0 0 (line_after s n)

-- from place n on: the title, or 0 and 0, and the place after the definition
unfoldable pub ending_after : List ℕ → ℕ → Option Part
ending_after s n = or_line s n (title_after s n)

-- label from l to e, destination from a to z, title from t to u
abbrev pub row : ℕ → ℕ → ℕ → ℕ → ℕ → ℕ → Definition
row l e a z t u = record { label = record { start = l; end = e }; destination = record { start = a; end = z }; title = record { start = t; end = u } }

abbrev pub entry : Definition → ℕ → Entry
entry d n = record { definition = d; next = n }

abbrev pub with_ending : ℕ → ℕ → ℕ → ℕ → Option Part → Option Entry
with_ending l e a z (Some t) = Some (entry (row l e a z t.start t.end) t.next)
with_ending l e a z None = None

abbrev pub with_destination : List ℕ → ℕ → ℕ → Option Part → Option Entry
with_destination s l e (Some p) = with_ending l e p.start p.end (ending_after s p.next)
with_destination s l e None = None

-- what follows a label that runs from l to e
unfoldable pub after_label : List ℕ → ℕ → ℕ → Option Entry
after_label s l e =
    cond (eqb (get_or s (e + 1) 0) 58) (with_destination s l e (destination_of (drop (space_after s (e + 2)) s) (space_after s (e + 2)))) None

abbrev pub with_label : List ℕ → ℕ → Option ℕ → Option Entry
with_label s l (Some e) = after_label s l e
with_label s l None = None

-- what follows an indent, from place i on
unfoldable pub after_indent : List ℕ → ℕ → Option Entry
after_indent s i = cond (eqb (get_or s i 0) 91) (with_label s (i + 1) (label_end (drop (i + 1) s) (i + 1))) None

-- the definition that starts at place `at`, and the place after it
unfoldable pub definition_at : List ℕ → ℕ → Option Entry
definition_at s at = cond (leb (past space s at - at) 3) (after_indent s (past space s at)) None

-- ---- a block
-- the definitions taken, and where the rest starts
pub record Taking : Type 0 where
  pub definitions : List Definition
  pub after : ℕ

abbrev pub take_on : (ℕ → Taking) → ℕ → Option Entry → Taking
take_on next at (Some e) = record { definitions = e.definition ∷ (next e.next).definitions; after = (next e.next).after }
take_on next at None = record { definitions = []; after = at }

-- at most k of them
unfoldable pub taking_from : ℕ → List ℕ → ℕ → Taking
taking_from zero s at = record { definitions = []; after = at }
taking_from (suc k) s at = take_on (taking_from k s) at (definition_at s at)

-- the definitions that are taken from place `at` on
unfoldable pub definitions_from : List ℕ → ℕ → Taking
definitions_from s at = taking_from (length s) s at

-- where a paragraph at the end of s ends: before a final LF
unfoldable pub paragraph_end : List ℕ → ℕ
paragraph_end s = cond (eqb (get_or s (length s - 1) 0) 10) (length s - 1) (length s)

-- what is left of s from place `at` on, less a final LF
unfoldable pub paragraph_from : List ℕ → ℕ → List Placed
paragraph_from s at = cond (leb (length s) at) [] (record { at = at; bytes = take (paragraph_end s - at) (drop at s) } ∷ [])

-- ---- the note
-- the note up to the end of its block b
abbrev pub up_to_end : List ℕ → Placed → List ℕ
up_to_end s b = take (b.at + length b.bytes) s

-- what is taken from the block b of the note s, and the paragraph that it leaves, if any
unfoldable pub definitions_of : List ℕ → Placed → Taking
definitions_of s b = definitions_from (up_to_end s b) b.at

unfoldable pub paragraph_of : List ℕ → Placed → List Placed
paragraph_of s b = paragraph_from (up_to_end s b) (definitions_of s b).after

-- the definitions and the paragraphs of these blocks of the note s
unfoldable pub definitions_in : List ℕ → List Placed → List Definition
definitions_in s [] = []
definitions_in s (b ∷ bs) = (definitions_of s b).definitions ++ definitions_in s bs

unfoldable pub paragraphs_in : List ℕ → List Placed → List Placed
paragraphs_in s [] = []
paragraphs_in s (b ∷ bs) = paragraph_of s b ++ paragraphs_in s bs

-- the definitions of the note s, and its paragraphs
unfoldable pub definitions : List ℕ → List Definition
definitions s = definitions_in s (blocks s)

unfoldable pub paragraphs : List ℕ → List Placed
paragraphs s = paragraphs_in s (blocks s)
