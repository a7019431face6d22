-- Joined lists, by computation.
use Prim.Native.String.{String}
use Rattle.std.specs.Prelude.{◌≡◌, refl, List, [], ◌∷◌}
use Rattle.scan.specs.Ascii.{ascii}
use Rattle.scan.specs.Reading.{scan, run, past, leap, closing_step, closing}
use Rattle.text.specs.Sequences.{ones_from, leading_ones, sequence_length, characters}
use Rattle.texts.specs.Texts.{texts}
use Rattle.label.specs.Reading.{inky, fits_after, fits, label_end}
use Rattle.target.specs.Reading.{space_from, depth_after, raw_step, raw_run, judged, destination_of, closer, title_of}
use Rattle.block.specs.Reading.{blank_line, line_length, block_rest, block_length, part_length, block_here, blocks}
use Rattle.row.specs.Row.{Listed, listed}
use Rattle.definition.specs.Reading as definition
use Rattle.definition.specs.Reading.{row}
use Rattle.joined.specs.Reading.{joined}

abbrev list : String → String → List Listed
list note sheet = joined (texts (ascii note) (ascii sheet))

pub record Samples : Type 0 where
  -- the note's first, though the sheet's label is equal
  pub both : list "[a]: /n\n\nx" "[a]: /s\n[b]: <s t>" ≡ listed 0 (row 1 2 5 7 0 0) ∷ listed 1 (row 1 2 5 7 0 0) ∷ listed 1 (row 9 10 14 17 0 0) ∷ []
  pub sheet_alone : list "[a]" "[a]: /s" ≡ listed 1 (row 1 2 5 7 0 0) ∷ []
  pub note_alone : list "[a]: /n" "" ≡ listed 0 (row 1 2 5 7 0 0) ∷ []
  -- the texts do not run on into each other
  pub apart : list "[a]:" "/s" ≡ []
  -- "definition cannot interrupt a paragraph", in the sheet too
  pub interrupted : list "[a]" "x\n[a]: /s" ≡ []

pub samples : Samples
unfolding scan run past leap closing_step closing ones_from leading_ones sequence_length characters inky fits_after fits label_end space_from depth_after raw_step raw_run judged destination_of closer title_of
    blank_line line_length block_rest block_length part_length block_here blocks
    definition.line_after definition.title_after definition.ending_after definition.after_label definition.after_indent definition.definition_at definition.taking_from
    definition.definitions_from definition.definitions_of definition.definitions_in definition.definitions joined
samples = record { both = refl; sheet_alone = refl; note_alone = refl; apart = refl; interrupted = refl }
