-- Conflicts, by computation.
use Prim.Native.String.{String}
use Rattle.std.specs.Prelude.{◌≡◌, refl, None, Option, Some, ℕ}
use Rattle.scan.specs.Ascii.{ascii}
use Rattle.scan.specs.Reading.{scan, run, past, leap, closing_step, closing}
use Rattle.text.specs.Sequences.{ones_from, leading_ones, sequence_length, characters}
use Rattle.texts.specs.Texts.{texts}
use Rattle.label.specs.Reading.{inky, fits_after, fits, label_end}
use Rattle.target.specs.Reading.{space_from, depth_after, raw_step, raw_run, judged, destination_of, closer, title_of}
use Rattle.matching.specs.Reading.{lower, pair, code_of, folds_from, spaced, squeeze, compared, equals, matches}
use Rattle.block.specs.Reading.{blank_line, line_length, block_rest, block_length, part_length, block_here, blocks}
use Rattle.row.specs.Reading.{match_from}
use Rattle.definition.specs.Reading as definition
use Rattle.joined.specs.Reading.{joined}
use Rattle.conflict.specs.Reading.{differ, differs_from, conflict_from, first_conflict}

abbrev found : String → String → Option ℕ
found note sheet = first_conflict (texts (ascii note) (ascii sheet))

pub record Samples : Type 0 where
  -- "differ in destination bytes, title bytes or the presence of a title"
  pub destinations : found "[a]: /1\n[a]: /2" "" ≡ Some 1
  pub titles : found "[a]: /1 'x'\n[a]: /1 'y'" "" ≡ Some 1
  pub presence : found "[a]: /1 \"\"\n[a]: /1" "" ≡ Some 1
  -- "in the note, the sheet or one in each"
  pub sheet_alone : found "x" "[a]: /1\n[b]: /2\n[a]: /3" ≡ Some 2
  pub one_in_each : found "[a]: /1" "[a]: /2" ≡ Some 1
  -- labels are equal as labels are, parts by their bytes: escapes are not undone, letters not folded
  pub labels : found "[A  b]: /1\n[a B]: /2" "" ≡ Some 1
  pub escapes : found "[a]: /1!\n[a]: /1\\!" "" ≡ Some 1
  pub letters : found "[a]: /x\n[a]: /X" "" ≡ Some 1
  -- not neighbours; the first of several
  pub apart : found "[a]: /1\n[b]: /2\n[c]: /3\n[a]: /4\n[b]: /5" "" ≡ Some 3
  -- the third is as the first, and both differ from the second
  pub between : found "[a]: /1\n[a]: /2\n[a]: /1" "" ≡ Some 1
  -- "Identical repeats still pass.", whatever stands around the parts
  pub repeats : found "[a]: /1 'x'\n[A]:  </1>\n(x)" "[a]: /1 \"x\"" ≡ None
  pub empty_titles : found "[a]: /1 ''\n[a]: /1 \"\"" "" ≡ None
  pub other_labels : found "[a]: /1\n[b]: /2" "[c]: /3" ≡ None
  pub none_there : found "" "" ≡ None

pub samples : Samples
unfolding scan run past leap closing_step closing ones_from leading_ones sequence_length characters inky fits_after fits label_end space_from depth_after raw_step raw_run judged destination_of closer title_of
    lower pair code_of folds_from spaced squeeze compared equals matches blank_line line_length block_rest block_length part_length block_here blocks match_from
    definition.line_after definition.title_after definition.ending_after definition.after_label definition.after_indent definition.definition_at definition.taking_from
    definition.definitions_from definition.definitions_of definition.definitions_in definition.definitions joined differ differs_from conflict_from first_conflict
samples =
    record {
      destinations = refl;
      titles = refl;
      presence = refl;
      sheet_alone = refl;
      one_in_each = refl;
      labels = refl;
      escapes = refl;
      letters = refl;
      apart = refl;
      between = refl;
      repeats = refl;
      empty_titles = refl;
      other_labels = refl;
      none_there = refl;
    }
