-- Two texts and a label with the enquiry's answer, by computation.
use Rattle.std.specs.Prelude.{ℕ, ◌≡◌, refl, List, [], ◌∷◌, ◌++◌, map, replicate, Err}
use Prim.Native.String.{String}
use Rattle.scan.specs.Ascii.{ascii}
use Rattle.scan.specs.Reading.{scan, run, past, leap, closing_step, closing}
use Rattle.text.specs.Utf8.{table}
use Rattle.text.specs.Sequences.{ones_from, leading_ones, sequence_length, characters}
use Rattle.text.specs.Reading.{row_for, starts, character_length, good_length, first_bad_past, first_bad}
use Rattle.text.specs.Reading as text
use Rattle.texts.specs.Texts.{Texts, texts}
use Rattle.texts.specs.Reading.{check_of}
use Rattle.label.specs.Reading.{inky, fits_after, fits, label_end, unclosed, is_label}
use Rattle.target.specs.Reading.{space_from, depth_after, raw_step, raw_run, judged, destination_of, closer, title_of}
use Rattle.block.specs.Reading.{blank_line, line_length, block_rest, block_length, part_length, block_here, blocks}
use Rattle.matching.specs.Reading.{lower, pair, code_of, folds_from, spaced, squeeze, compared, equals, matches}
use Rattle.row.specs.Reading.{match_from}
use Rattle.definition.specs.Reading as definition
use Rattle.joined.specs.Reading.{joined}
use Rattle.enquiry.specs.declared.Refusal.TheVariants.{Long, Bad, NotLabel, Undefined}
use Rattle.enquiry.specs.Enquiry.{Enquiry, destination_in, part_of}
use Rattle.enquiry.specs.Reading.{good_label, answer_in, answer_for, enquiry_of}

pub record Sample : Type 0 where
  pub T : Texts
  pub label : List ℕ
  pub answer : Enquiry
  pub part : List ℕ

abbrev sample : List ℕ → List ℕ → List ℕ → Enquiry → String → Sample
sample note sheet label answer part = record { T = texts note sheet; label = label; answer = answer; part = ascii part }

-- the first of two, an escape, and an empty destination
abbrev note : List ℕ
note = ascii "[max]: /a\\*b \"June\"\n[MAX]: /c\n\n [x\ny]: <>\n\n[p]"

-- the note's first label, one that the note only uses, and an empty destination
abbrev sheet : List ℕ
sheet = ascii "[max]: /s\n[P]: /t\n[none]: <>"

abbrev pub samples : List Sample
samples =
    sample note [] (ascii "Max") (destination_in 0 7 12) "/a\\*b"
    ∷ sample note [] (ascii " x  y\n\n") (destination_in 0 40 40) ""
    ∷ sample note [] (ascii "p") (Err Undefined) ""
    -- the note's, though both define it; the sheet's, also an empty one, and beside an empty note
    ∷ sample note sheet (ascii "Max") (destination_in 0 7 12) "/a\\*b"
    ∷ sample note sheet (ascii "p") (destination_in 1 15 17) "/t"
    ∷ sample note sheet (ascii "none") (destination_in 1 27 27) ""
    ∷ sample [] sheet (ascii "Max") (destination_in 1 7 9) "/s"
    ∷ sample note sheet (ascii "q") (Err Undefined) ""
    ∷ sample [] [] (ascii "p") (Err Undefined) ""
    ∷ sample note sheet [] (Err NotLabel) ""
    ∷ sample note [] (ascii " ") (Err NotLabel) ""
    ∷ sample note [] (ascii "a]") (Err NotLabel) ""
    ∷ sample note [] (ascii "[") (Err NotLabel) ""
    ∷ sample note [] (ascii "[max]") (Err NotLabel) ""
    ∷ sample note [] (ascii "max" ++ 13 ∷ []) (Err NotLabel) ""
    ∷ sample note [] (0 ∷ ascii "max") (Err NotLabel) ""
    ∷ sample note [] (ascii "max" ++ 195 ∷ []) (Err NotLabel) ""
    ∷ sample (ascii "[a]: b" ++ 13 ∷ []) [] (ascii "a") (Err (Bad 0 6)) ""
    ∷ sample (ascii "[a]: b" ++ 0 ∷ []) [] [] (Err (Bad 0 6)) ""
    ∷ sample (ascii "[a" ++ 237 ∷ 160 ∷ 128 ∷ ascii "]: b") [] (ascii "a") (Err (Bad 0 2)) ""
    ∷ sample (replicate 32769 0) [] [] (Err (Long 0 32769)) ""
    -- the sheet is refused after the note, and before the label, though the note defines it
    ∷ sample note (ascii "x" ++ 13 ∷ []) (ascii "max") (Err (Bad 1 1)) ""
    ∷ sample note (13 ∷ []) [] (Err (Bad 1 0)) ""
    ∷ sample note (replicate 32769 0) (ascii "max") (Err (Long 1 32769)) ""
    ∷ sample (ascii "[a]: b" ++ 13 ∷ []) (13 ∷ []) (ascii "a") (Err (Bad 0 6)) ""
    ∷ []

-- the same texts and labels, as they are answered
abbrev answered : Sample → Sample
answered s = record { T = s.T; label = s.label; answer = enquiry_of s.T s.label; part = part_of s.T (enquiry_of s.T s.label) }

pub samples_hold : map answered samples ≡ samples
unfolding scan run past leap closing_step closing ones_from leading_ones sequence_length characters table row_for starts character_length good_length first_bad_past first_bad text.check_of check_of
    inky fits_after fits label_end unclosed is_label space_from depth_after raw_step raw_run judged destination_of closer title_of
    blank_line line_length block_rest block_length part_length block_here blocks lower pair code_of folds_from spaced squeeze compared equals matches match_from
    definition.line_after definition.title_after definition.ending_after definition.after_label definition.after_indent definition.definition_at definition.taking_from
    definition.definitions_from definition.definitions_of definition.definitions_in definition.definitions joined good_label answer_in answer_for enquiry_of
samples_hold = refl
