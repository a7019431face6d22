-- Document 01's whole example, with a code span before its link, and with its definition in a sheet, and an image that holds a link: where the rows call for something, and for what.
use Rattle.std.specs.Prelude.{ℕ, ◌≡◌, refl, true, false}
use mathlib.Core.List.{List, [], ◌∷◌, ◌++◌, flat_map}
use Rattle.scan.specs.Ascii.{ascii}
use Rattle.scan.specs.Reading.{scan, run, past, leap, closing_step, closing}
use Rattle.text.specs.Sequences.{ones_from, leading_ones, sequence_length, characters}
use Rattle.texts.specs.Texts.{Texts, texts}
use Rattle.label.specs.Reading.{inky, fits_after, fits, label_end}
use Rattle.target.specs.Reading.{space_from, depth_after, raw_step, raw_run, judged, destination_of, closer, title_of}
use Rattle.block.specs.Reading.{blank_line, line_length, block_rest, block_length, part_length, block_here, blocks}
use Rattle.definition.specs.Reading as definition
use Rattle.joined.specs.Reading.{joined}
use Rattle.escaping.specs.Escaping.{escaped}
use Rattle.href.specs.Href.{stays, hex_digit, href_byte}
use Rattle.escaping.specs.Reading.{undone}
use Rattle.code.specs.Reading.{margin}
use Rattle.html.specs.Reading.{title_attribute, link_open, image_open, image_close}
use Rattle.page.specs.Reading.{first_row, tagged, Written, started, closed}
use Rattle.cursor.specs.Cursor.{waits, closing_place}
use Rattle.cursor.specs.Starts.{entry_of, tags_in, index_in, described_from}

abbrev alone : Texts
alone = texts (ascii "[max]: /q2/max \"June\"\n\nUse [max].\n") []

-- its definition in the sheet
abbrev beside : Texts
beside = texts (ascii "Use [max].\n") (ascii "[max]: /q2/max \"June\"\n")

-- "Span row 5 27 32 28 31 1 7 14 16 20.", and it gains 3
abbrev link : List ℕ
link = 5 ∷ 27 ∷ 32 ∷ 28 ∷ 31 ∷ 1 ∷ 7 ∷ 14 ∷ 16 ∷ 20 ∷ 3 ∷ []

-- the row of its link then
abbrev reference : List ℕ
reference = 5 ∷ 4 ∷ 9 ∷ 5 ∷ 8 ∷ 1 ∷ 7 ∷ 14 ∷ 16 ∷ 20 ∷ 1 ∷ []

-- a code span from 23 to 26, whose text is one byte
abbrev code : List ℕ
code = 1 ∷ 23 ∷ 26 ∷ 24 ∷ 25 ∷ 0 ∷ 0 ∷ 0 ∷ 0 ∷ 0 ∷ 3 ∷ []

abbrev table : List ℕ
table = code ++ link

abbrev written : ℕ → List ℕ → Written
written n w = record { size = n; bytes = w }

-- an image whose description is a link, and the rows of both: the link's comes first, since it ends first
abbrev picture : Texts
picture = texts (ascii "![[a](b)](c 't')\n") []

abbrev inner : List ℕ
inner = 2 ∷ 2 ∷ 8 ∷ 3 ∷ 4 ∷ 0 ∷ 6 ∷ 7 ∷ 0 ∷ 0 ∷ 1 ∷ []

abbrev image : List ℕ
image = 6 ∷ 0 ∷ 16 ∷ 2 ∷ 8 ∷ 0 ∷ 10 ∷ 11 ∷ 13 ∷ 14 ∷ 1 ∷ []

pub record Places : Type 0 where
  -- a link waits up to its text's end, a code span nowhere
  pub link_waits : waits 31 link ≡ true
  pub link_passed : waits 32 link ≡ false
  pub code_passed : waits 0 code ≡ false
  -- where the text of the row at the cursor ends, the end before it, and no row
  pub second_row : closing_place table 2 1 33 ≡ 31
  pub end_first : closing_place table 2 1 25 ≡ 25
  pub no_row : closing_place table 2 2 33 ≡ 33
  -- the entry of a row, with tags and without, and what it tells
  pub first_entry : entry_of 0 true ≡ 1
  pub bare_entry : entry_of 0 false ≡ 32_769
  pub entry_row : index_in (entry_of 7 true) ≡ 7
  pub bare_entry_row : index_in (entry_of 7 false) ≡ 7
  pub entry_tags : tags_in (entry_of 7 true) ≡ true
  pub bare_entry_tags : tags_in (entry_of 7 false) ≡ false
  -- the image's description starts at 2, and the link in it; a link moves nothing
  pub description : described_from image 32_768 ≡ 2
  pub earlier : described_from image 1 ≡ 1
  pub no_description : described_from inner 32_768 ≡ 32_768
  pub outer_tagged : tagged (inner ∷ image ∷ []) image ≡ true
  pub inner_bare : tagged (inner ∷ image ∷ []) inner ≡ false

pub places : Places
unfolding closing_place first_row tagged
places = record {
  link_waits = refl;
  link_passed = refl;
  code_passed = refl;
  second_row = refl;
  end_first = refl;
  no_row = refl;
  first_entry = refl;
  bare_entry = refl;
  entry_row = refl;
  bare_entry_row = refl;
  entry_tags = refl;
  bare_entry_tags = refl;
  description = refl;
  earlier = refl;
  no_description = refl;
  outer_tagged = refl;
  inner_bare = refl;
}

pub record Calls : Type 0 where
  pub opens : started alone (joined alone) true link ≡ written 1 (ascii "<a href=\"/q2/max\" title=\"June\">")
  pub opens_from_sheet : started beside (joined beside) true reference ≡ written 1 (ascii "<a href=\"/q2/max\" title=\"June\">")
  pub closes : closed alone (joined alone) true link ≡ written 1 (ascii "</a>")
  pub a_code_span : started alone (joined alone) true code ≡ written 3 (ascii "<code>s</code>")
  -- the image: its tag up to the description, and the rest in place of its tail
  pub an_image_opens : started picture (joined picture) true image ≡ written 2 (ascii "<img src=\"c\" alt=\"")
  pub image_closes : closed picture (joined picture) true image ≡ written 8 (ascii "\" title=\"t\" />")
  -- in a description nothing stands for a link's or an image's tags, and of a code span its content alone
  pub opens_bare : started picture (joined picture) false inner ≡ written 1 []
  pub closes_bare : closed picture (joined picture) false inner ≡ written 4 []
  pub image_opens_bare : started picture (joined picture) false image ≡ written 2 []
  pub image_closes_bare : closed picture (joined picture) false image ≡ written 8 []
  pub code_bare : started alone (joined alone) false code ≡ written 3 (ascii "s")

pub calls : Calls
unfolding flat_map scan run past leap closing_step closing ones_from leading_ones sequence_length characters inky fits_after fits label_end space_from depth_after raw_step raw_run judged destination_of closer title_of
    blank_line line_length block_rest block_length part_length block_here blocks
    definition.line_after definition.title_after definition.ending_after definition.after_label definition.after_indent definition.definition_at definition.taking_from
    definition.definitions_from definition.definitions_of definition.definitions_in definition.definitions joined
    escaped stays hex_digit href_byte undone margin title_attribute link_open image_open image_close
calls = record {
  opens = refl;
  opens_from_sheet = refl;
  closes = refl;
  a_code_span = refl;
  an_image_opens = refl;
  image_closes = refl;
  opens_bare = refl;
  closes_bare = refl;
  image_opens_bare = refl;
  image_closes_bare = refl;
  code_bare = refl;
}
