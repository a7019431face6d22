-- Pages by computation: the whole example of document 01, the notes of its bench, examples of the sources, and notes with a sheet.
use Rattle.std.specs.Prelude.{ℕ, ◌≡◌, refl}
use Prim.Native.String.{String}
use mathlib.Core.List.{List, [], ◌∷◌, map, flat_map}
use Rattle.scan.specs.Ascii.{ascii}
use Rattle.scan.specs.Reading.{scan as scan_bytes, run, past, leap, closing_step, closing}
use Rattle.text.specs.Sequences.{ones_from, leading_ones, sequence_length, characters}
use Rattle.texts.specs.Texts.{Texts, texts}
use Rattle.label.specs.Reading.{inky, fits_after, fits, label_end, unclosed, is_label}
use Rattle.target.specs.Reading.{space_from, depth_after, raw_step, raw_run, judged, destination_of, closer, title_of}
use Rattle.matching.specs.Reading.{lower, pair, code_of, folds_from, spaced, squeeze, compared, equals, matches}
use Rattle.marking.specs.ReadingSpans.{spans, finish, scan, scan_step, scan_found, scan_start}
use Rattle.block.specs.Reading.{blank_line, line_length, block_rest, block_length, part_length, block_here, blocks}
use Rattle.row.specs.Reading.{match_from}
use Rattle.definition.specs.Reading as definition
use Rattle.joined.specs.Reading.{joined}
use Rattle.inline.specs.ReadingPieces.{count_after, run_step, run_done, closing_run, piece_from}
use Rattle.inline.specs.ReadingTails.{closed_at, after_destination, inline_of, label_after, text_tail, tail_of}
use Rattle.note.specs.Reading.{labels, rows_in, span_rows}
use Rattle.escaping.specs.Escaping.{escaped}
use Rattle.href.specs.Href.{stays, hex_digit, href_byte}
use Rattle.escaping.specs.Reading.{undone}
use Rattle.code.specs.Reading.{margin}
use Rattle.html.specs.Reading.{title_attribute, link_open, image_open, image_close}
use Rattle.page.specs.Reading.{first_row, tagged, written_by, content_from, paragraph_page, page_by, page_of}

pub record Sample : Type 0 where
  pub texts : Texts
  pub page : List ℕ

-- a note with an empty sheet, and its page
infix 5 ◌⇒◌
abbrev ◌⇒◌ : String → String → Sample
s ⇒ w = record { texts = texts (ascii s) []; page = ascii w }

-- with this sheet
abbrev beside : String → Sample → Sample
beside sheet x = record { texts = texts x.texts.note (ascii sheet); page = x.page }

abbrev pub samples : List Sample
samples =
    -- "Whole example, 34 bytes"
    ("[max]: /q2/max \"June\"\n\nUse [max].\n" ⇒ "<p>Use <a href=\"/q2/max\" title=\"June\">max</a>.</p>\n")
    -- no note, no paragraph; two paragraphs, one in the definitions' block
    ∷ ("" ⇒ "")
    ∷ ("\n\n" ⇒ "")
    ∷ ("[foo]: /url\n" ⇒ "")
    ∷ ("a\n\nb\nc\n" ⇒ "<p>a</p>\n<p>b\nc</p>\n")
    ∷ ("[foo]: /url\n\"title\" ok" ⇒ "<p>&quot;title&quot; ok</p>\n")
    -- text, escapes, entities that are none
    ∷ ("a < b & \"c\"" ⇒ "<p>a &lt; b &amp; &quot;c&quot;</p>\n")
    ∷ ("\\*a\\* \\\\ \\b \\[c\\]" ⇒ "<p>*a* \\ \\b [c]</p>\n")
    -- inline links
    ∷ ("[link]()" ⇒ "<p><a href=\"\">link</a></p>\n")
    ∷ ("[a](<b)c>)" ⇒ "<p><a href=\"b)c\">a</a></p>\n")
    ∷ ("[link](foo\\)\\:)" ⇒ "<p><a href=\"foo):\">link</a></p>\n")
    ∷ ("[link](/my uri)" ⇒ "<p>[link](/my uri)</p>\n")
    ∷ ("[link](/uri \"title\")" ⇒ "<p><a href=\"/uri\" title=\"title\">link</a></p>\n")
    ∷ ("[link](/url \"\")" ⇒ "<p><a href=\"/url\">link</a></p>\n")
    ∷ ("[link](/url 'title \"and\" title')" ⇒ "<p><a href=\"/url\" title=\"title &quot;and&quot; title\">link</a></p>\n")
    ∷ ("[](/uri)b" ⇒ "<p><a href=\"/uri\"></a>b</p>\n")
    ∷ ("[link [foo [bar]]](/uri)" ⇒ "<p><a href=\"/uri\">link [foo [bar]]</a></p>\n")
    ∷ ("[link] bar](/uri)" ⇒ "<p>[link] bar](/uri)</p>\n")
    ∷ ("[foo [bar](/uri)](/uri)" ⇒ "<p>[foo <a href=\"/uri\">bar</a>](/uri)</p>\n")
    ∷ ("[a](/u)[b](/v)" ⇒ "<p><a href=\"/u\">a</a><a href=\"/v\">b</a></p>\n")
    -- code spans
    ∷ ("`` foo ` bar ``" ⇒ "<p><code>foo ` bar</code></p>\n")
    ∷ ("`foo\\`bar`" ⇒ "<p><code>foo\\</code>bar`</p>\n")
    ∷ ("```foo``" ⇒ "<p>```foo``</p>\n")
    ∷ ("`a\nb` `<`" ⇒ "<p><code>a b</code> <code>&lt;</code></p>\n")
    ∷ ("[foo`](/uri)`" ⇒ "<p>[foo<code>](/uri)</code></p>\n")
    ∷ ("[a `b` c](/u)" ⇒ "<p><a href=\"/u\">a <code>b</code> c</a></p>\n")
    -- references
    ∷ ("[foo][ref\\[]\n\n[ref\\[]: /uri" ⇒ "<p><a href=\"/uri\">foo</a></p>\n")
    ∷ ("[foo [bar](/uri)][ref]\n\n[ref]: /uri" ⇒ "<p>[foo <a href=\"/uri\">bar</a>]<a href=\"/uri\">ref</a></p>\n")
    ∷ ("[foo][bar][baz]\n\n[baz]: /url1\n[bar]: /url2" ⇒ "<p><a href=\"/url2\">foo</a><a href=\"/url1\">baz</a></p>\n")
    ∷ ("[foo][bar][baz]\n\n[baz]: /url" ⇒ "<p>[foo]<a href=\"/url\">bar</a></p>\n")
    ∷ ("[Foo][]\n\n[foo]: /url \"title\"" ⇒ "<p><a href=\"/url\" title=\"title\">Foo</a></p>\n")
    ∷ ("[foo][ ]\n\n[foo]: /url" ⇒ "<p><a href=\"/url\">foo</a>[ ]</p>\n")
    -- images: source 000's and the standard's
    ∷ ("![foo](/url \"title\")" ⇒ "<p><img src=\"/url\" alt=\"foo\" title=\"title\" /></p>\n")
    ∷ ("![foo ![bar](/url)](/url2)" ⇒ "<p><img src=\"/url2\" alt=\"foo bar\" /></p>\n")
    ∷ ("![foo [bar](/url)](/url2)" ⇒ "<p><img src=\"/url2\" alt=\"foo bar\" /></p>\n")
    ∷ ("My ![foo bar](/path/to/train.jpg  \"title\"   )" ⇒ "<p>My <img src=\"/path/to/train.jpg\" alt=\"foo bar\" title=\"title\" /></p>\n")
    ∷ ("![](/url)" ⇒ "<p><img src=\"/url\" alt=\"\" /></p>\n")
    ∷ ("![foo][bar]\n\n[bar]: /url" ⇒ "<p><img src=\"/url\" alt=\"foo\" /></p>\n")
    ∷ ("![foo] \n[]\n\n[foo]: /url \"title\"" ⇒ "<p><img src=\"/url\" alt=\"foo\" title=\"title\" /> \n[]</p>\n")
    ∷ ("![[foo]]" ⇒ "<p>![[foo]]</p>\n")
    ∷ ("!\\[foo]\n\n[foo]: /url" ⇒ "<p>![foo]</p>\n")
    ∷ ("\\![foo]\n\n[foo]: /url" ⇒ "<p>!<a href=\"/url\">foo</a></p>\n")
    ∷ ("[![moon](moon.jpg)](/uri)" ⇒ "<p><a href=\"/uri\"><img src=\"moon.jpg\" alt=\"moon\" /></a></p>\n")
    ∷ ("![[[foo](uri1)](uri2)](uri3)" ⇒ "<p><img src=\"uri3\" alt=\"[foo](uri2)\" /></p>\n")
    -- what stands in A: escapes undone, the four characters replaced, code without its tags, LF as it is
    ∷ ("![a \\* <&>\" `c  d` e\nf](/u)" ⇒ "<p><img src=\"/u\" alt=\"a * &lt;&amp;&gt;&quot; c  d e\nf\" /></p>\n")
    -- an image that holds a link bars the link around it; what follows is as ever
    ∷ ("[![[a](b)](c)](d) `e` [f](g)" ⇒ "<p>[<img src=\"c\" alt=\"a\" />](d) <code>e</code> <a href=\"g\">f</a></p>\n")
    -- with a sheet: destination and title from its bytes; of two equal labels the note's; an inline link's own; the sheet's paragraphs are ignored
    ∷ beside "[max]: /q2/max \"June\"" ("Use [max]." ⇒ "<p>Use <a href=\"/q2/max\" title=\"June\">max</a>.</p>\n")
    ∷ beside "[a]: /s 'S'\n[b]: /t 'T'"
    ("[a] [b] [c](/i 'I')\n\n[a]: /n 'N'" ⇒ "<p><a href=\"/n\" title=\"N\">a</a> <a href=\"/t\" title=\"T\">b</a> <a href=\"/i\" title=\"I\">c</a></p>\n")
    ∷ beside "x `y` [a]\n\n[a]: /u" ("" ⇒ "")
    ∷ []

abbrev pub read_one : Sample → Sample
read_one x = record { texts = x.texts; page = page_of x.texts }

pub samples_hold : map read_one samples ≡ samples
unfolding scan_bytes run past leap closing_step closing ones_from leading_ones sequence_length characters inky fits_after fits label_end unclosed is_label
    space_from depth_after raw_step raw_run judged destination_of closer title_of lower pair code_of folds_from spaced squeeze compared equals matches
    spans finish scan scan_step scan_found scan_start blank_line line_length block_rest block_length part_length block_here blocks match_from
    definition.line_after definition.title_after definition.ending_after definition.after_label definition.after_indent definition.definition_at definition.taking_from definition.definitions_from
    definition.paragraph_end definition.paragraph_from definition.definitions_of definition.paragraph_of definition.definitions_in definition.paragraphs_in definition.definitions definition.paragraphs
    count_after run_step run_done closing_run piece_from closed_at after_destination inline_of label_after text_tail tail_of joined labels rows_in span_rows
    flat_map escaped stays hex_digit href_byte undone margin title_attribute link_open image_open image_close first_row tagged written_by content_from paragraph_page page_by page_of
samples_hold = refl
