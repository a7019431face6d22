-- How long a page can be: for each byte of a paragraph at most the longest tag, and for each paragraph its two tags.
use Prim.Native.Nat.{ℕ, zero, suc, ◌+◌, ◌*◌, ◌-◌, ◌≤◌, ◌<◌}
use native.Mathlib.Omega.{arith}
use mathlib.Core.Path.{subst}
use mathlib.Core.Option.{Option, none, some}
use mathlib.Core.Bool.{Bool, true, false}
use mathlib.Core.List.{List, [], ◌∷◌, ◌++◌, flat_map}
use lib.ListN.{length, get_or, length-append, length-take, length-drop}
use lib.Dec.{leb, lit≤}
use Rattle.scan.proofs.Test.{by}
use Rattle.text.specs.Utf8.{note_limit}
use Rattle.texts.specs.Texts.{Texts, text_of}
use Rattle.block.specs.Block.{Placed}
use Rattle.block.proofs.Places as block
use Rattle.row.specs.declared.Range.{Range}
use Rattle.row.specs.Row.{Listed}
use Rattle.row.specs.First.{bytes_of, past_end, named_text}
use Rattle.definition.specs.Reading.{paragraph_from, paragraph_of, definitions_of, paragraphs_in, paragraphs, up_to_end}
use Rattle.definition.proofs.NotePlaces.{Ordered, done, next, paragraphs_in_order}
use Rattle.joined.specs.Reading.{joined}
use Rattle.note.specs.Reading.{span_rows}
use Rattle.escaping.specs.Escaping.{escaped}
use Rattle.html.specs.Tags.{paragraph_open, paragraph_close}
use Rattle.escaping.specs.Reading.{undone, backslash}
use Rattle.buffer.specs.Stored.{page_most}
use Rattle.escaping.proofs.Lengths.{text_most}
use Rattle.code.proofs.Lengths.{code_span_most}
use Rattle.html.proofs.Lengths.{open_most, image_open_most, image_close_most}
use Rattle.page.specs.Page.{tag_if, PageIs}
use Rattle.page.specs.Reading.{is_code, is_image, text, destination, title, target_text, open_tag, close_tag, started, tagged, written_by, written_at, first_row, starts, closes, content_from, paragraph_page, page_by, page_of}
use Rattle.page.proofs.Page.{page_iff}

part_most : (s : List ℕ) (r : Range) → length (bytes_of s r) ≤ length s
part_most s r = simp (length-take, length-drop) (omega arith)

escaped_most : (b : ℕ) → length (escaped b) ≤ 6
unfolding undone flat_map
escaped_most b = omega (arith, text_most (b ∷ []), length-append (escaped b) [])

-- ---- paragraphs: there are at most as many as bytes, and so is the sum of their lengths
abbrev total : List Placed → ℕ
total [] = 0
total (q ∷ ps) = length q.bytes + total ps

total_most : {s : List ℕ} {from : ℕ} {ps : List Placed} → Ordered s from ps → from ≤ length s → from + total ps ≤ length s
total_most done h = omega arith
total_most (next k w o) h = omega (arith, w.inside, total_most o w.inside)

one_most : (s : List ℕ) (at : ℕ) → length (paragraph_from s at) ≤ 1
unfolding paragraph_from
one_most s at = by (leb (length s) at) (λ e. rw e (lit≤ tt)) (λ e. rw e (lit≤ tt))

count_in : {s : List ℕ} {from : ℕ} {bs : List Placed} → block.InOrder s from bs → from ≤ length s → from + length (paragraphs_in s bs) ≤ length s
unfolding paragraphs_in paragraph_of
count_in block.done h = omega arith
count_in {s} (block.next {b = b} {bs = bs} k w o) h =
    omega (arith, w.inside, w.nonempty, count_in o w.inside, one_most (up_to_end s b) (definitions_of s b).after, length-append (paragraph_from (up_to_end s b) (definitions_of s b).after) (paragraphs_in s bs))

count_most : (s : List ℕ) → length (paragraphs s) ≤ length s
unfolding paragraphs
count_most s = let z : 0 ≤ length s = omega arith in omega (arith, count_in (block.blocks_in_order s) z)

-- ---- the page
-- the longest tag in texts within the length limit
abbrev tag_most : ℕ
tag_most = 393_236

-- both texts are within the length limit
module _ (T : Texts) (note : length T.note ≤ note_limit) (sheet : length T.sheet ≤ note_limit) (js : List Listed) (rows : List (List ℕ)) where
  either_most : (k : ℕ) → length (text_of T k) ≤ note_limit
  either_most zero = note
  either_most (suc k) = sheet

  named_most : (n : ℕ) → length (named_text T js n) ≤ note_limit
  named_most zero = note
  named_most (suc k) = either_most (get_or js k past_end).text

  -- what a row names
  destination_most : (r : List ℕ) → length (bytes_of (target_text T js r) (destination r)) ≤ note_limit
  destination_most r = omega (arith, part_most (target_text T js r) (destination r), named_most (get_or r 5 0))

  title_most : (r : List ℕ) → length (bytes_of (target_text T js r) (title r)) ≤ note_limit
  title_most r = omega (arith, part_most (target_text T js r) (title r), named_most (get_or r 5 0))

  open_tag_most : (r : List ℕ) → length (open_tag T js r) ≤ tag_most
  open_tag_most r =
      let d = bytes_of (target_text T js r) (destination r) in
      let t = bytes_of (target_text T js r) (title r) in
      by (is_image r) (λ e. rw e (omega (arith, image_open_most d, destination_most r))) (λ e. rw e (omega (arith, open_most d t, destination_most r, title_most r)))

  close_tag_most : (r : List ℕ) → length (close_tag T js r) ≤ tag_most
  close_tag_most r =
      by (is_image r) (λ e. rw e (omega (arith, image_close_most (bytes_of (target_text T js r) (title r)), title_most r))) (λ e. rw e (lit≤ tt))

  tag_if_most : (b : Bool) (w : List ℕ) → length w ≤ tag_most → length (tag_if b w) ≤ tag_most
  tag_if_most true w h = h
  tag_if_most false w h = lit≤ tt

  started_most : (b : Bool) (r : List ℕ) → length (started T js b r).bytes ≤ tag_most
  started_most b r =
      by (is_code r) (λ e. rw e (omega (arith, code_span_most b (bytes_of T.note (text r)), part_most T.note (text r), note)))
      (λ e. rw e (tag_if_most b (open_tag T js r) (open_tag_most r)))

  written_most : (a c : Option (List ℕ)) (l : List ℕ) → length (written_by T js rows a c l).bytes ≤ tag_most
  unfolding written_by
  written_most (some r) c l = started_most (tagged rows r) r
  written_most none (some r) l = tag_if_most (tagged rows r) (close_tag T js r) (close_tag_most r)
  written_most none none l = omega (arith, escaped_most (get_or l (backslash l) 0))

  content_most : (k : ℕ) (l : List ℕ) (at : ℕ) → length (content_from T js rows k l at) ≤ tag_most * length l
  unfolding content_from
  content_most k [] at = lit≤ tt
  content_most zero (b ∷ l) at =
      let n = (written_at T js rows (b ∷ l) at).size - 1 in
      omega (
        arith,
        written_most (first_row (starts at) rows) (first_row (closes at) rows) (b ∷ l),
        content_most n l (at + 1),
        length-append (written_at T js rows (b ∷ l) at).bytes (content_from T js rows n l (at + 1)),
      )
  content_most (suc k) (b ∷ l) at = omega (arith, content_most k l (at + 1))

  paragraph_most : (q : Placed) → length (paragraph_page T js rows q) ≤ 8 + tag_most * length q.bytes
  unfolding paragraph_page
  paragraph_most q =
      let w = content_from T js rows 0 q.bytes q.at in
      omega (arith, content_most 0 q.bytes q.at, length-append paragraph_open w, length-append (paragraph_open ++ w) paragraph_close)

  in_most : (ps : List Placed) → length (flat_map (paragraph_page T js rows) ps) ≤ 8 * length ps + tag_most * total ps
  unfolding flat_map
  in_most [] = lit≤ tt
  in_most (q ∷ ps) = omega (arith, paragraph_most q, in_most ps, length-append (paragraph_page T js rows q) (flat_map (paragraph_page T js rows) ps))

-- the page of texts within the length limit is shorter than the most that a page is counted to
pub page_most_lem : (T : Texts) → length T.note ≤ note_limit → length T.sheet ≤ note_limit → length (page_of T) < page_most
unfolding page_of page_by
page_most_lem T note sheet =
    let s = T.note in
    let z : 0 ≤ length s = omega arith in
    omega (arith, note, in_most T note sheet (joined T) (span_rows T) (paragraphs s), count_most s, total_most (paragraphs_in_order s) z)

pub law_most : (T : Texts) (w : List ℕ) → length T.note ≤ note_limit → length T.sheet ≤ note_limit → PageIs T w → length w < page_most
law_most T w note sheet p = subst (λ (x : List ℕ). length x < page_most) ((page_iff T w).1 p) (page_most_lem T note sheet)
