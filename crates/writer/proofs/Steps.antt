-- A step of the pass by a row: what the row calls for is written, and the pass goes on after it.
use Prim.Native.Nat.{ℕ, suc, ◌+◌, ◌-◌, ◌≤◌, ◌<◌}
use native.Mathlib.Omega.{arith}
use mathlib.Core.Path.{◌≡◌, refl, ap, ◌∙◌}
use mathlib.Core.List.{List, [], ◌++◌}
use mathlib.Core.Bool.{Bool, true, false}
use lib.ListN.{length, get_or, take}
use lib.Seq.{length-take-le}
use Rattle.scan.specs.Member.{In}
use Rattle.texts.specs.Texts.{Texts}
use Rattle.row.specs.First.{bytes_of}
use Rattle.row.specs.Reading.{Within as Lies}
use Rattle.joined.specs.Reading.{joined}
use Rattle.inline.specs.Rows.{row_end}
use Rattle.note.specs.Reading.{span_rows}
use Rattle.note.proofs.Fits.{rows_fit}
use Rattle.html.specs.Tags.{link_close}
use Rattle.html.specs.Reading.{link_open, image_open, image_close}
use Rattle.code.specs.Reading.{code_element}
use Rattle.buffer.specs.declared.Page.{Page}
use Rattle.buffer.specs.Stored.{HasRoom, Grows}
use Rattle.buffer.proofs.Writing.{leads, onward, room, nothing}
use Rattle.page.specs.Reading.{is_code, is_image, row_start, text_start, text_end, text, destination, title, target_text, open_tag, close_tag, Written}
use Rattle.page.proofs.Turns.{turn}
use Rattle.page.proofs.Extent.{row_some, link_text}
use Rattle.page.proofs.Parts.{parts_in_order}
use Rattle.writer.specs.Pass.{left, Calls, StartsHere, ClosesHere, Room, Passes}

-- ---- a row's text lies in the note, its destination and title in the text that its definition number names
module _ (T : Texts) (r : List ℕ) (i : In r (span_rows T)) where
  pub text_lies : Lies T.note (text r)
  text_lies = let f = rows_fit T r i in record { ordered = f.text; inside = omega (arith, f.text_ends_at, f.end) }

  pub numbered : get_or r 5 0 ≤ length (joined T)
  numbered = (rows_fit T r i).number

  module _ {t : List ℕ} (n : t ≡ target_text T (joined T) r) where
    pub destination_lies : Lies t (destination r)
    destination_lies = rw n (record { ordered = (parts_in_order T r i).0; inside = (rows_fit T r i).destination_end })

    pub title_lies : Lies t (title r)
    title_lies = rw n (record { ordered = (parts_in_order T r i).1; inside = (rows_fit T r i).title_end })

-- ---- its tags
module _ (T : Texts) (r : List ℕ) {t : List ℕ} (n : t ≡ target_text T (joined T) r) where
  pub opening_link : is_image r ≡ false → open_tag T (joined T) r ≡ link_open (bytes_of t (destination r)) (bytes_of t (title r))
  opening_link e = rw (e, n) refl

  pub opening_image : is_image r ≡ true → open_tag T (joined T) r ≡ image_open (bytes_of t (destination r))
  opening_image e = rw (e, n) refl

  pub closing_image : is_image r ≡ true → close_tag T (joined T) r ≡ image_close (bytes_of t (title r))
  closing_image e = rw (e, n) refl

pub closing_link : (T : Texts) (r : List ℕ) → is_image r ≡ false → close_tag T (joined T) r ≡ link_close
closing_link T r e = rw e refl

-- ---- w is written at place i, and n is the next place
abbrev written : ℕ → List ℕ → Written
written n w = record { size = n; bytes = w }

module _ {T : Texts} {e i : ℕ} {w : Written} (q : Calls T e i w) (n : ℕ) (l : i < n) (z : w.size ≡ n - i) where
  goes : left T e i ≡ w.bytes ++ left T e n
  goes =
      let j : i + suc (n - i - 1) ≡ n = omega arith in
      turn T (joined T) (span_rows T) (take e T.note) 0 i (n - i - 1) (omega (arith, length-take-le e T.note q.within, q.inside)) q.called (omega arith)
      ∙ ap (λ (k : ℕ). w.bytes ++ left T e k) j

  fits : (page : Page) → Room T e i page → HasRoom page w.bytes
  fits page h = room w.bytes (left T e n) (leads {p = page}) goes h

  passes : {page page' : Page} → Grows page w.bytes page' → Passes T e i page n page'
  passes x = record { written = onward leads goes x; onward = l }

-- ---- the start of a row
module _ {T : Texts} {e i : ℕ} {r : List ℕ} {tags : Bool} (q : StartsHere T e r tags i) where
  -- a code span
  module _ (c : is_code r ≡ true) where
    code_called : Calls T e i (written (row_end r - row_start r) (code_element tags (bytes_of T.note (text r))))
    code_called = rw c at q.calls

    code_on : i < row_end r
    code_on = omega (arith, q.stands, row_some T r q.is_row)

    pub code_room : (page : Page) → Room T e i page → HasRoom page (code_element tags (bytes_of T.note (text r)))
    code_room = fits code_called (row_end r) code_on (omega (arith, q.stands))

    pub code_passes : {page page' : Page} → Grows page (code_element tags (bytes_of T.note (text r))) page' → Passes T e i page (row_end r) page'
    code_passes = passes code_called (row_end r) code_on (omega (arith, q.stands))

  -- a link or an image
  module _ (c : is_code r ≡ false) where
    open_on : i < text_start r
    open_on = omega (arith, q.stands, (link_text T r q.is_row c).0)

    module _ (t : tags ≡ true) where
      open_called : Calls T e i (written (text_start r - row_start r) (open_tag T (joined T) r))
      open_called = rw (c, t) at q.calls

      pub open_room : (page : Page) → Room T e i page → HasRoom page (open_tag T (joined T) r)
      open_room = fits open_called (text_start r) open_on (omega (arith, q.stands))

      pub open_passes : {page page' : Page} → Grows page (open_tag T (joined T) r) page' → Passes T e i page (text_start r) page'
      open_passes = passes open_called (text_start r) open_on (omega (arith, q.stands))

    pub bare_open_passes : tags ≡ false → {page : Page} → Passes T e i page (text_start r) page
    bare_open_passes f =
        let k : Calls T e i (written (text_start r - row_start r) []) = rw (c, f) at q.calls in
        passes k (text_start r) open_on (omega (arith, q.stands)) nothing

-- ---- the end of its text
module _ {T : Texts} {e i : ℕ} {r : List ℕ} {tags : Bool} (q : ClosesHere T e r tags i) where
  close_on : i < row_end r
  close_on = omega (arith, q.stands, (link_text T r q.is_row q.no_code).2)

  module _ (t : tags ≡ true) where
    close_called : Calls T e i (written (row_end r - text_end r) (close_tag T (joined T) r))
    close_called = rw t at q.calls

    pub close_room : (page : Page) → Room T e i page → HasRoom page (close_tag T (joined T) r)
    close_room = fits close_called (row_end r) close_on (omega (arith, q.stands))

    pub close_passes : {page page' : Page} → Grows page (close_tag T (joined T) r) page' → Passes T e i page (row_end r) page'
    close_passes = passes close_called (row_end r) close_on (omega (arith, q.stands))

  pub bare_close_passes : tags ≡ false → {page : Page} → Passes T e i page (row_end r) page
  bare_close_passes f =
      let k : Calls T e i (written (row_end r - text_end r) []) = rw f at q.calls in
      passes k (row_end r) close_on (omega (arith, q.stands)) nothing
