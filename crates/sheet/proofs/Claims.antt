-- What a sheet leaves as it is.
use Rattle.std.specs.Prelude.{None, Option as Place, Some, Err, Ok}
use Prim.Native.Nat.{ℕ, zero, suc, ◌≤◌, ◌<◌}
use native.Mathlib.Omega.{arith}
use mathlib.Core.Path.{◌≡◌, refl, sym, ap, ap₂, ◌∙◌, subst}
use mathlib.Core.Option.{Option, none, some}
use mathlib.Core.List.{List, [], ◌∷◌, ◌++◌, map, append-nil}
use mathlib.Core.Bool.{Bool, true, false, cond}
use borrow.Author.Tests.{ltb-true, ltb-false}
use lib.ListN.{length, get_or, take, drop, length-map, get_or-append}
use lib.Dec.{ltb, eqb}
use Rattle.scan.proofs.Test.{by}
use Rattle.scan.specs.Byte.{within}
use Rattle.scan.specs.Member.{In}
use Rattle.text.specs.declared.Fault.TheVariants as text
use Rattle.text.specs.Reading as one
use Rattle.texts.specs.Texts.{Texts, texts}
use Rattle.texts.proofs.Refusals.{by_both}
use Rattle.rows.specs.Rows
use Rattle.matching.specs.Form.{Equal}
use Rattle.row.specs.declared.Definition.{Definition}
use Rattle.row.specs.Row as definition_table
use Rattle.row.specs.Row.{Listed, listed, absent, definition}
use Rattle.row.specs.First.{bytes_of, labels_of, past_end, named_text, FirstEqual}
use Rattle.row.specs.Reading.{first_match}
use Rattle.definition.specs.Reading.{definitions}
use Rattle.joined.specs.Joined.{listed_in}
use Rattle.joined.specs.Reading.{joined}
use Rattle.joined.proofs.Places.{length_joined}
use Rattle.span.specs.Row.{is_reference}
use Rattle.note.specs.Reading as both
use Rattle.note.specs.Claims.{looked_up}
use Rattle.note.proofs.Markings.{marked, list_is_read}
use Rattle.note.proofs.References.{references_refer}
use Rattle.page.specs.Reading as both_page
use Rattle.paragraphs.specs.Spans.{spans_filled}
use Rattle.notice.specs.Answers.{Reading}
use Rattle.notice.specs.Answers as reader
use Rattle.notice.specs.Reading as reader_readings
use Rattle.notice.proofs.Order.{by_check}
use Rattle.notice.proofs.Given.{given_or_kept}
use Rattle.rendering.specs.Answers.{Rendering}
use Rattle.rendering.specs.Answers as writer
use Rattle.rendering.specs.Reading as writer_readings
use Rattle.rendering.proofs.Alike.{same_named}
use Rattle.enquiry.specs.declared.Refusal.{Refusal}
use Rattle.enquiry.specs.Enquiry.{Enquiry}
use Rattle.enquiry.specs.Enquiry as enquiries
use Rattle.enquiry.specs.Reading as enquiry_readings
use Rattle.enquiry.proofs.Lookup.{joined_labels}
use Rattle.sheet.specs.Alone as alone
use Rattle.sheet.specs.Answers as alone_answers
use Rattle.sheet.specs.Claims.{EmptySheet, There, EachThere, NoteFirst, RepeatedSheet, SheetClaims}
use Rattle.sheet.proofs.Lists.{named_note}
use Rattle.sheet.proofs.Spans.{span_rows_alone, first_deep_alone}
use Rattle.sheet.proofs.Pages.{no_definitions, none_there, page_alone}

-- ---- a sheet that repeats labels of the note
pub repeated_sheet : (T : Texts) → EachThere (alone.labels T.note) (alone.labels T.sheet) → RepeatedSheet T
repeated_sheet T there = record { rows_of_spans = span_rows_alone T there; first_too_deep = first_deep_alone T there; page = page_alone T there }

-- ---- the empty sheet
-- it is good, and has no definition
empty_good : one.check_of [] ≡ Ok tt
unfolding one.check_of one.first_bad one.first_bad_past
empty_good = refl

nothing_defined : (ds : List Definition) → length ds ≡ 0 → ds ≡ []
nothing_defined [] e = refl
nothing_defined (d ∷ ds) e = absurd (omega arith)

-- rows of values made of others
rows_mapped : {A B : Type 0} (f : B → List ℕ) (g : A → B) (xs : List A) → Rows.rows f (map g xs) ≡ Rows.rows (λ (x : A). f (g x)) xs
unfolding Rows.rows
rows_mapped f g [] = refl
rows_mapped f g (x ∷ xs) = ap (λ (l : List ℕ). f (g x) ++ l) (rows_mapped f g xs)

take_mapped : {A B : Type 0} (g : A → B) (n : ℕ) (xs : List A) → take n (map g xs) ≡ map g (take n xs)
take_mapped g zero xs = refl
take_mapped g (suc n) [] = refl
take_mapped {B = B} g (suc n) (x ∷ xs) = ap (λ (l : List B). g x ∷ l) (take_mapped g n xs)

module _ (s : List ℕ) where
  abbrev T : Texts
  T = texts s []

  the_list : joined T ≡ listed_in 0 (definitions s)
  unfolding joined
  the_list = rw (nothing_defined (definitions []) no_definitions) (append-nil (listed_in 0 (definitions s)))

  same : RepeatedSheet T
  same = repeated_sheet T (none_there s)

  count : length (joined T) ≡ length (definitions s)
  count = omega (arith, length_joined T, no_definitions)

  -- ---- the reader
  by_text : (c : one.Checked) → one.check_of s ≡ c → (d n : ℕ) → reader_readings.reading_of false T d n ≡ alone_answers.reading_of s d n
  unfolding alone_answers.reading_of
  by_text (Ok done) e d n = by_check false T d n _ (by_both T (Ok tt) (Ok tt) e empty_good) ∙ rw (e, count, same.first_too_deep, same.rows_of_spans) refl
  by_text (Err (text.Long k)) e d n = by_check false T d n _ (by_both T (Err (text.Long k)) (Ok tt) e empty_good) ∙ rw e refl
  by_text (Err (text.Bad k)) e d n = by_check false T d n _ (by_both T (Err (text.Bad k)) (Ok tt) e empty_good) ∙ rw e refl

  reading : (d n : ℕ) → reader_readings.reading_of false T d n ≡ alone_answers.reading_of s d n
  reading = by_text (one.check_of s) refl

  abbrev Named : Reading → Type 0
  Named r = reader.named_of r ≡ 0

  after_good : (d n e m : ℕ) → Named (reader_readings.without_conflicts d (alone.first_deep s) n e m)
  after_good d n e m = by (ltb e d) (λ q. rw q refl) (λ q. rw q (depth (alone.first_deep s)))
    where
      depth : (o : Option ℕ) → Named (reader_readings.with_spans d o n m)
      depth (some place) = refl
      depth none = by (ltb m n) (λ q. rw q refl) (λ q. rw q refl)

  named_by : (c : one.Checked) (r : Reading) → Named r → Named (alone_answers.refused_or c r)
  named_by (Ok done) r h = h
  named_by (Err (text.Long k)) r h = refl
  named_by (Err (text.Bad k)) r h = refl

  reading_named : (d n : ℕ) → Named (reader_readings.reading_of false T d n)
  unfolding alone_answers.reading_of
  reading_named d n = subst Named (sym (reading d n)) (named_by (one.check_of s) _ (after_good (length (definitions s)) (length (alone.span_rows s)) d n))

  -- ---- the tables
  abbrev row : Definition → List ℕ
  row d = 0 ∷ alone.numbers s d

  table_filled : (t : List ℕ) → definition_table.filled T (joined T) t ≡ Rows.filled definition_table.width row (definitions s) t
  unfolding Rows.filled
  table_filled t =
      let k = definition_table.whole_rows t in
      let used : Rows.rows (definition_table.numbers T) (take k (joined T)) ≡ Rows.rows row (take k (definitions s)) =
      ap (λ (js : List Listed). Rows.rows (definition_table.numbers T) (take k js)) the_list
      ∙ ap (Rows.rows (definition_table.numbers T)) (take_mapped (listed 0) k (definitions s))
      ∙ rows_mapped (definition_table.numbers T) (listed 0) (take k (definitions s)) in
      ap (λ (l : List ℕ). l ++ drop (length l) t) used

  table_of_definitions : (number : ℕ) (t : List ℕ) → reader_readings.definition_table_of T number t ≡ alone_answers.definition_table_of s number t
  table_of_definitions number t = ap (λ (l : List ℕ). cond (within 1 3 number) t l) (table_filled t)

  span_table : (number : ℕ) (u : List ℕ) → number ≤ 6 → reader_readings.span_table_of T number u ≡ alone_answers.span_table_of s number u
  span_table number u h =
      given_or_kept number h (spans_filled (both.span_rows T) u) u ∙ ap (λ (rows : List (List ℕ)). cond (within 1 5 number) u (spans_filled rows u)) same.rows_of_spans

  -- ---- the page writer
  rendering : (d n room : ℕ) → writer_readings.rendering_of false T d n room ≡ alone_answers.rendering_of s d n room
  unfolding writer_readings.rendering_of alone_answers.rendering_of
  rendering d n room = ap₂ (λ (w : List ℕ) (r : Reading). writer_readings.after_reading (length w) room r) same.page (reading d n)

  rendering_named : (d n room : ℕ) → writer.named_of (writer_readings.rendering_of false T d n room) ≡ 0
  unfolding writer_readings.rendering_of
  rendering_named d n room = same_named (length (both_page.page_of T)) room (reader_readings.reading_of false T d n) ∙ reading_named d n

  page_buffer : (r : Rendering) (p : List ℕ) → writer_readings.page_buffer_of T r p ≡ alone_answers.page_buffer_of s r p
  page_buffer r p = ap (λ (w : List ℕ). cond (eqb (writer.number_of r) 0) (w ++ drop (length w) p) p) same.page

  -- ---- the enquiry
  entry_at : (ds : List Definition) (k : ℕ) → get_or (listed_in 0 ds) k past_end ≡ listed 0 (get_or ds k (definition absent absent absent))
  entry_at [] k = refl
  entry_at (d ∷ ds) zero = refl
  entry_at (d ∷ ds) (suc k) = entry_at ds k

  found_alike : (f : Place ℕ) → enquiry_readings.or_undefined (enquiry_readings.answer_at (listed_in 0 (definitions s)) f) ≡ alone_answers.answer_at (definitions s) f
  found_alike (Some k) = ap (λ (j : Listed). enquiry_readings.or_undefined (Some (enquiry_readings.answer_by j))) (entry_at (definitions s) k)
  found_alike None = refl

  labels_are : labels_of T (joined T) ≡ alone.labels s
  labels_are = joined_labels T ∙ rw (nothing_defined (definitions []) no_definitions) (append-nil (alone.labels s))

  looked_up_lem : (label : List ℕ) → enquiry_readings.or_undefined (enquiry_readings.answer_for T label) ≡ alone_answers.answer_at (definitions s) (first_match (alone.labels s) label)
  unfolding enquiry_readings.answer_for enquiry_readings.answer_in
  looked_up_lem label = rw (labels_are, the_list) (found_alike (first_match (alone.labels s) label))

  labelled : (label : List ℕ) (b : Bool) → enquiry_readings.labelled_enquiry T label b ≡ alone_answers.labelled s label b
  labelled label true = looked_up_lem label
  labelled label false = refl

  enquiry_by : (label : List ℕ) (c : one.Checked) → one.check_of s ≡ c → enquiry_readings.enquiry_of T label ≡ alone_answers.enquiry_of s label
  unfolding enquiry_readings.enquiry_of alone_answers.enquiry_of
  enquiry_by label (Ok done) e = rw (by_both T (Ok tt) (Ok tt) e empty_good, e) (labelled label (enquiry_readings.good_label label))
  enquiry_by label (Err (text.Long k)) e = rw (by_both T (Err (text.Long k)) (Ok tt) e empty_good, e) refl
  enquiry_by label (Err (text.Bad k)) e = rw (by_both T (Err (text.Bad k)) (Ok tt) e empty_good, e) refl

  enquiry : (label : List ℕ) → enquiry_readings.enquiry_of T label ≡ alone_answers.enquiry_of s label
  enquiry label = enquiry_by label (one.check_of s) refl

  abbrev AboutNote : Enquiry → Type 0
  AboutNote e = enquiries.named_of e ≡ 0

  found_named : (f : Place ℕ) → AboutNote (alone_answers.answer_at (definitions s) f)
  found_named (Some k) = refl
  found_named None = refl

  labelled_named : (label : List ℕ) (b : Bool) → AboutNote (alone_answers.labelled s label b)
  labelled_named label true = found_named (first_match (alone.labels s) label)
  labelled_named label false = refl

  checked_named : (label : List ℕ) (c : one.Checked) → AboutNote (alone_answers.checked s label c)
  checked_named label (Ok done) = labelled_named label (enquiry_readings.good_label label)
  checked_named label (Err (text.Long k)) = refl
  checked_named label (Err (text.Bad k)) = refl

  enquiry_named : (label : List ℕ) → AboutNote (enquiry_readings.enquiry_of T label)
  unfolding alone_answers.enquiry_of
  enquiry_named label = subst AboutNote (sym (enquiry label)) (checked_named label (one.check_of s))

  pub empty_sheet : EmptySheet s
  empty_sheet =
      record {
        reading = reading;
        reading_named = reading_named;
        table_of_definitions = table_of_definitions;
        span_table = span_table;
        rendering = rendering;
        rendering_named = rendering_named;
        page_buffer = page_buffer;
        enquiry = enquiry;
        enquiry_named = enquiry_named;
      }

-- ---- a label that the note defines
module _ (T : Texts) where
  -- the first equal label of the joined list stands in front
  in_front : (label : List ℕ) (k : ℕ) → FirstEqual (labels_of T (joined T)) label k → There (alone.labels T.note) label → k < length (definitions T.note)
  in_front label k f w =
      let ls = alone.labels T.note in
      let size = length-map (definitions T.note) (λ (d : Definition). bytes_of T.note d.label) in
      let equal : Equal (get_or (labels_of T (joined T)) w.index []) label =
      subst (λ (l : List ℕ). Equal l label) (sym (ap (λ (m : List (List ℕ)). get_or m w.index []) (joined_labels T) ∙ get_or-append ls (alone.labels T.sheet) [] w.index w.within)) w.equal in
      by (ltb w.index k) (λ e. absurd (f.first w.index (ltb-true w.index k e) equal)) (λ e. omega (arith, ltb-false w.index k e, w.within, size))

  number : (row : List ℕ) → In row (both.span_rows T) → is_reference (get_or row 0 0) ≡ true → There (alone.labels T.note) (bytes_of T.note (looked_up row))
      → get_or row 5 0 ≤ length (definitions T.note)
  number row i h w =
      let r = references_refer T (marked T) row i h in
      omega (arith, r.number_is, in_front (bytes_of T.note (looked_up row)) r.index r.first_equal w)

  pub note_first : NoteFirst T
  note_first =
      record {
        number = number;
        text = λ n row i h w. ap (λ (js : List Listed). named_text T js (get_or row 5 0)) (sym (list_is_read T n)) ∙ named_note T (get_or row 5 0) (number row i h w);
      }

  pub sheet_claims : SheetClaims T
  sheet_claims = record { empty_sheet = empty_sheet T.note; note_first = note_first; repeated_sheet = repeated_sheet T }
