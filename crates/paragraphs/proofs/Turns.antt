-- The turns of a loop that reads a note's paragraphs one after the other.
use Rattle.std.specs.Prelude.{Result, Ok, Err}
use Prim.Native.Nat.{ℕ, ◌+◌, ◌-◌, ◌≤◌}
use native.Mathlib.Omega.{arith}
use mathlib.Core.Path.{◌≡◌, refl, sym, ap, ◌∙◌, subst}
use mathlib.Core.Option.{Option, none, some}
use mathlib.Core.List.{List, [], ◌++◌, map, map-append, append-nil, append_assoc}
use lib.ListN.{length, drop, length-append, length-map, length-drop}
use lib.Seq.{length-take-le}
use Rattle.line.specs.Promise.{Before}
use Rattle.line.proofs.Lines.{none_before, later}
use Rattle.marking.specs.ReadingSpans.{spans, over}
use Rattle.texts.specs.Texts.{Texts}
use Rattle.row.specs.Row.{range, Listed, definitions_of}
use Rattle.row.specs.First.{bytes_of, labels_of}
use Rattle.row.specs.Reading.{definitions_from}
use Rattle.joined.specs.Reading.{joined}
use Rattle.joined.proofs.Few.{few_joined}
use Rattle.walk.specs.Reading.{paragraphs_from}
use Rattle.walk.specs.Promise.{FirstParagraph}
use Rattle.walk.proofs.Whole.{all_paragraphs}
use Rattle.span.specs.declared.Span.{Span}
use Rattle.span.specs.Row.{numbers, filled}
use Rattle.span.proofs.Filled.{filled_none, length_filled}
use Rattle.definition.specs.Reading.{paragraphs}
use Rattle.most.specs.Most.{ends, held, ends_of, held_of}
use Rattle.inline.specs.Reading.{grammar}
use Rattle.inline.specs.ReadingRows.{span_row}
use Rattle.note.specs.Reading.{labels, rows_in, span_rows, deep_in, first_deep}
use Rattle.paragraph.specs.declared.Deep.{Deep}
use Rattle.paragraph.specs.Tally.{number_of, value_of, in_note, tally_of}
use Rattle.tail.specs.Ending.{labels_in}
use Rattle.step.specs.Reading.{rows_for}
use Rattle.step.specs.Promise.{first}
use Rattle.step.specs.declared.Walk.{Walk}
use Rattle.note.specs.Note.{depth_limit}
use Rattle.paragraph.specs.Promise.{Lies, Reads}
use Rattle.paragraphs.specs.Spans.{Defined, NoteMarked}
use Rattle.paragraphs.proofs.Filling.{store_all, filled_numbers, numbers_for}

-- ---- which of the two answers it was
pub was_spans : (o : Option ℕ) (v : Walk) {w : Walk} → tally_of o v ≡ Ok w → (o ≡ none) × (v ≡ w)
was_spans none v e = (refl, cc)
was_spans (some p) v e = cc

pub was_deep : (o : Option ℕ) (v : Walk) {p : ℕ} → tally_of o v ≡ Err (record { place = p }) → o ≡ some p
was_deep none v e = cc
was_deep (some q) v {p} e = let q' : q ≡ p = ap (λ (r : Result Walk Deep). value_of r) e in ap some q'

-- and of the places in a paragraph
none_in : (a : ℕ) (o : Option ℕ) → in_note a o ≡ none → o ≡ none
none_in a none e = refl
none_in a (some q) e = cc

some_in : (a : ℕ) (o : Option ℕ) {place : ℕ} → in_note a o ≡ some place → (q : ℕ) × (o ≡ some q) × (place ≡ a + q)
some_in a none e = cc
some_in a (some q) e = (q, refl, cc)

-- reading stands at place `at`; the walk w has passed as many spans as its row says, and the table u₀ has become u
pub record Going (T : Texts) (u₀ u : List ℕ) (at : ℕ) (w : Walk) : Type 0 where
  pub passed : List Span
  pub rows_are : span_rows T ≡ map (numbers T.note) passed ++ rows_in T.note (labels T) (definitions_of (joined T)) (paragraphs_from T.note at)
  pub deep_is : first_deep T ≡ deep_in (labels T) (paragraphs_from T.note at)
  pub counted : w.row ≡ length passed
  pub table : u ≡ filled T.note passed u₀
  pub few : w.row ≤ at
  pub inside : at ≤ length T.note
  pub line : Before T.note w.line at
  pub few_ends : w.row + ends_of (paragraphs_from T.note at) ≤ ends_of (paragraphs T.note)
  pub few_held : held_of (paragraphs_from T.note at) ≤ held_of (paragraphs T.note)

module _ (T : Texts) (u₀ : List ℕ) where
  pub starts : {w : Walk} → w ≡ first → Going T u₀ u₀ 0 w
  unfolding span_rows first_deep
  starts e = record {
    passed = [];
    rows_are = ap (rows_in T.note (labels T) (definitions_of (joined T))) (sym (all_paragraphs T.note));
    deep_is = ap (deep_in (labels T)) (sym (all_paragraphs T.note));
    counted = ap (λ (x : Walk). x.row) e;
    table = sym (filled_none T.note u₀);
    few = omega (arith, ap (λ (x : Walk). x.row) e);
    inside = omega arith;
    line = rw e (none_before T.note);
    few_ends = omega (arith, ap (λ (x : Walk). x.row) e, ap ends_of (all_paragraphs T.note));
    few_held = omega (arith, ap held_of (all_paragraphs T.note));
  }

  module _ {u : List ℕ} {at : ℕ} {w : Walk} (g : Going T u₀ u at w) where
    pub same_size : length u ≡ length u₀
    same_size = ap length g.table ∙ length_filled T.note g.passed u₀

    pub still_same_size : (u' : List ℕ) → length u' ≡ length u → length u' ≡ length u₀
    still_same_size u' e = e ∙ same_size

    -- no paragraph is left
    pub all_passed : paragraphs_from T.note at ≡ [] → NoteMarked T u₀ (Ok w) u
    unfolding rows_in deep_in
    all_passed none_left =
        let rows : span_rows T ≡ map (numbers T.note) g.passed = g.rows_are ∙ rw none_left (append-nil (map (numbers T.note) g.passed)) in
        let never : first_deep T ≡ none = g.deep_is ∙ rw none_left refl in
        let count : w.row ≡ length (span_rows T) = g.counted ∙ sym (ap length rows ∙ length-map g.passed (numbers T.note)) in
        record {
          walk = w;
          answer = rw never refl;
          counted = λ z. count;
          table = λ z. g.table ∙ filled_numbers T.note g.passed u₀ ∙ rw rows refl;
          few = λ z. omega (arith, count, g.few_ends);
          deep = λ z. let no : ⊥ = omega arith in absurd no;
        }

    module _ {a e n : ℕ} (here : FirstParagraph T.note at a e n) where
      line_before : Before T.note w.line a
      line_before = later g.line here.low (omega (arith, here.ordered, here.ends, here.inside))

      pub place_fits : {t : List ℕ} {count : ℕ} → Defined T t count → Lies T.note a e count w
      place_fits d = record {
        ordered = here.ordered;
        inside = omega (arith, here.ends, here.inside);
        places = omega (arith, d.short);
        definitions = omega (arith, d.short, d.short_sheet, d.counted, few_joined T);
        rows = omega (arith, d.short, g.few, g.inside);
        line = line_before;
      }

      module _ {t : List ℕ} {count : ℕ} (d : Defined T t count) {r : Result Walk Deep} {u' : List ℕ}
          (m : Reads T.note a (bytes_of T.note (range a e)) (labels_in T t count) (definitions_from t 0 count) w.row u r u') where
        abbrev p : List ℕ
        p = bytes_of T.note (range a e)

        -- the paragraph with the definitions of the joined list
        read : Reads T.note a p (labels_of T (joined T)) (definitions_of (joined T)) w.row u r u'
        read = subst (λ (js : List Listed). Reads T.note a p (labels_of T js) (definitions_of js) w.row u r u') d.rows_are m

        size : length p ≡ e - a
        size = length-take-le (e - a) (drop a T.note) (omega (arith, length-drop a T.note, here.ends, here.inside))

        -- what the paragraph and those after it can have at the most
        ends_first : ends_of (paragraphs_from T.note at) ≡ ends p + ends_of (paragraphs_from T.note n)
        unfolding ends_of
        ends_first = rw here.first refl

        held_first : held_of (paragraphs_from T.note at) ≡ held p + held_of (paragraphs_from T.note n)
        unfolding held_of
        held_first = rw here.first refl

        deep_here : {q : ℕ} → over depth_limit (grammar p (labels T)) ≡ some q → deep_in (labels T) (paragraphs_from T.note at) ≡ some (a + q)
        unfolding deep_in labels
        deep_here o = rw (here.first, o) refl

        first_too_many : {place : ℕ} → r ≡ Err (record { place = place }) → first_deep T ≡ some place
        unfolding labels
        first_too_many er =
            let (q, o, e) = some_in a (over depth_limit (grammar p (labels T))) (was_deep (in_note a (over depth_limit (grammar p (labels T)))) read.walk (sym read.answer ∙ er)) in
            g.deep_is ∙ deep_here o ∙ ap some (sym e)

        pub too_deep : {place : ℕ} → r ≡ Err (record { place = place }) → NoteMarked T u₀ (Err (record { place = place })) u'
        too_deep {place} er =
            let f : first_deep T ≡ some place = first_too_many er in
            record {
              walk = read.walk;
              answer = rw f refl;
              counted = λ z. let no : ⊥ = omega arith in absurd no;
              table = λ z. let no : ⊥ = omega arith in absurd no;
              few = λ z. let no : ⊥ = omega arith in absurd no;
              deep = λ z. omega (arith, read.deep (ap number_of er), held_first, g.few_held);
            }

        pub further : {w' : Walk} → r ≡ Ok w' → Going T u₀ u' n w'
        unfolding rows_in deep_in labels
        further {w'} er =
            let (n', j) = was_spans (in_note a (over depth_limit (grammar p (labels T)))) read.walk (sym read.answer ∙ er) in
            let o = none_in a (over depth_limit (grammar p (labels T))) n' in
            let c : w'.row ≡ w.row + length (spans (grammar p (labels T))) = sym (ap (λ (x : Walk). x.row) j) ∙ read.row (ap number_of er) in
            let ls = labels T in
            let ds = definitions_of (joined T) in
            let xs : List Span = rows_for a p ls ds in
            let x_length : length xs ≡ length (spans (grammar p ls)) = length-map (spans (grammar p ls)) _ in
            record {
              passed = g.passed ++ xs;
              rows_are =
                  g.rows_are
                  ∙ rw (here.first, map-append (numbers T.note) g.passed xs, numbers_for T.note a p ds (spans (grammar p ls)))
                  (sym (append_assoc (map (numbers T.note) g.passed) (map (span_row T.note a p ds) (spans (grammar p ls))) (rows_in T.note ls ds (paragraphs_from T.note n))));
              deep_is = g.deep_is ∙ rw (here.first, o) refl;
              counted = omega (arith, c, x_length, g.counted, length-append g.passed xs);
              table = read.table (ap number_of er) ∙ store_all T.note u₀ g.passed xs g.table g.counted;
              few = omega (arith, c, read.few (ap number_of er), size, g.few, here.low, here.ends, here.ordered);
              inside = here.inside;
              line = subst (λ (x : Walk). Before T.note x.line n) j (later (read.line (ap number_of er)) (omega (arith, size, here.ordered, here.ends)) here.inside);
              few_ends = omega (arith, c, read.few_ends (ap number_of er), ends_first, g.few_ends);
              few_held = omega (arith, held_first, g.few_held);
            }
