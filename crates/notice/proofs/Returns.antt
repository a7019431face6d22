-- What the reader has done at each return, and that it keeps the promise.
use Rattle.std.specs.Prelude.{None, Option as Place, Some, Result, Ok, Err, IsErrAnd}
use Prim.Native.Nat.{ℕ, zero, suc, ◌+◌, ◌/◌, ◌≤◌, ◌<◌}
use native.Mathlib.Omega.{arith}
use mathlib.Core.Path.{◌≡◌, refl, sym, ap, ◌∙◌}
use mathlib.Core.Logic.{◌⊎◌, inl, inr}
use mathlib.Core.Option.{Option, none, some}
use mathlib.Core.List.{List, []}
use mathlib.Core.Bool.{Bool, true, false}
use borrow.Author.Tests.{lt-ltb, le-ltb, ltb-false}
use lib.ListN.{length, get_or, replicate}
use lib.Dec.{ltb}
use Rattle.scan.specs.Byte.{within}
use Rattle.scan.proofs.Test.{by}
use Rattle.texts.specs.declared.Fault.{Fault}
use Rattle.texts.specs.declared.Fault.TheVariants as texts
use Rattle.texts.specs.Texts.{Texts}
use Rattle.texts.specs.Answers.{GoodTexts}
use Rattle.texts.specs.Reading.{Checked, check_of}
use Rattle.texts.proofs.Refusals.{good_texts}
use Rattle.rows.proofs.Filled.{filled_still}
use Rattle.row.specs.Row as definition_table
use Rattle.row.specs.declared.listing.Definitions.{Definitions}
use Rattle.row.specs.Listing.{texts_of}
use Rattle.row.specs.Reading.{Fit}
use Rattle.row.proofs.Filled.{entries_back}
use Rattle.joined.specs.Reading.{joined}
use Rattle.conflict.specs.Rows.{HoldsJoined}
use Rattle.conflict.specs.Reading.{first_conflict}
use Rattle.conflict.proofs.Conflicts.{first_conflict_iff}
use Rattle.table.proofs.Lookup.{table_fit}
use Rattle.span.specs.Row as span_table
use Rattle.note.specs.Reading.{span_rows, first_deep}
use Rattle.step.specs.declared.Walk.{Walk}
use Rattle.paragraph.specs.declared.Deep.{Deep as Stop}
use Rattle.paragraph.specs.Tally as tally
use Rattle.index.specs.Index.{Ready}
use Rattle.paragraphs.specs.Spans.{Defined, NoteMarked, Surely}
use Rattle.notice.specs.declared.Listed.{Listed}
use Rattle.notice.specs.declared.Refusal.{Refusal}
use Rattle.notice.specs.declared.Refusal.TheVariants.{FewDefinitions, Conflicting, Deep, FewSpans}
use Rattle.notice.specs.Answers.{Reading, counts, refusal_number, number_of, value_of, named_of, definition_count, span_count}
use Rattle.notice.specs.Reading.{of_fault, with_spans, with_conflicts, spans_given, definition_table_of, span_table_of}
use Rattle.notice.specs.Promise.{answer_to, Promise}
use Rattle.notice.specs.Spans.{with_count, reading_in, SpansRead, JoinedRead}
use Rattle.notice.proofs.Order.{Silent, passed, by_check, too_few_definitions, enough_definitions}

-- ---- which of the two answers it was
was_spans : (o : Option ℕ) (v : Walk) {w : Walk} → tally.tally_of o v ≡ Ok w → (o ≡ none) × (v ≡ w)
was_spans none v e = (refl, cc)
was_spans (some p) v e = absurd cc

was_deep : (o : Option ℕ) (v : Walk) {d : Stop} → tally.tally_of o v ≡ Err d → o ≡ some d.place
was_deep none v e = absurd cc
was_deep (some p) v {d} e = ap some (ap tally.value_of e)

-- ---- the spans
-- the paragraphs were read, where there are `count` definitions and so many rows are lent
module _ (T : Texts) (count rows_lent : ℕ) {u : List ℕ} {r : Result Walk Stop} {u' : List ℕ} (m : NoteMarked T u r u') where
  abbrev answer : Reading
  answer = with_spans count (first_deep T) (length (span_rows T)) rows_lent

  pub too_deep : {d : Stop} → r ≡ Err d → (x : Result ℕ Refusal) → IsErrAnd x (λ e. e ≡ Deep d.place) → with_count count x ≡ answer
  too_deep er (Ok n) h = absurd h
  too_deep {d} er (Err x) h =
      let w : first_deep T ≡ some d.place = was_deep (first_deep T) m.walk (sym m.answer ∙ er) in
      rw (h, w) refl

  module _ {w : Walk} (er : r ≡ Ok w) where
    never : first_deep T ≡ none
    never = (was_spans (first_deep T) m.walk (sym m.answer ∙ er)).0

    count_is : length (span_rows T) ≡ w.row
    count_is = sym (m.counted (ap tally.number_of er)) ∙ ap (λ (x : Walk). x.row) (was_spans (first_deep T) m.walk (sym m.answer ∙ er)).1

    pub too_few_rows : rows_lent < w.row → with_count count (Err (FewSpans w.row)) ≡ answer
    too_few_rows h = rw (never, count_is, lt-ltb rows_lent w.row h) refl

    pub enough_rows : w.row ≤ rows_lent → with_count count (Ok w.row) ≡ answer
    enough_rows h = rw (never, count_is, le-ltb rows_lent w.row h) refl

-- ---- what the count tells
-- it was success
was_read : (d : ℕ) (o : Option ℕ) (n k : ℕ) {m : ℕ} → Ok (counts d m) ≡ with_spans d o n k → (o ≡ none) × (n ≡ m) × (n ≤ k)
was_read d (some place) n k e = absurd cc
was_read d none n k {m} e =
    by (ltb k n) (λ t. let z : Ok (counts d m) ≡ Err (FewSpans n) = e ∙ rw t refl in absurd cc)
    (λ f. let z : Ok (counts d m) ≡ Ok (counts d n) = e ∙ rw f refl in (refl, sym (ap span_count z), ltb-false k n f))

-- it was refusal 4 or 5, and then no span row is given
was_refused : (d : ℕ) (o : Option ℕ) (n k : ℕ) {x : Refusal} → Err x ≡ with_spans d o n k → spans_given (refusal_number x) ≡ false
was_refused d (some place) n k {x} e = let z : refusal_number x ≡ 4 = ap number_of e in rw z refl
was_refused d none n k {x} e =
    by (ltb k n) (λ t. let y : Err x ≡ Err (FewSpans n) = e ∙ rw t refl in let z : refusal_number x ≡ 5 = ap number_of y in rw z refl)
    (λ f. let z : Err x ≡ Ok (counts d n) = e ∙ rw f refl in absurd cc)

-- the table u is lent, with k whole rows
module _ (T : Texts) (count : ℕ) (u : List ℕ) {k : ℕ} (ek : k ≡ span_table.whole_rows u) where
  abbrev Counted : Result ℕ Refusal → Type 0
  Counted r = with_count count r ≡ with_spans count (first_deep T) (length (span_rows T)) k

  lent_rows : with_spans count (first_deep T) (length (span_rows T)) k ≡ with_spans count (first_deep T) (length (span_rows T)) (span_table.whole_rows u)
  lent_rows = ap (with_spans count (first_deep T) (length (span_rows T))) ek

  pub refused : {e : Refusal} → Counted (Err e) → (x : Reading) → IsErrAnd x (λ d. d ≡ e) → SpansRead T count u x u
  refused q (Ok c) h = absurd h
  refused {e} q (Err x) h =
      let f : spans_given (refusal_number e) ≡ false = was_refused count (first_deep T) (length (span_rows T)) k q in
      record { answer = rw h (q ∙ lent_rows); spans = rw (h, f) refl }

  -- no span, no row
  pub none_there : {n : ℕ} → Counted (Ok n) → n ≡ 0 → SpansRead T count u (Ok (counts count 0)) u
  none_there {n} q z =
      let (o, c, h) = was_read count (first_deep T) (length (span_rows T)) k q in
      record {
        answer = ap (λ (m : ℕ). Ok (counts count m)) (sym z) ∙ q ∙ lent_rows;
        spans = filled_still span_table.width (λ (row : List ℕ). row) (span_rows T) u (c ∙ z);
      }

  -- all rows fit
  pub record Fits : Type 0 where
    pub never : first_deep T ≡ none
    pub enough : length (span_rows T) ≤ span_table.whole_rows u

  pub counted_fit : {n : ℕ} → Counted (Ok n) → Fits
  counted_fit q = let (o, c, h) = was_read count (first_deep T) (length (span_rows T)) k q in record { never = o; enough = omega (arith, ek) }

  module _ {u' : List ℕ} where
    fit_by : (r : Result Walk Stop) → NoteMarked T u r u' → Surely T.note k → Fits
    fit_by (Ok w) m s = record { never = (was_spans (first_deep T) m.walk (sym m.answer)).0; enough = omega (arith, m.few refl, s.enough, ek) }
    fit_by (Err d) m s = let no : ⊥ = omega (arith, m.deep refl, s.never) in absurd no

    module _ {r : Result Walk Stop} (m : NoteMarked T u r u') where
      pub surely_fit : {s : List ℕ} → s ≡ T.note → Surely s k → Fits
      surely_fit es s = fit_by r m (rw es at s)

      pub never_deep : Fits → {d : Stop} → r ≡ Err d → (x : Reading) → SpansRead T count u x u'
      never_deep f {d} er x =
          let z : none ≡ some d.place = sym f.never ∙ was_deep (first_deep T) m.walk (sym m.answer ∙ er) in
          absurd cc

      pub stored : Fits → {w : Walk} → r ≡ Ok w → SpansRead T count u (Ok (counts count w.row)) u'
      stored f {w} er =
          let h : w.row ≤ span_table.whole_rows u = omega (arith, f.enough, count_is T count k m er) in
          record { answer = enough_rows T count (span_table.whole_rows u) m er h; spans = m.table (ap tally.number_of er) }

-- ---- an index that was made just now holds nothing yet
first_zero : (n : ℕ) → ◌≡◌ {A = ℕ} (get_or (replicate {A = ℕ} n 0) 0 0) 0
first_zero zero = refl
first_zero (suc n) = refl

pub fresh : (T : Texts) (t : List ℕ) (count n : ℕ) → Ready T t count (replicate {A = ℕ} n 0)
fresh T t count n e = let z : ◌≡◌ {A = ℕ} 0 4294967295 = sym (first_zero n) ∙ e in let no : ⊥ = omega arith in absurd no

-- ---- conflicts
-- the table holds the joined list
pub holds_joined : (d : Definitions) → Defined (texts_of d) d.table.now d.count → HoldsJoined d
holds_joined d w = record { listing = record { room = omega (arith, d.fit.room, w.counted); rows_are = rw (← w.counted) w.rows_are }; count = w.counted }

-- the row number is within the count
pub conflict_within : (T : Texts) {f : Place ℕ} {k count : ℕ} → f ≡ first_conflict T → f ≡ Some k → count ≡ length (joined T) → k < count
conflict_within T {k} e g c =
    let w = (first_conflict_iff T k).0 (sym e ∙ g) in
    omega (arith, w.numbered, w.conflict.within, c)

module _ {release : Bool} {T : Texts} {count : ℕ} {u : List ℕ} where
  pub stopped : {f : Place ℕ} {k : ℕ} → release ≡ true → f ≡ first_conflict T → f ≡ Some k → JoinedRead release T count u (Err (Conflicting (k + 1))) u
  stopped y e g = record { answer = rw (y, ← e, g) refl; spans = refl }

  pub goes_on : {r : Reading} {u' : List ℕ} → Silent release (first_conflict T) → SpansRead T count u r u' → JoinedRead release T count u r u'
  goes_on s m = record { answer = m.answer ∙ sym (passed release (first_conflict T) _ s); spans = m.spans }

-- ---- the whole note
-- the answer tells its number, its value and the counts
pub kept : {release : Bool} {T : Texts} {t u : List ℕ} {r : Reading} {t' u' : List ℕ} → r ≡ answer_to release T t u → t' ≡ definition_table_of T (number_of r) t → u' ≡ span_table_of T (number_of r) u
    → Promise release T t u r T t' u'
kept e d n =
    record {
      answer = e;
      number = ap number_of e;
      value = ap value_of e;
      named = ap named_of e;
      definitions_counted = ap definition_count e;
      spans_counted = ap span_count e;
      definitions = d;
      spans = n;
      texts = refl;
    }

module _ (T : Texts) (t u : List ℕ) where
  abbrev lent : ℕ
  lent = definition_table.whole_rows t

  abbrev lent' : ℕ
  lent' = span_table.whole_rows u

  by_fault : {release : Bool} (f : Fault) → check_of T ≡ Err f → Promise release T t u (Err (of_fault f)) T t u
  by_fault {release} (texts.Long x n) e = kept (sym (by_check release T lent lent' (Err (texts.Long x n)) e)) refl refl
  by_fault {release} (texts.Bad x k) e = kept (sym (by_check release T lent lent' (Err (texts.Bad x k)) e)) refl refl

  -- refusals 1 and 2
  pub faulty : {release : Bool} {c : Checked} → c ≡ check_of T → {f : Fault} → c ≡ Err f → (x : Result Listed Refusal) → IsErrAnd x (λ e. e ≡ of_fault f) → Promise release T t u (reading_in x) T t u
  faulty ec e (Ok n) h = absurd h
  faulty ec {f} e (Err x) h = rw h (by_fault f (sym ec ∙ e))

pub good : (T : Texts) {c : Checked} → c ≡ check_of T → {done : Unit {0}} → c ≡ Ok done → GoodTexts T
good T ec e = (good_texts T).0 (sym ec ∙ e)

-- refusals 9, 4 and 5 and success leave the rows of the definitions
spans_there : (d : ℕ) (o : Option ℕ) (n k : ℕ) → within 1 3 (number_of (with_spans d o n k)) ≡ false
spans_there d (some place) n k = refl
spans_there d none n k = by (ltb k n) (λ e. rw e refl) (λ e. rw e refl)

rows_there : (release : Bool) (f : Place ℕ) (d : ℕ) (o : Option ℕ) (n k : ℕ) → within 1 3 (number_of (with_conflicts release f d o n k)) ≡ false
rows_there true (Some i) d o n k = refl
rows_there true None d o n k = spans_there d o n k
rows_there false f d o n k = spans_there d o n k

pub handed_on : {e : Refusal} {r : Reading} → r ≡ Err e → (x : Result Listed Refusal) → IsErrAnd x (λ d. d ≡ e) → r ≡ reading_in x
handed_on q (Ok n) h = absurd h
handed_on q (Err d) h = q ∙ ap (λ (z : Refusal). Err z) (sym h)

-- both texts are good
module _ (T : Texts) (t u : List ℕ) (g : GoodTexts T) where
  abbrev spans : ℕ
  spans = span_table.whole_rows u

  -- so many definitions were counted, and nothing is stored
  pub too_few : {release : Bool} {count : ℕ} → count ≡ length (joined T) → definition_table.whole_rows t < count → Promise release T t u (Err (FewDefinitions count)) T t u
  too_few {release} en h =
      let z : definition_table.whole_rows t < length (joined T) = omega (arith, en) in
      kept
      (ap (λ (n : ℕ). Err (FewDefinitions n)) en
      ∙ sym (by_check release T (definition_table.whole_rows t) spans (Ok tt) ((good_texts T).1 g) ∙ too_few_definitions release (first_conflict T) (length (joined T)) (first_deep T) (length (span_rows T)) (definition_table.whole_rows t) spans z))
      refl refl

  module _ {count : ℕ} (en : count ≡ length (joined T)) (enough : length (joined T) ≤ definition_table.whole_rows t) {t' : List ℕ} (et : t' ≡ definition_table.filled T (joined T) t) where
    pub fit : Fit T t' count
    fit = table_fit T t enough et en

    pub defined : Defined T t' count
    defined = record {
      short = g.note.short;
      short_sheet = g.sheet.short;
      counted = en;
      rows_are = rw (et, en) (entries_back T (joined T) t enough);
    }

    -- the answer r is handed on as x
    pub all_read : {release : Bool} {r : Reading} {u' : List ℕ} → JoinedRead release T count u r u' → {x : Reading} → r ≡ x → Promise release T t u x T t' u'
    all_read {release} {r} m {x} q =
        let e : x ≡ with_conflicts release (first_conflict T) (length (joined T)) (first_deep T) (length (span_rows T)) spans = sym q ∙ m.answer ∙ rw en refl in
        kept
        (e
        ∙ sym (by_check release T (definition_table.whole_rows t) spans (Ok tt) ((good_texts T).1 g) ∙ enough_definitions release (first_conflict T) (length (joined T)) (first_deep T) (length (span_rows T)) (definition_table.whole_rows t) spans enough))
        (et ∙ rw (e, rows_there release (first_conflict T) (length (joined T)) (first_deep T) (length (span_rows T)) spans) refl) (m.spans ∙ ap (λ (y : Reading). span_table_of T (number_of y) u) q)
