-- The answer that is read is the one that the law gives.
use Rattle.std.specs.Prelude.{None, Option as Place, Some, Ok, Err}
use Prim.Native.Nat.{ℕ, suc, ◌≤◌}
use native.Mathlib.Omega.{arith}
use mathlib.Core.Path.{◌≡◌, refl, sym, ap, ◌∙◌, subst}
use mathlib.Core.Logic.{◌↔◌}
use mathlib.Core.Option.{Option, none, some}
use mathlib.Core.List.{List}
use mathlib.Core.Bool.{Bool, true, false, true≢false}
use borrow.Author.Tests.{ltb-true, ltb-false}
use lib.ListN.{length, get_elem?}
use lib.Dec.{ltb}
use Rattle.scan.proofs.Test.{by}
use Rattle.texts.specs.declared.Fault.TheVariants as texts
use Rattle.texts.specs.Texts.{Texts, text_of}
use Rattle.texts.specs.Answers.{GoodTexts}
use Rattle.texts.specs.Reading.{Checked, check_of}
use Rattle.texts.proofs.Refusals.{check_long, check_bad, good_texts}
use Rattle.marking.specs.Marking.{Marking}
use Rattle.row.specs.Row.{Listed}
use Rattle.definition.specs.Reading.{paragraphs}
use Rattle.joined.specs.Reading.{joined}
use Rattle.joined.proofs.Joined.{joined_some, joined_one}
use Rattle.conflict.specs.Conflict.{NoConflict, FirstConflict}
use Rattle.conflict.specs.Reading.{first_conflict}
use Rattle.conflict.proofs.Conflicts.{first_conflict_iff, no_conflict_iff}
use Rattle.inline.specs.Tails.{Tail}
use Rattle.note.specs.Note.{FirstDeep, NeverDeep}
use Rattle.note.specs.Reading.{span_rows, first_deep}
use Rattle.note.proofs.Markings.{one_marking_each}
use Rattle.note.proofs.EachRow.{each_row_iff}
use Rattle.note.proofs.Depth.{first_deep_iff, never_deep_iff}
use Rattle.notice.specs.declared.Refusal.TheVariants.{FewDefinitions, Conflicting, FewSpans}
use Rattle.notice.specs.Answers.{Reading, DefinitionsCounted, SpansCounted, Enough, SomeConflict, Passes, ConflictRow, SomeDeep, Answers, long, bad, few_definitions, conflicting, deep, few_spans, read}
use Rattle.notice.specs.Reading.{with_definitions, reading_of}
use Rattle.notice.proofs.Order.{Silent, too_few_definitions, conflicts_found, too_deep, too_few_spans, all_read, by_check}

-- ---- what is read is what the law counts
module _ (T : Texts) where
  pub definitions_counted : DefinitionsCounted T (length (joined T))
  definitions_counted = record { list = joined T; paragraphs = paragraphs T.note; joins = joined_some T; counted = refl }

  pub definitions_number : {count : ℕ} → DefinitionsCounted T count → length (joined T) ≡ count
  definitions_number c = ap length (joined_one T c.joins).0 ∙ c.counted

  pub spans_counted : SpansCounted T (length (span_rows T))
  spans_counted = record { rows = span_rows T; each_once = (each_row_iff T (span_rows T)).0 refl; counted = refl }

  pub spans_number : {count : ℕ} → SpansCounted T count → length (span_rows T) ≡ count
  spans_number c = ap length ((each_row_iff T c.rows).1 c.each_once) ∙ c.counted

  -- some paragraph has over `depth_limit` brackets open at once
  pub some_deep : {place : ℕ} → FirstDeep T place → SomeDeep T
  some_deep f = record {
    marked = f.marked;
    index = f.first.index;
    marking = f.first.marking;
    marking_at = f.first.marking_at;
    point = suc f.first.too_many.index;
    over = f.first.too_many.too_many;
  }

  not_both : SomeDeep T → NeverDeep T → ⊥
  not_both d n =
      let o = (one_marking_each T).no_others in
      let e : d.marked.markings ≡ n.marked.markings = (o d.marked).2 ∙ sym (o n.marked).2 in
      let at : get_elem? n.marked.markings d.index ≡ some d.marking = ap (λ (l : List (Marking Tail)). get_elem? l d.index) (sym e) ∙ d.marking_at in
      omega (arith, d.over, n.never d.index d.marking at d.point)

  first_of : SomeDeep T → (o : Option ℕ) → first_deep T ≡ o → (place : ℕ) × FirstDeep T place
  first_of d none e = absurd (not_both d ((never_deep_iff T).0 e))
  first_of d (some place) e = (place, (first_deep_iff T place).0 e)

  pub first_too_deep : SomeDeep T → (place : ℕ) × FirstDeep T place
  first_too_deep d = first_of d (first_deep T) refl

  -- ---- conflicts
  pub conflict_row : {k : ℕ} → first_conflict T ≡ Some k → ConflictRow T (suc k)
  conflict_row {k} e = record { list = joined T; paragraphs = paragraphs T.note; joins = joined_some T; first = (first_conflict_iff T k).0 e }

  -- the row is found
  row_found : {row : ℕ} → ConflictRow T row → (k : ℕ) × ((first_conflict T ≡ Some k) × (row ≡ suc k))
  row_found {row} w =
      let f : FirstConflict (joined T) T row = subst (λ (js : List Listed). FirstConflict js T row) (sym (joined_one T w.joins).0) w.first in
      let k = f.index in
      (k, ((first_conflict_iff T k).1 (subst (FirstConflict (joined T) T) f.numbered f), f.numbered))

  pub silent : {release : Bool} → Passes release T → Silent release (first_conflict T)
  silent p y = (no_conflict_iff T).1 (subst (λ (js : List Listed). NoConflict js T) (sym (joined_one T p.joins).0) (p.none y))

  pub passes : {release : Bool} → Silent release (first_conflict T) → Passes release T
  passes s = record { list = joined T; paragraphs = paragraphs T.note; joins = joined_some T; none = λ y. (no_conflict_iff T).0 (s y) }

  some_conflict : {release : Bool} {k : ℕ} → release ≡ true → first_conflict T ≡ Some k → SomeConflict release T
  some_conflict {k} y e =
      let w = conflict_row e in
      record { yes = y; list = w.list; paragraphs = w.paragraphs; joins = w.joins; index = w.first.index; conflict = w.first.conflict }

  row_of : {release : Bool} → SomeConflict release T → (f : Place ℕ) → first_conflict T ≡ f → (row : ℕ) × ConflictRow T row
  row_of s (Some k) e = (suc k, conflict_row e)
  row_of s None e =
      absurd (subst (λ (js : List Listed). NoConflict js T) (joined_one T s.joins).0 ((no_conflict_iff T).0 e) s.index s.conflict)

  pub first_conflict_lem : {release : Bool} → SomeConflict release T → (row : ℕ) × ConflictRow T row
  first_conflict_lem s = row_of s (first_conflict T) refl

-- ---- the answer, for a release or not, where so many whole rows of each table are lent
module _ (release : Bool) (T : Texts) (lent lent' : ℕ) where
  abbrev Answer : Type 0
  Answer = Answers release T lent lent' (reading_of release T lent lent')

  abbrev Law : Reading → Type 0
  Law = Answers release T lent lent'

  abbrev counted : Reading
  counted = with_definitions release (first_conflict T) (length (joined T)) (first_deep T) (length (span_rows T)) lent lent'

  same : {x : Reading} → GoodTexts T → counted ≡ x → reading_of release T lent lent' ≡ x
  same g e = by_check release T lent lent' (Ok tt) ((good_texts T).1 g) ∙ e

  enough_is : Enough lent (DefinitionsCounted T) → length (joined T) ≤ lent
  enough_is w = omega (arith, definitions_number T w.counted, w.enough)

  -- the law's answer is read
  pub reads : {x : Reading} → Law x → reading_of release T lent lent' ≡ x
  reads (long {x} d) = by_check release T lent lent' (Err (texts.Long x (length (text_of T x)))) ((check_long T x (length (text_of T x))).1 (d, refl))
  reads (bad {x} {place} d f) = by_check release T lent lent' (Err (texts.Bad x place)) ((check_bad T x place).1 (d, f))
  reads (few_definitions (g, w)) =
      let a = definitions_number T w.counted in
      same g
      (too_few_definitions release (first_conflict T) (length (joined T)) (first_deep T) (length (span_rows T)) lent lent' (omega (arith, a, w.fewer)) ∙ ap (λ (n : ℕ). Err (FewDefinitions n)) a)
  reads (conflicting (g, w, s) c) =
      let (k, f) = row_found T c in
      same g
      (conflicts_found release (first_conflict T) (length (joined T)) (first_deep T) (length (span_rows T)) lent lent' k (enough_is w) s.yes f.0
      ∙ ap (λ (n : ℕ). Err (Conflicting n)) (omega (arith, f.1)))
  reads (deep {place} (g, w, p, d) f) =
      same g
      (too_deep release (first_conflict T) (length (joined T)) (first_deep T) (length (span_rows T)) lent lent' (enough_is w) (silent T p) place ((first_deep_iff T place).1 f))
  reads (few_spans (g, w, p, n, v)) =
      let b = spans_number T v.counted in
      same g
      (too_few_spans release (first_conflict T) (length (joined T)) (first_deep T) (length (span_rows T)) lent lent' (enough_is w) (silent T p) ((never_deep_iff T).1 n)
      (omega (arith, b, v.fewer))
      ∙ ap (λ (n : ℕ). Err (FewSpans n)) b)
  reads (read (g, w, p, n, v)) =
      let a = definitions_number T w.counted in
      let b = spans_number T v.counted in
      same g
      (all_read release (first_conflict T) (length (joined T)) (first_deep T) (length (span_rows T)) lent lent' (enough_is w) (silent T p) ((never_deep_iff T).1 n)
      (omega (arith, b, v.enough))
      ∙ rw (a, b) refl)

  -- ---- what is read is the law's answer
  here : {x : Reading} → Law x → Answer
  here a = subst Law (sym (reads a)) a

  with_spans : GoodTexts T → Enough lent (DefinitionsCounted T) → Passes release T → NeverDeep T → Answer
  with_spans g w p n =
      by (ltb lent' (length (span_rows T)))
      (λ t. here (few_spans (g, w, p, n, record { needed = length (span_rows T); counted = spans_counted T; fewer = ltb-true lent' (length (span_rows T)) t })))
      (λ f. here (read (g, w, p, n, record { needed = length (span_rows T); counted = spans_counted T; enough = ltb-false lent' (length (span_rows T)) f })))

  with_depth : GoodTexts T → Enough lent (DefinitionsCounted T) → Passes release T → (o : Option ℕ) → first_deep T ≡ o → Answer
  with_depth g w p none e = with_spans g w p ((never_deep_iff T).0 e)
  with_depth g w p (some place) e = let f = (first_deep_iff T place).0 e in here (deep (g, w, p, some_deep T f) f)

  with_conflicts : GoodTexts T → Enough lent (DefinitionsCounted T) → (f : Place ℕ) → first_conflict T ≡ f → Answer
  with_conflicts g w (Some k) e =
      by release (λ y. here (conflicting (g, w, some_conflict T y e) (conflict_row T e)))
      (λ n. with_depth g w (passes T (λ y. absurd (true≢false (sym y ∙ n)))) (first_deep T) refl)
  with_conflicts g w None e = with_depth g w (passes T (λ y. e)) (first_deep T) refl

  with_definitions_lem : GoodTexts T → Answer
  with_definitions_lem g =
      by (ltb lent (length (joined T)))
      (λ t. here (few_definitions (g, record { needed = length (joined T); counted = definitions_counted T; fewer = ltb-true lent (length (joined T)) t })))
      (λ f. with_conflicts g (record { needed = length (joined T); counted = definitions_counted T; enough = ltb-false lent (length (joined T)) f }) (first_conflict T) refl)

  with_check : (c : Checked) → check_of T ≡ c → Answer
  with_check (Ok done) e = with_definitions_lem ((good_texts T).0 e)
  with_check (Err (texts.Long x n)) e = here (long ((check_long T x n).0 e).0)
  with_check (Err (texts.Bad x k)) e = let (d, f) = (check_bad T x k).0 e in here (bad d f)

  pub the_answer : Answer
  the_answer = with_check (check_of T) refl

  pub answers_iff : (x : Reading) → (reading_of release T lent lent' ≡ x) ↔ Law x
  answers_iff x = ((λ e. subst Law e the_answer), reads)
