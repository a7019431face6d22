-- The answer, refusal after refusal: what is said where the texts are good, by the counts, the definition that conflicts, the first bracket too many and the rows lent.
use Rattle.std.specs.Prelude.{None, Option as Place, Some, Ok, Err}
use Prim.Native.Nat.{ℕ, ◌+◌, ◌≤◌, ◌<◌}
use mathlib.Core.Path.{◌≡◌, refl, ◌∙◌}
use mathlib.Core.Option.{Option, none, some}
use mathlib.Core.Bool.{Bool, true, false}
use borrow.Author.Tests.{lt-ltb, le-ltb}
use lib.ListN.{length}
use Rattle.texts.specs.Texts.{Texts}
use Rattle.texts.specs.Reading.{Checked, check_of}
use Rattle.joined.specs.Reading.{joined}
use Rattle.conflict.specs.Reading.{first_conflict}
use Rattle.note.specs.Reading.{span_rows, first_deep}
use Rattle.notice.specs.declared.Refusal.TheVariants.{FewDefinitions, Conflicting, Deep, FewSpans}
use Rattle.notice.specs.Answers.{Reading, counts}
use Rattle.notice.specs.Reading.{bad_or, conflict_or, with_spans, with_conflicts, with_definitions, reading_of}

-- nothing is said of conflicts where the setting is no or none is found
abbrev pub Silent : Bool → Place ℕ → Type 0
Silent release f = release ≡ true → f ≡ None

pub passed : (release : Bool) (f : Place ℕ) (r : Reading) → Silent release f → conflict_or release f r ≡ r
passed true f r n = rw (n refl) refl
passed false f r n = refl

module _ (release : Bool) (f : Place ℕ) (a : ℕ) (o : Option ℕ) (b lent lent' : ℕ) where
  abbrev answer : Reading
  answer = with_definitions release f a o b lent lent'

  pub too_few_definitions : lent < a → answer ≡ Err (FewDefinitions a)
  too_few_definitions h = rw (lt-ltb lent a h)

  pub enough_definitions : a ≤ lent → answer ≡ with_conflicts release f a o b lent'
  enough_definitions h = rw (le-ltb lent a h)

  pub conflicts_found : (k : ℕ) → a ≤ lent → release ≡ true → f ≡ Some k → answer ≡ Err (Conflicting (k + 1))
  conflicts_found k h y e = rw (le-ltb lent a h, y, e)

  module _ (h : a ≤ lent) (silent : Silent release f) where
    by_spans : answer ≡ with_spans a o b lent'
    by_spans = enough_definitions h ∙ passed release f (with_spans a o b lent') silent

    pub too_deep : (place : ℕ) → o ≡ some place → answer ≡ Err (Deep place)
    too_deep place e = by_spans ∙ rw e refl

    pub too_few_spans : o ≡ none → lent' < b → answer ≡ Err (FewSpans b)
    too_few_spans e k = by_spans ∙ rw (e, lt-ltb lent' b k) refl

    pub all_read : o ≡ none → b ≤ lent' → answer ≡ Ok (counts a b)
    all_read e k = by_spans ∙ rw (e, le-ltb lent' b k) refl

-- the answer by the check's
pub by_check : (release : Bool) (T : Texts) (lent lent' : ℕ) (c : Checked) → check_of T ≡ c
    → reading_of release T lent lent'
    ≡ bad_or c (with_definitions release (first_conflict T) (length (joined T)) (first_deep T) (length (span_rows T)) lent lent')
unfolding reading_of
by_check release T lent lent' c e = rw e
