-- What the release setting changes, and what it leaves as it is.
use Rattle.std.specs.Prelude.{None, Option as Place, Some, Ok, Err}
use Prim.Native.Nat.{ℕ, ◌≤◌}
use native.Mathlib.Omega.{arith}
use mathlib.Core.Path.{◌≡◌, refl, sym, ap, ◌∙◌, subst}
use mathlib.Core.Logic.{◌⊎◌, inl, inr}
use mathlib.Core.Option.{Option, none, some}
use mathlib.Core.List.{List}
use mathlib.Core.Bool.{true, false, true≢false}
use lib.ListN.{length}
use lib.Dec.{ltb}
use Rattle.scan.proofs.Test.{by}
use Rattle.texts.specs.declared.Fault.TheVariants as texts
use Rattle.texts.specs.Texts.{Texts}
use Rattle.texts.specs.Reading.{Checked, check_of}
use Rattle.row.specs.Row.{Listed}
use Rattle.block.specs.Block.{Placed}
use Rattle.joined.specs.Joined.{JoinedIs}
use Rattle.joined.specs.Reading.{joined}
use Rattle.joined.proofs.Joined.{joined_one}
use Rattle.conflict.specs.Conflict.{entry, NoConflict}
use Rattle.conflict.specs.Reading.{differ, first_conflict}
use Rattle.conflict.proofs.Differences.{titled_alike, absent_alike, agree, differs, not_both}
use Rattle.conflict.proofs.Conflicts.{no_conflict_iff}
use Rattle.note.specs.Reading.{span_rows, first_deep}
use Rattle.page.specs.Reading.{page_of}
use Rattle.paragraphs.specs.Spans.{spans_filled}
use Rattle.notice.specs.Answers.{Reading}
use Rattle.notice.specs.declared.Refusal.TheVariants.{FewDefinitions}
use Rattle.notice.specs.Answers as reader
use Rattle.notice.specs.Reading.{bad_or, conflict_or, few_or, with_spans, without_conflicts, reading_of}
use Rattle.notice.proofs.Answers.{passes}
use Rattle.notice.proofs.Given.{given_or_kept}
use Rattle.notice.proofs.Demand1 as reader_answers
use Rattle.rendering.specs.Answers as writer
use Rattle.rendering.specs.Reading.{after_reading, rendering_of}
use Rattle.rendering.proofs.Alike.{same_number, by_number}
use Rattle.rendering.proofs.Demand1 as writer_answers
use Rattle.release.specs.Old as old
use Rattle.release.specs.Claims.{WithNo, WithYes, Alike, Settled, ReleaseClaims}

-- ---- numbers up to 6
small_spans : (d : ℕ) (o : Option ℕ) (n k : ℕ) → reader.number_of (with_spans d o n k) ≤ 6
small_spans d (some place) n k = omega arith
small_spans d none n k = by (ltb k n) (λ e. rw e (omega arith)) (λ e. rw e (omega arith))

small_definitions : (d : ℕ) (o : Option ℕ) (n lent k : ℕ) → reader.number_of (without_conflicts d o n lent k) ≤ 6
small_definitions d o n lent k = by (ltb lent d) (λ e. rw e (omega arith)) (λ e. rw e (small_spans d o n k))

small_checked : (c : Checked) (r : Reading) → reader.number_of r ≤ 6 → reader.number_of (bad_or c r) ≤ 6
small_checked (Ok done) r h = h
small_checked (Err (texts.Long x n)) r h = omega arith
small_checked (Err (texts.Bad x k)) r h = omega arith

-- ---- the answer is refusal 9, or another
abbrev NineOr : Reading → Reading → Type 0
NineOr x y = (reader.number_of x ≡ 9) ⊎ (x ≡ y)

nine_checked : (c : Checked) {x y : Reading} → NineOr x y → NineOr (bad_or c x) (bad_or c y)
nine_checked (Ok done) h = h
nine_checked (Err f) h = inr refl

nine_counted : (lent needed : ℕ) {x y : Reading} → NineOr x y → NineOr (few_or lent needed FewDefinitions x) (few_or lent needed FewDefinitions y)
nine_counted lent needed h = by (ltb lent needed) (λ e. rw e (inr refl)) (λ e. rw e h)

nine_found : (f : Place ℕ) (r : Reading) → NineOr (conflict_or true f r) r
nine_found (Some k) r = inl refl
nine_found None r = inr refl

nine_rendered : (need room : ℕ) {x y : Reading} → NineOr x y
    → (writer.number_of (after_reading need room x) ≡ 9) ⊎ (after_reading need room x ≡ after_reading need room y)
nine_rendered need room {x} (inl e) = inl (same_number need room x (omega (arith, e)) ∙ e)
nine_rendered need room (inr e) = inr (ap (after_reading need room) e)

-- ---- each setting
module _ (T : Texts) where
  no_reading : (d n : ℕ) → reading_of false T d n ≡ old.reading_of T d n
  unfolding reading_of old.reading_of
  no_reading d n = refl

  no_rendering : (d n room : ℕ) → rendering_of false T d n room ≡ old.rendering_of T d n room
  unfolding rendering_of old.rendering_of
  no_rendering d n room = ap (after_reading (length (page_of T)) room) (no_reading d n)

  small_reading : (d n : ℕ) → reader.number_of (old.reading_of T d n) ≤ 6
  unfolding old.reading_of
  small_reading d n = small_checked (check_of T) _ (small_definitions (length (joined T)) (first_deep T) (length (span_rows T)) d n)

  small_rendering : (d n room : ℕ) → writer.number_of (old.rendering_of T d n room) ≤ 6
  unfolding old.rendering_of
  small_rendering d n room = by_number (length (page_of T)) room (old.reading_of T d n) (small_reading d n)

  pub with_no : WithNo T
  with_no =
      record {
        reading = no_reading;
        rendering = no_rendering;
        reading_number = small_reading;
        rendering_number = small_rendering;
        table_of_definitions = λ number t. refl;
        span_table = λ number u h. given_or_kept number h (spans_filled (span_rows T) u) u;
        page_buffer = λ r p. refl;
        passes = passes T (λ y. absurd (true≢false (sym y)));
        never = λ s. true≢false (sym s.yes);
      }

  yes_reading : (d n : ℕ) → NineOr (reading_of true T d n) (reading_of false T d n)
  unfolding reading_of
  yes_reading d n = nine_checked (check_of T) (nine_counted d (length (joined T)) (nine_found (first_conflict T) _))

  yes_rendering : (d n room : ℕ) → (writer.number_of (rendering_of true T d n room) ≡ 9) ⊎ (rendering_of true T d n room ≡ rendering_of false T d n room)
  unfolding rendering_of
  yes_rendering d n room = nine_rendered (length (page_of T)) room (yes_reading d n)

  pub with_yes : WithYes T
  with_yes = record { reading = yes_reading; rendering = yes_rendering }

  -- ---- no conflict
  module _ (e : first_conflict T ≡ None) where
    same_reading : (d n : ℕ) → reading_of true T d n ≡ reading_of false T d n
    unfolding reading_of
    same_reading d n = rw e refl

    same_rendering : (d n room : ℕ) → rendering_of true T d n room ≡ rendering_of false T d n room
    unfolding rendering_of
    same_rendering d n room = ap (after_reading (length (page_of T)) room) (same_reading d n)

  module _ (list : List Listed) (paragraphs : List Placed) (joins : JoinedIs T list paragraphs) where
    unsettled : Settled list T → NoConflict list T
    unsettled s k c =
        let w = s c.earlier k c.before c.within c.equal in
        not_both T (record { destination = w.destination; title = w.title; presence = absent_alike (entry list c.earlier) (entry list k) w.presence }) c.differ

    pub identical : Settled list T → Alike T
    identical s =
        let e = (no_conflict_iff T).1 (subst (λ (js : List Listed). NoConflict js T) (sym (joined_one T joins).0) (unsettled s)) in
        record { reading = same_reading e; rendering = same_rendering e }

    settled : NoConflict list T → Settled list T
    settled c i k h w q =
        by (differ T (entry list i) (entry list k))
        (λ d. absurd (c k (record { within = w; earlier = i; before = h; equal = q; differ = differs T (entry list i) (entry list k) d })))
        (λ d.
        let g = agree T (entry list i) (entry list k) d in
        record { destination = g.destination; title = g.title; presence = titled_alike (entry list i) (entry list k) g.presence })

    passed : reader.Passes true T → NoConflict list T
    passed p = subst (λ (js : List Listed). NoConflict js T) (sym (joined_one T p.joins).0 ∙ (joined_one T joins).0) (p.none refl)

  settled_read : (d n : ℕ) → reader.number_of (reading_of true T d n) ≡ 0 → (list : List Listed) (paragraphs : List Placed) → JoinedIs T list paragraphs → Settled list T
  settled_read d n z list ps j = settled list ps j (passed list ps j ((reader_answers.demand_1 true T d n).success.exactly.0 z).2)

  settled_rendered : (d n room : ℕ) → writer.number_of (rendering_of true T d n room) ≡ 0 → (list : List Listed) (paragraphs : List Placed) → JoinedIs T list paragraphs
      → Settled list T
  settled_rendered d n room z list ps j = settled list ps j (passed list ps j ((writer_answers.demand_1 true T d n room).success.exactly.0 z).0.2)

  pub release_claims : ReleaseClaims T
  release_claims =
      record { with_no = with_no; with_yes = with_yes; identical = identical; settled_read = settled_read; settled_rendered = settled_rendered }
