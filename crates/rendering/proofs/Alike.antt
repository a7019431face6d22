-- The page writer's answer and tables beside the reader's.
use Prim.Native.Nat.{ℕ, ◌≤◌}
use native.Mathlib.Omega.{arith}
use mathlib.Core.Path.{◌≡◌, refl, sym, ap, ◌∙◌}
use mathlib.Core.Logic.{◌⊎◌, inl, inr}
use mathlib.Core.List.{List}
use lib.Dec.{ltb}
use Rattle.scan.proofs.Test.{by}
use Rattle.texts.specs.Texts.{Texts}
use Rattle.notice.specs.Answers.{Reading}
use Rattle.std.specs.Prelude.{Ok, Err}
use Rattle.notice.specs.declared.Counts.{Counts}
use Rattle.notice.specs.declared.Refusal.{Refusal}
use Rattle.notice.specs.declared.Refusal.TheVariants.{Long, Bad, FewDefinitions, Conflicting, Deep, FewSpans}
use Rattle.notice.specs.Answers as reader
use Rattle.notice.specs.Reading.{definition_table_of, span_table_of}
use Rattle.rendering.specs.Answers.{Rendering, number_of, value_of, named_of, definition_count, span_count}
use Rattle.rendering.specs.Reading.{after_reading}

abbrev ZeroOrSix : Rendering → Type 0
ZeroOrSix r = (number_of r ≡ 0) ⊎ (number_of r ≡ 6)

-- a refusal of the reader is no success, and not 6
pub refusal_low : (r : Refusal) → 1 ≤ reader.refusal_number r
refusal_low (Long y n) = omega arith
refusal_low (Bad y k) = omega arith
refusal_low (FewDefinitions n) = omega arith
refusal_low (Conflicting n) = omega arith
refusal_low (Deep k) = omega arith
refusal_low (FewSpans n) = omega arith

refusal_other : (r : Refusal) → reader.refusal_number r ≡ 6 → ⊥
refusal_other (Long y n) e = omega arith
refusal_other (Bad y k) e = omega arith
refusal_other (FewDefinitions n) e = omega arith
refusal_other (Conflicting n) e = omega arith
refusal_other (Deep k) e = omega arith
refusal_other (FewSpans n) e = omega arith

module _ (need room : ℕ) where
  abbrev after : Reading → Rendering
  after = after_reading need room

  -- a refusal of the reader is the page writer's
  record Refused (x : Reading) : Type 0 where
    low : 1 ≤ reader.number_of x
    other : reader.number_of x ≡ 6 → ⊥
    number : number_of (after x) ≡ reader.number_of x
    value : value_of (after x) ≡ reader.value_of x

  by_reading : {C : Type 0} (x : Reading) → ((c : Counts) → x ≡ Ok c → C) → (Refused x → C) → C
  by_reading (Ok c) f g = f c refl
  by_reading (Err r) f g = g (record { low = refusal_low r; other = refusal_other r; number = refl; value = refl })

  module _ (x : Reading) where
    -- ---- where the reader refuses
    refusal : 1 ≤ reader.number_of x → Refused x
    refusal h = by_reading x (λ c e. absurd (omega (arith, ap reader.number_of e))) (λ w. w)

    pub same_number : 1 ≤ reader.number_of x → number_of (after x) ≡ reader.number_of x
    same_number h = (refusal h).number

    pub same_value : 1 ≤ reader.number_of x → value_of (after x) ≡ reader.value_of x
    same_value h = (refusal h).value

    -- ---- where it does not: the page fits, or it does not
    read_number : {c : Counts} → x ≡ Ok c → ZeroOrSix (after x)
    read_number e = rw e (by (ltb room need) (λ t. inr (rw t refl)) (λ f. inl (rw f refl)))

    pub zero_or_six : reader.number_of x ≡ 0 → ZeroOrSix (after x)
    zero_or_six z = by_reading x (λ c e. read_number e) (λ w. absurd (omega (arith, w.low)))

    -- ---- 0 and 6 are given where the reader succeeds, all others are its own
    neither : ZeroOrSix (after x) → 1 ≤ number_of (after x) → (number_of (after x) ≡ 6 → ⊥) → ⊥
    neither (inl e) lo n = omega (arith, e)
    neither (inr e) lo n = n e

    pub was_refused : 1 ≤ number_of (after x) → (number_of (after x) ≡ 6 → ⊥) → reader.number_of x ≡ number_of (after x)
    was_refused lo n = by_reading x (λ c e. absurd (neither (read_number e) lo n)) (λ w. sym w.number)

    pub was_read : ZeroOrSix (after x) → reader.number_of x ≡ 0
    was_read o = by_reading x (λ c e. ap reader.number_of e) (λ w. absurd (neither o (omega (arith, w.low, w.number)) (λ e. w.other (sym w.number ∙ e))))

    -- a number up to 6 stays one
    pub by_number : reader.number_of x ≤ 6 → number_of (after x) ≤ 6
    by_number h = by_reading x (λ c e. small (read_number e)) (λ w. omega (arith, w.number))
      where
        small : ZeroOrSix (after x) → number_of (after x) ≤ 6
        small (inl e) = omega (arith, e)
        small (inr e) = omega (arith, e)

    -- the counts on success
    pub same_counts : number_of (after x) ≡ 0 → (definition_count (after x) ≡ reader.definition_count x) × (span_count (after x) ≡ reader.span_count x)
    same_counts z = by_reading x (λ c e. counts e) (λ w. absurd (omega (arith, w.low, w.number)))
      where
        counts : {c : Counts} → x ≡ Ok c → (definition_count (after x) ≡ reader.definition_count x) × (span_count (after x) ≡ reader.span_count x)
        counts e =
            by (ltb room need) (λ t. let q : number_of (after x) ≡ 6 = rw (e, t) refl in absurd (omega (arith, q))) (λ f. (rw (e, f) refl, rw (e, f) refl))

  -- ---- the text
  pub same_named : (x : Reading) → named_of (after x) ≡ reader.named_of x
  same_named (Ok c) = by (ltb room need) (λ q. rw q refl) (λ q. rw q refl)
  same_named (Err r) = refl

  -- ---- the tables
  pub same_definitions : (T : Texts) (t : List ℕ) (x : Reading) → definition_table_of T (number_of (after x)) t ≡ definition_table_of T (reader.number_of x) t
  same_definitions T t x =
      by_reading x (λ c e. rw e (by (ltb room need) (λ q. rw q refl) (λ q. rw q refl))) (λ w. rw w.number refl)

  pub same_spans : (T : Texts) (u : List ℕ) (x : Reading) → span_table_of T (number_of (after x)) u ≡ span_table_of T (reader.number_of x) u
  same_spans T u (Ok c) = by (ltb room need) (λ q. rw q refl) (λ q. rw q refl)
  same_spans T u (Err r) = refl
