-- `tail_of` gives exactly the tail that the three rules give.
use Rattle.std.specs.Prelude.{None, Option as Found, Some}
use Rattle.std.proofs.lemmas.Option.{none-some}
use Prim.Native.Nat.{ℕ, ◌+◌, ◌-◌}
use native.Mathlib.Omega.{arith}
use mathlib.Core.Path.{◌≡◌, refl, sym, ap, ap₂, ◌∙◌, subst}
use mathlib.Core.Logic.{◌↔◌}
use mathlib.Core.Option.{Option, some, some-injective, none-ne-some}
use mathlib.Core.List.{List, [], ◌∷◌}
use mathlib.Core.Bool.{Bool, true, false, true≢false, cond}
use borrow.Author.Tests.{eqb-true}
use lib.ListN.{length, get_or, take, drop}
use lib.Seq.{take_at}
use lib.Dec.{eqb}
use Rattle.scan.proofs.Test.{by, and_left, and_right}
use Rattle.label.specs.Label.{IsLabel, LabelAt}
use Rattle.label.specs.Reading.{is_label}
use Rattle.label.proofs.Label.{label_end_iff, is_label_iff}
use Rattle.target.proofs.Delimited.{front as front_byte}
use Rattle.row.specs.First.{FirstEqual}
use Rattle.row.specs.Reading.{first_match}
use Rattle.row.proofs.First.{first_equal}
use Rattle.inline.specs.Tails.{Tail, full, collapsed, shortcut, InlineFollows, LabelFollows, EmptyFollows, TailOf, first, second, third, third_alone}
use Rattle.inline.specs.ReadingTails.{inline_of, label_after, empty_after, full_by, short_by, text_tail, reference_by, reference_of, moved_parts, tail_by, tail_of}
use Rattle.inline.specs.declared.InlineParts.{InlineParts}
use Rattle.inline.proofs.InlineComplete.{inline_read}
use Rattle.inline.proofs.InlineSound.{inline_sound}

-- ---- rule 1
module _ (s : List ℕ) (at : ℕ) where
  -- no tail of an inline link follows
  abbrev NoInline : Type 0
  NoInline = (t : Tail) → InlineFollows s at t → ⊥

  no_inline : NoInline → inline_of s ≡ None
  no_inline n = by_answer (inline_of s) refl
    where
      by_answer : (f : Found InlineParts) → inline_of s ≡ f → f ≡ None
      by_answer (Some q) e = absurd (n (moved_parts at q) (inline_sound s at q e))
      by_answer None e = refl

  inline_none : inline_of s ≡ None → NoInline
  inline_none e t i = none-some _ (sym e ∙ (inline_read s at i).reads)

-- ---- rule 2: the label that follows
record LabelTo (s : List ℕ) (e : ℕ) : Type 0 where
  label : List ℕ
  follows : LabelFollows s label
  place : e ≡ 1 + length label

module _ (s : List ℕ) where
  label_to : {label : List ℕ} → LabelFollows s label → label_after s ≡ Some (1 + length label)
  unfolding label_after
  label_to {label} f =
      let e : eqb (get_or s 0 0) 91 ≡ true = rw f.whole in
      rw (e, label_after)
      ((label_end_iff (drop 1 s) 1 (1 + length label)).1
      (record { label = label; more = f.rest; whole = ap (drop 1) f.whole; is_a_label = f.is_a_label; place = refl }))

  label_from : {e : ℕ} → label_after s ≡ Some e → LabelTo s e
  unfolding label_after
  label_from {e} q =
      by (eqb (get_or s 0 0) 91)
      (λ k.
      let m : LabelAt (drop 1 s) 1 e = (label_end_iff (drop 1 s) 1 e).0 (rw (k, label_after) at q) in
      record {
        label = m.label;
        follows =
            record {
              rest = m.more;
              whole = front_byte s 91 (eqb-true (get_or s 0 0) 91 k) (λ z. omega arith) ∙ ap (λ (x : List ℕ). 91 ∷ x) m.whole;
              is_a_label = m.is_a_label;
            };
        place = m.place;
      })
      (λ k. absurd (none-some _ (rw (k, label_after) at q)))

  label_bytes : {label : List ℕ} {e : ℕ} → LabelFollows s label → e ≡ 1 + length label → take (e - 1) (drop 1 s) ≡ label
  label_bytes {label} {e} f p = ap (λ (x : List ℕ). take (e - 1) (drop 1 x)) f.whole ∙ take_at label (93 ∷ f.rest) (e - 1) (omega arith)

  no_label : ((label : List ℕ) → LabelFollows s label → ⊥) → label_after s ≡ None
  no_label n = by_answer (label_after s) refl
    where
      by_answer : (f : Found ℕ) → label_after s ≡ f → f ≡ None
      by_answer (Some e) q = let m = label_from q in absurd (n m.label m.follows)
      by_answer None q = refl

  label_none : label_after s ≡ None → (label : List ℕ) → LabelFollows s label → ⊥
  label_none q label f = none-some _ (sym q ∙ label_to f)

-- ---- rule 3: `[]` follows
empty_to : {s : List ℕ} → EmptyFollows s → empty_after s ≡ true
empty_to f = rw f.whole

empty_from : (s : List ℕ) → empty_after s ≡ true → EmptyFollows s
empty_from [] e = absurd (true≢false (sym e))
empty_from (a ∷ []) e = absurd (true≢false (sym (and_right (eqb a 91) _ e)))
empty_from (a ∷ b ∷ rest) e =
    record { rest = rest; whole = ap₂ (λ (x y : ℕ). x ∷ y ∷ rest) (eqb-true a 91 (and_left _ (eqb b 93) e)) (eqb-true b 93 (and_right (eqb a 91) _ e)) }

-- ---- the three rules
module _ (labels : List (List ℕ)) (text s : List ℕ) (at : ℕ) where
  to_references : NoInline s at → tail_of labels text s at ≡ reference_of labels text s
  unfolding tail_of
  to_references n = ap (tail_by labels text s at) (no_inline s at n)

  to_text : {k : ℕ} → ((label : List ℕ) → LabelFollows s label → ⊥) → IsLabel text → FirstEqual labels text k → (empty : Bool) → empty_after s ≡ empty
      → reference_of labels text s ≡ some (cond empty (collapsed k) (shortcut k))
  unfolding text_tail
  to_text {k} n l f empty e =
      ap (reference_by labels text s) (no_label s n)
      ∙ rw ((is_label_iff text).1 l, text_tail)
      (ap₂ (λ (b : Bool) (x : Found ℕ). short_by b x) e ((first_equal labels text k).1 f))

  complete : {t : Tail} → TailOf labels text s at t → tail_of labels text s at ≡ some t
  unfolding tail_of
  complete (first i) = let r = inline_read s at i in ap (tail_by labels text s at) r.reads ∙ ap {B = Option Tail} some r.is
  complete (second label {k} n f e) =
      to_references n
      ∙ ap (reference_by labels text s) (label_to s f)
      ∙ ap (λ (l : List ℕ). full_by (1 + length label + 1) (first_match labels l)) (label_bytes s f refl)
      ∙ ap (full_by (1 + length label + 1)) ((first_equal labels label k).1 e)
      ∙ ap (λ (m : ℕ). some (full m k)) (omega arith)
  complete (third n l i f e) = to_references n ∙ to_text l i f true (empty_to e)
  complete (third_alone n l i f e) = to_references n ∙ to_text l i f false (by (empty_after s) (λ k. absurd (e (empty_from s k))) (λ k. k))

  module _ (n : NoInline s at) where
    sound_full : (label : List ℕ) (e : ℕ) → LabelFollows s label → e ≡ 1 + length label → (x : Found ℕ) → first_match labels label ≡ x → {t : Tail} → full_by (e + 1) x ≡ some t → TailOf labels text s at t
    sound_full label e f p (Some k) q {t} r =
        let m : length label + 2 ≡ e + 1 = omega arith in
        subst (TailOf labels text s at) (ap (λ (m : ℕ). full m k) m ∙ some-injective (full (e + 1) k) t r) (second label n f ((first_equal labels label k).0 q))
    sound_full label e f p None q {t} r = absurd (none-ne-some t r)

    sound_short : ((label : List ℕ) → LabelFollows s label → ⊥) → IsLabel text → (empty : Bool) → empty_after s ≡ empty → (x : Found ℕ) → first_match labels text ≡ x
        → {t : Tail} → short_by empty x ≡ some t → TailOf labels text s at t
    sound_short l i true e (Some k) q {t} r =
        subst (TailOf labels text s at) (some-injective (collapsed k) t r) (third n l i ((first_equal labels text k).0 q) (empty_from s e))
    sound_short l i false e (Some k) q {t} r =
        subst (TailOf labels text s at) (some-injective (shortcut k) t r)
        (third_alone n l i ((first_equal labels text k).0 q) (λ f. true≢false (sym (empty_to f) ∙ e)))
    sound_short l i empty e None q {t} r = absurd (none-ne-some t r)

    sound_text : ((label : List ℕ) → LabelFollows s label → ⊥) → {t : Tail} → text_tail labels text s ≡ some t → TailOf labels text s at t
    unfolding text_tail
    sound_text l {t} r =
        by (is_label text) (λ i. sound_short l ((is_label_iff text).0 i) (empty_after s) refl (first_match labels text) refl (rw (i, text_tail) at r))
        (λ i. absurd (none-ne-some t (rw (i, text_tail) at r)))

    sound_reference : (x : Found ℕ) → label_after s ≡ x → {t : Tail} → reference_by labels text s x ≡ some t → TailOf labels text s at t
    sound_reference (Some e) q r =
        let m = label_from s q in
        sound_full m.label e m.follows m.place (first_match labels m.label) refl
        (ap (λ (l : List ℕ). full_by (e + 1) (first_match labels l)) (sym (label_bytes s m.follows m.place)) ∙ r)
    sound_reference None q r = sound_text (label_none s q) r

  sound : (x : Found InlineParts) → inline_of s ≡ x → {t : Tail} → tail_by labels text s at x ≡ some t → TailOf labels text s at t
  sound (Some q) e {t} r = subst (TailOf labels text s at) (some-injective (moved_parts at q) t r) (first (inline_sound s at q e))
  sound None e r = sound_reference (inline_none s at e) (label_after s) refl r

  pub tail_iff : (t : Tail) → TailOf labels text s at t ↔ (tail_of labels text s at ≡ some t)
  unfolding tail_of
  tail_iff t = (complete, sound (inline_of s) refl)
