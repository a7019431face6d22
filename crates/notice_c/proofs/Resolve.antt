-- The exported enquiry's promise and the enquiry's own.
use Prim.Native.Nat.{ℕ, zero, suc, ◌+◌, ◌-◌, ◌≤◌, ◌<◌, ◌^◌}
use native.Mathlib.Omega.{arith}
use mathlib.Core.Path.{◌≡◌, refl, sym, ap, ◌∙◌}
use mathlib.Core.List.{List, [], ◌∷◌}
use borrow.Author.Tests.{eq-eqb, ne_eqb}
use lib.ListN.{length, get_or, take, drop, length-drop}
use lib.Seq.{length-take-le}
use Rattle.texts.specs.Texts.{Texts, text_of}
use Rattle.row.specs.Row.{Listed}
use Rattle.std.specs.Prelude.{Ok, Err}
use Rattle.enquiry.specs.declared.Refusal.TheVariants.{Long, Bad, NotLabel, Undefined}
use Rattle.enquiry.specs.Enquiry.{Enquiry, number_of, value_of, named_of, part_of, Address}
use Rattle.enquiry.specs.Answers.{Due0, Answers, destination}
use Rattle.enquiry.specs.Reading.{enquiry_of}
use Rattle.enquiry.specs.Promise.{Resolved}
use Rattle.enquiry.proofs.Answers.{determined, part_ordered, part_inside}
use Rattle.notice_c.specs.Resolve.{destination_start, destination_end, start_by, numbers_of, ResolvePromise}

-- every number is a 32-bit number
pub small : (e : Enquiry) → number_of e < 2 ^ 32
small (Ok d) = omega arith
small (Err (Long k n)) = omega arith
small (Err (Bad k p)) = omega arith
small (Err NotLabel) = omega arith
small (Err Undefined) = omega arith

no_place : (e : Enquiry) → (number_of e ≡ 0 → ⊥) → numbers_of e ≡ value_of e ∷ 0 ∷ 0 ∷ named_of e ∷ []
no_place (Ok d) refused = absurd (refused refl)
no_place (Err r) refused = refl

-- the text that an answer names
abbrev its_text : Texts → Enquiry → List ℕ
its_text T e = text_of T (named_of e)

part_between : (T : Texts) (e : Enquiry) → part_of T e ≡ take (destination_end e - destination_start e) (drop (destination_start e) (its_text T e))
part_between T (Ok d) = refl
part_between T (Err (Long k n)) = refl
part_between T (Err (Bad k p)) = refl
part_between T (Err NotLabel) = refl
part_between T (Err Undefined) = refl

places_in : (T : Texts) (label : List ℕ) (e : Enquiry) → e ≡ enquiry_of T label → (destination_start e ≤ destination_end e) × (destination_end e ≤ length (its_text T e))
places_in T label (Ok d) q = (part_ordered T label q refl, part_inside T label q refl)
places_in T label (Err r) q = (omega arith, omega arith)

-- ---- the part's start and end, by the numbers beside it
pub start_found : (n v : ℕ) → n ≡ 0 → v ≡ start_by n v
start_found n v e = rw (eq-eqb n 0 e)

pub start_none : (n v : ℕ) → (n ≡ 0 → ⊥) → 0 ≡ start_by n v
start_none n v e = rw (ne_eqb n 0 e)

start_by_lem : (e : Enquiry) → start_by (number_of e) (value_of e) ≡ destination_start e
start_by_lem (Ok d) = refl
start_by_lem (Err (Long k n)) = refl
start_by_lem (Err (Bad k p)) = refl
start_by_lem (Err NotLabel) = refl
start_by_lem (Err Undefined) = refl

end_by : (T : Texts) (label : List ℕ) (e : Enquiry) → e ≡ enquiry_of T label → destination_start e + length (part_of T e) ≡ destination_end e
end_by T label e q =
    let (o, i) = places_in T label e q in
    let a = destination_start e in
    let z = destination_end e in
    let l = length-take-le (z - a) (drop a (its_text T e)) (omega (arith, length-drop a (its_text T e))) in
    rw (part_between T e) (omega arith)

-- a text is no longer than the longer of the two
in_either : (T : Texts) {n m : ℕ} → length T.note < m → length T.sheet < m → (k : ℕ) → n ≤ length (text_of T k) → n < m
in_either T a b zero h = omega arith
in_either T a b (suc k) h = omega arith

-- what `enquiry::resolve` gives: the three numbers `triple`, and the part
module _ (T : Texts) (label : List ℕ) {at beside place : Address} {T₁ : Texts} {label₁ triple part : List ℕ} (r : Resolved T label at beside T₁ label₁ triple part place) where
  number_is : get_or triple 0 0 ≡ number_of (enquiry_of T label)
  number_is = rw r.answered

  value_is : get_or triple 1 0 ≡ value_of (enquiry_of T label)
  value_is = rw r.answered

  named_is : get_or triple 2 0 ≡ named_of (enquiry_of T label)
  named_is = rw r.answered

  pub number_small : get_or triple 0 0 < 2 ^ 32
  number_small = rw number_is (small (enquiry_of T label))

  module _ {start : ℕ} (started : start ≡ start_by (get_or triple 0 0) (get_or triple 1 0)) where
    start_is : start ≡ destination_start (enquiry_of T label)
    start_is = started ∙ rw (number_is, value_is) (start_by_lem (enquiry_of T label))

    end_is : start + length part ≡ destination_end (enquiry_of T label)
    end_is = rw (start_is, r.part_bytes) (end_by T label (enquiry_of T label) refl)

    pub end_within : {m : ℕ} → length T.note < m → length T.sheet < m → start + length part < m
    end_within a b = rw end_is (in_either T a b (named_of (enquiry_of T label)) (places_in T label (enquiry_of T label) refl).1)

    pub resolve_kept : ResolvePromise T label (get_or triple 0 0) T label (get_or triple 1 0 ∷ start ∷ (start + length part) ∷ get_or triple 2 0 ∷ [])
    resolve_kept = record {
      answered = number_is;
      numbers = rw (value_is, named_is, end_is, start_is);
      note_kept = refl;
      sheet_kept = refl;
      label_kept = refl;
    }

module _ {T T' : Texts} {label label' answer : List ℕ} {n : ℕ} (p : ResolvePromise T label n T' label' answer) where
  -- the numbers in the law's terms
  pub by_law : {e : Enquiry} → Answers T label e → (n ≡ number_of e) × (answer ≡ numbers_of e)
  by_law a =
      let q = determined T label a in
      (p.answered ∙ ap number_of q, p.numbers ∙ ap numbers_of q)

  -- on success the value is the destination's start
  pub success : {j : Listed} → Due0 T label j
      → (n ≡ 0) × (answer ≡ j.definition.destination.start ∷ j.definition.destination.start ∷ j.definition.destination.end ∷ j.text ∷ [])
  success w = by_law (destination w)

  -- on a refusal the two places are 0
  pub refusal_zeros : (n ≡ 0 → ⊥) → answer ≡ get_or answer 0 0 ∷ 0 ∷ 0 ∷ get_or answer 3 0 ∷ []
  refusal_zeros refused = rw p.numbers (no_place (enquiry_of T label) (λ e. refused (p.answered ∙ e)))

  -- the two places stand in order and within the text that is named
  pub places_within : (get_or answer 1 0 ≤ get_or answer 2 0) × (get_or answer 2 0 ≤ length (text_of T (get_or answer 3 0)))
  places_within = rw p.numbers (places_in T label (enquiry_of T label) refl)

  -- the enquiry that hands back a part gives the same number, value and text, and its part lies between the two places of that text
  pub as_resolved : {at beside place : Address} {T₁ : Texts} {label₁ triple part : List ℕ} → Resolved T label at beside T₁ label₁ triple part place
      → (triple ≡ n ∷ get_or answer 0 0 ∷ get_or answer 3 0 ∷ [])
      × (part ≡ take (get_or answer 2 0 - get_or answer 1 0) (drop (get_or answer 1 0) (text_of T (get_or answer 3 0))))
  as_resolved r = (rw (p.answered, p.numbers) r.answered, rw p.numbers (r.part_bytes ∙ part_between T (enquiry_of T label)))

  -- no other result keeps the promise
  pub one_answer : {n₂ : ℕ} {T₂ : Texts} {label₂ answer₂ : List ℕ} → ResolvePromise T label n₂ T₂ label₂ answer₂
      → (n ≡ n₂) × (answer ≡ answer₂) × (T'.note ≡ T₂.note) × (T'.sheet ≡ T₂.sheet) × (label' ≡ label₂)
  one_answer q = (
    p.answered ∙ sym q.answered,
    p.numbers ∙ sym q.numbers,
    p.note_kept ∙ sym q.note_kept,
    p.sheet_kept ∙ sym q.sheet_kept,
    p.label_kept ∙ sym q.label_kept,
  )
