-- What the code learns step by step, and the answer that it makes of that.
use Rattle.std.specs.Prelude.{None, Option, Some, Err, Ok, IsErrAnd}
use Prim.Native.Nat.{ℕ, zero, suc, ◌-◌}
use mathlib.Core.Path.{◌≡◌, refl, sym, ap, ◌∙◌}
use mathlib.Core.List.{List, [], ◌∷◌}
use mathlib.Core.Bool.{Bool, true, false}
use lib.ListN.{take, drop}
use Rattle.texts.specs.declared.Fault.{Fault}
use Rattle.texts.specs.Texts.{Texts}
use Rattle.texts.specs.Reading.{Checked}
use Rattle.texts.specs.Promise.{Promise}
use Rattle.row.proofs.Turn.{other_text}
use Rattle.enquiry.specs.declared.Destination.{Destination}
use Rattle.enquiry.specs.declared.Refusal.{Refusal}
use Rattle.enquiry.specs.declared.Refusal.TheVariants.{Long, Bad, NotLabel, Undefined}
use Rattle.enquiry.specs.Enquiry.{Enquiry, of_fault, number_of, value_of, named_of, part_of, Address, advanced, text_address, address_of}
use Rattle.enquiry.specs.Reading.{good_label, answer_of, or_undefined, checked_enquiry, enquiry_of}
use Rattle.enquiry.specs.Promise.{Resolved}
use Rattle.enquiry.proofs.Lookup.{or_next, answer_joined}

-- nothing is handed back on a refusal
pub empty : (T : Texts) (at beside : Address) (r : Refusal) → ([] ≡ part_of T (Err r)) × (at ≡ address_of at beside (Err r))
empty T at beside (Long k n) = (refl, refl)
empty T at beside (Bad k p) = (refl, refl)
empty T at beside NotLabel = (refl, refl)
empty T at beside Undefined = (refl, refl)

other_address : (at beside : Address) (k : ℕ) → (k ≡ 0 → ⊥) → text_address at beside k ≡ beside
other_address at beside zero n = absurd (n refl)
other_address at beside (suc k) n = refl

-- ---- the texts: x is what their check tells
module _ (T : Texts) (label : List ℕ) {x : Checked} (check : Promise T x) where
  pub refused_text : {f : Fault} → x ≡ Err f → (e : Enquiry) → IsErrAnd e (λ r. r ≡ of_fault f) → e ≡ enquiry_of T label
  unfolding enquiry_of
  refused_text q (Ok d) h = absurd h
  refused_text q (Err r) h = ap Err h ∙ ap (checked_enquiry T label) (sym q ∙ check.answer)

  module _ (good : x ≡ Ok tt) {p : Bool} (tells : p ≡ good_label label) where
    pub refused_label : p ≡ false → Err NotLabel ≡ enquiry_of T label
    unfolding enquiry_of
    refused_label t = rw (← check.answer, good, ← tells, t)

    -- a is what the note gives
    module _ (t : p ≡ true) {a : Option Destination} (own : a ≡ answer_of 0 T.note label) where
      searched : or_undefined (or_next a (answer_of 1 T.sheet label)) ≡ enquiry_of T label
      unfolding enquiry_of
      searched = rw (← check.answer, good, ← tells, t) (ap or_undefined (rw own (sym (answer_joined label T))))

      pub found_own : {d : Destination} → a ≡ Some d → Ok d ≡ enquiry_of T label
      found_own e = rw e at searched

      -- it does not: b is what the sheet gives
      pub found_beside : a ≡ None → {b : Option Destination} → b ≡ answer_of 1 T.sheet label → or_undefined b ≡ enquiry_of T label
      found_beside u q = ap or_undefined q ∙ (rw u at searched)

-- ---- the entry: e is the answer, and n, v and x are stored
module _ (T : Texts) (label : List ℕ) (at beside : Address) {e : Enquiry} (answer : e ≡ enquiry_of T label) {n v x : ℕ} (number : n ≡ number_of e) (value : v ≡ value_of e) (named : x ≡ named_of e) where
  resolved : {part : List ℕ} {place : Address} → part ≡ part_of T e → place ≡ address_of at beside e → Resolved T label at beside T label (n ∷ v ∷ x ∷ []) part place
  resolved p q = record {
    answered = rw (← answer, number, value, named);
    part_bytes = rw (← answer) p;
    part_place = rw (← answer) q;
    note_kept = refl;
    sheet_kept = refl;
    label_kept = refl;
  }

  pub nothing_handed : {r : Refusal} → e ≡ Err r → Resolved T label at beside T label (n ∷ v ∷ x ∷ []) [] at
  nothing_handed {r} f = let (p, q) = empty T at beside r in resolved (rw f p) (rw f q)

  pub refused_part : ((d : Destination) → e ≡ Ok d → ⊥) → Resolved T label at beside T label (n ∷ v ∷ x ∷ []) [] at
  refused_part f = by_answer e refl
    where
      by_answer : (y : Enquiry) → e ≡ y → Resolved T label at beside T label (n ∷ v ∷ x ∷ []) [] at
      by_answer (Ok d) q = absurd (f d q)
      by_answer (Err r) q = nothing_handed q

  module _ {d : Destination} (f : e ≡ Ok d) where
    pub note_handed : d.text ≡ 0 → Resolved T label at beside T label (n ∷ v ∷ x ∷ []) (take (d.end - d.start) (drop d.start T.note)) (advanced at d.start)
    note_handed i = resolved (rw (f, i)) (rw (f, i))

    pub sheet_handed : (d.text ≡ 0 → ⊥) → Resolved T label at beside T label (n ∷ v ∷ x ∷ []) (take (d.end - d.start) (drop d.start T.sheet)) (advanced beside d.start)
    sheet_handed i = resolved (rw f (ap (λ (s : List ℕ). take (d.end - d.start) (drop d.start s)) (other_text T d.text i))) (rw (f, other_address at beside d.text i))
