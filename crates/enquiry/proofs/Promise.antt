-- What follows from the enquiry's promise: demand 1, and that no other result keeps it.
use Rattle.std.specs.Prelude.{Err, Ok}
use Prim.Native.Nat.{ℕ, ◌-◌, ◌≤◌}
use native.Mathlib.Omega.{arith}
use mathlib.Core.Path.{◌≡◌, refl, sym, ap, ◌∙◌}
use mathlib.Core.List.{List, [], ◌∷◌}
use lib.ListN.{length, drop, length-drop}
use lib.Seq.{length-take-le}
use Rattle.texts.specs.Texts.{Texts, text_of}
use Rattle.row.specs.Row.{Listed}
use Rattle.enquiry.specs.declared.Refusal.{Refusal}
use Rattle.enquiry.specs.declared.Refusal.TheVariants.{Long, Bad, NotLabel, Undefined}
use Rattle.enquiry.specs.Enquiry.{Enquiry, number_of, value_of, named_of, part_of, Address, address_of}
use Rattle.enquiry.specs.Answers.{Due0, Answers, destination}
use Rattle.enquiry.specs.Reading.{enquiry_of}
use Rattle.enquiry.specs.Promise.{Resolved}
use Rattle.enquiry.specs.Claims.{Handed, Demand1, Same}
use Rattle.enquiry.proofs.Answers.{determined, enquiry_iff, defines_lies}
use Rattle.enquiry.proofs.Demand1 as lines

refused : (T : Texts) (at beside : Address) (r : Refusal) → (part_of T (Err r) ≡ []) × (address_of at beside (Err r) ≡ at)
refused T at beside (Long k n) = (refl, refl)
refused T at beside (Bad k p) = (refl, refl)
refused T at beside NotLabel = (refl, refl)
refused T at beside Undefined = (refl, refl)

empty : (T : Texts) (at beside : Address) (e : Enquiry) → (number_of e ≡ 0 → ⊥) → (part_of T e ≡ []) × (address_of at beside e ≡ at)
empty T at beside (Ok d) n = absurd (n refl)
empty T at beside (Err r) n = refused T at beside r

module _ {T T₁ : Texts} {label label₁ answer part : List ℕ} {at beside place : Address} (r : Resolved T label at beside T₁ label₁ answer part place) where
  -- the promise in the law's terms
  pub by_law : {e : Enquiry} → Answers T label e → (answer ≡ number_of e ∷ value_of e ∷ named_of e ∷ []) × (part ≡ part_of T e) × (place ≡ address_of at beside e)
  by_law a =
      let q = determined T label a in
      (r.answered ∙ ap (λ (x : Enquiry). number_of x ∷ value_of x ∷ named_of x ∷ []) q, r.part_bytes ∙ ap (part_of T) q, r.part_place ∙ ap (address_of at beside) q)

  -- "a part of whichever of the two texts defines the label", "escapes undone nowhere"
  pub success_handed : {j : Listed} → Due0 T label j → Handed T at beside j answer part place
  success_handed {j} w =
      let (numbers, bytes, place) = by_law (destination w) in
      let p = (defines_lies T w.2).places in
      let d = j.definition.destination in
      let s = text_of T j.text in
      let inside : d.end ≤ length s = omega (arith, p.ends, p.inside) in
      record {
        numbers = numbers;
        bytes = bytes;
        own_place = place;
        size = rw bytes (omega (arith, p.destination, length-take-le (d.end - d.start) (drop d.start s) (omega (arith, length-drop d.start s))));
        inside = inside;
      }

  pub demand_1 : Demand1 T label at beside T₁ label₁ answer part place
  demand_1 = record {
    enquiry = enquiry_of T label;
    numbers = r.answered;
    line_1 = lines.line_1 T label;
    line_2 = lines.line_2 T label;
    line_8 = lines.line_8 T label;
    line_7 = lines.line_7 T label;
    success = lines.success T label;
    answers = enquiry_iff T label;
    names_the_note = lines.names_the_note T label;
    names_its_text = lines.names_its_text T label;
    handed = λ j w. success_handed w;
    refused = λ n. let (b, p) = empty T at beside (enquiry_of T label) n in (r.part_bytes ∙ b, r.part_place ∙ p);
    note_kept = r.note_kept;
    sheet_kept = r.sheet_kept;
    label_kept = r.label_kept;
  }

  -- "for each input the promise equates what the call gives .. with a definition"
  pub one_answer : {T₂ : Texts} {label₂ answer' part' : List ℕ} {place' : Address} → Resolved T label at beside T₂ label₂ answer' part' place' → Same answer part answer' part' place place'
  one_answer s = record {
    numbers = r.answered ∙ sym s.answered;
    bytes = r.part_bytes ∙ sym s.part_bytes;
    place_same = r.part_place ∙ sym s.part_place;
  }
