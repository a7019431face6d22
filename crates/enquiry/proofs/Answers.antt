-- The reading is the law: `enquiry_of` is the one answer that documents 01 and 02 admit.
use Rattle.std.specs.Prelude.{None, Option, Some, is_none, Err, Ok}
use Prim.Native.Nat.{ℕ, suc, ◌≤◌, ◌<◌}
use native.Mathlib.Nat.{add-zero}
use native.Mathlib.Omega.{arith}
use mathlib.Core.Path.{◌≡◌, refl, sym, ap, subst, ◌∙◌}
use mathlib.Core.Logic.{◌↔◌, inl, inr, ⊎_elim}
use mathlib.Core.List.Memᴰ
use mathlib.Core.List.{List, ◌∷◌, ◌++◌}
use mathlib.Core.Bool.{true, false, true≢false}
use lib.ListN.{length, get_or, take, drop, take-append-drop, length-map}
use lib.Seq.{length-take-le, drop-cons, get_or-append-add}
use Rattle.scan.proofs.Test.{by, and_left, and_right}
use Rattle.text.specs.Reading.{first_bad}
use Rattle.text.proofs.FirstBad.{first_bad_nothing}
use Rattle.text.proofs.Clean.{good_text}
use Rattle.texts.specs.declared.Fault.TheVariants as fault
use Rattle.texts.specs.Texts.{Texts, texts, text_of}
use Rattle.texts.specs.Answers.{GoodTexts}
use Rattle.texts.specs.Reading.{Checked, check_of}
use Rattle.texts.proofs.Refusals.{check_long, check_bad, good_texts}
use Rattle.label.specs.Reading.{is_label}
use Rattle.label.proofs.Label.{is_label_iff}
use Rattle.row.specs.Row.{Listed}
use Rattle.row.specs.First.{bytes_of, labels_of, past_end, FirstEqual}
use Rattle.row.specs.Reading.{first_match}
use Rattle.row.proofs.First.{first_equal, none_equal}
use Rattle.row.proofs.Turn.{other_text}
use Rattle.definition.specs.Reading.{paragraphs}
use Rattle.walk.proofs.Places.{Lies, definitions_lie}
use Rattle.joined.specs.Reading.{joined}
use Rattle.joined.proofs.Joined.{joined_some, joined_one}
use Rattle.joined.proofs.Places.{each_entry}
use Rattle.enquiry.specs.declared.Destination.{Destination}
use Rattle.enquiry.specs.declared.Refusal.TheVariants.{Long, Bad, NotLabel, Undefined}
use Rattle.enquiry.specs.Enquiry.{Enquiry}
use Rattle.enquiry.specs.Answers.{NoLabel, GoodLabel, ListOf, NoDefinition, Defines, Answers}
use Rattle.enquiry.specs.Answers as law
use Rattle.enquiry.specs.Reading.{good_label, answer_by, answer_at, answer_in, answer_for, or_undefined, checked_enquiry, enquiry_of}

-- ---- the label
was_nowhere : (f : Option ℕ) → is_none f ≡ true → f ≡ None
was_nowhere (Some k) e = absurd (true≢false (sym e))
was_nowhere None e = refl

module _ (label : List ℕ) where
  pub good_label_lem : (good_label label ≡ true) ↔ GoodLabel label
  unfolding good_label
  good_label_lem = (
    λ e. record {
      is_a_label = (is_label_iff label).0 (and_left _ (is_none (first_bad label 0)) e);
      clean = (good_text label).0 ((first_bad_nothing label).0 (was_nowhere (first_bad label 0) (and_right (is_label label) _ e)));
    },
    λ g. rw ((is_label_iff label).1 g.is_a_label, (first_bad_nothing label).1 ((good_text label).1 g.clean)),
  )

  pub no_label : (good_label label ≡ false) ↔ NoLabel label
  no_label = (
    λ e.
        by (is_label label)
        (λ t. inr (λ k. true≢false (sym (good_label_lem.1 record { is_a_label = (is_label_iff label).0 t; clean = k }) ∙ e)))
        (λ f. inl (λ m. true≢false (sym ((is_label_iff label).1 m) ∙ f))),
    λ n. by (good_label label) (λ t. let g = good_label_lem.0 t in absurd (⊎_elim (λ m. m g.is_a_label) (λ m. m g.clean) n)) (λ f. f),
  )

-- ---- element k of a list, between those before it and those after it
module _ {A : Type 0} (o : A) where
  pub split_at : (l : List A) (k : ℕ) → k < length l → take k l ++ get_or l k o ∷ drop (suc k) l ≡ l
  split_at l k h = ap (λ (m : List A). take k l ++ m) (sym (drop-cons l k o h)) ∙ take-append-drop k l

  pub at_split : (l : List A) (x : A) (more : List A) → get_or (l ++ x ∷ more) (length l) o ≡ x
  at_split l x more = rw add-zero at (get_or-append-add l (x ∷ more) 0 o)

-- ---- the joined list
module _ (T : Texts) where
  its_list : ListOf T (joined T)
  its_list = record { paragraphs = paragraphs T.note; joined = joined_some T }

  no_others : {js : List Listed} → ListOf T js → joined T ≡ js
  no_others m = (joined_one T m.joined).0

  pub defines_lies : {label : List ℕ} {j : Listed} → Defines T label j → Lies (text_of T j.text) j.definition
  defines_lies {j = j} m = each_entry T Lies definitions_lie j (rw (no_others m.all) (Memᴰ.append_right m.before (Memᴰ.head refl)))

  module _ (label : List ℕ) where
    search_none : NoDefinition T label → answer_for T label ≡ None
    unfolding answer_for answer_in
    search_none m = rw (no_others m.all, (none_equal (labels_of T m.list) label).1 m.none)

    search_first : {j : Listed} → Defines T label j → answer_for T label ≡ Some (answer_by j)
    unfolding answer_for answer_in
    search_first {j} m =
        rw (no_others m.all, (first_equal (labels_of T (m.before ++ j ∷ m.after)) label (length m.before)).1 m.first)
        (ap (λ (x : Listed). Some (answer_by x)) (at_split past_end m.before j m.after))

    first_defines : (k : ℕ) → FirstEqual (labels_of T (joined T)) label k → Defines T label (get_or (joined T) k past_end)
    first_defines k f =
        let js = joined T in
        let h : k < length js = omega (arith, f.within, length-map js (λ (j : Listed). bytes_of (text_of T j.text) j.definition.label)) in
        let split = split_at past_end js k h in
        let size : length (take k js) ≡ k = length-take-le k js (omega arith) in
        record {
          before = take k js;
          after = drop (suc k) js;
          all = subst (ListOf T) (sym split) its_list;
          first = subst (λ (l : List Listed). FirstEqual (labels_of T l) label (length (take k js))) (sym split) (rw size f);
        }

    module _ (g : GoodTexts T) (l : GoodLabel label) where
      searched : (f : Option ℕ) → first_match (labels_of T (joined T)) label ≡ f → Answers T label (or_undefined (answer_at (joined T) f))
      searched (Some k) q = law.destination (g, l, first_defines k ((first_equal (labels_of T (joined T)) label k).0 q))
      searched None q = law.undefined (g, l, record { list = joined T; all = its_list; none = (none_equal (labels_of T (joined T)) label).0 q })

      good_answer : Answers T label (or_undefined (answer_for T label))
      unfolding answer_for answer_in
      good_answer = searched (first_match (labels_of T (joined T)) label) refl

-- ---- the answer
module _ (T : Texts) (label : List ℕ) where
  by_check : (x : Checked) → check_of T ≡ x → Answers T label (checked_enquiry T label x)
  by_check (Err (fault.Long k n)) q = let (d, s) = (check_long T k n).0 q in subst (λ (m : ℕ). Answers T label (Err (Long k m))) s (law.long d)
  by_check (Err (fault.Bad k p)) q = let (d, b) = (check_bad T k p).0 q in law.bad d b
  by_check (Ok done) q =
      let g = (good_texts T).0 q in
      by (good_label label)
      (λ t. rw t (good_answer T label g ((good_label_lem label).0 t)))
      (λ f. rw f (law.not_label (g, (no_label label).0 f)))

  pub answers : Answers T label (enquiry_of T label)
  unfolding enquiry_of
  answers = by_check (check_of T) refl

  pub with_label : GoodTexts T → GoodLabel label → enquiry_of T label ≡ or_undefined (answer_for T label)
  unfolding enquiry_of
  with_label g l = rw ((good_texts T).1 g, (good_label_lem label).1 l)

  without_label : GoodTexts T → NoLabel label → enquiry_of T label ≡ Err NotLabel
  unfolding enquiry_of
  without_label g n = rw ((good_texts T).1 g, (no_label label).1 n)

  pub determined : {e : Enquiry} → Answers T label e → enquiry_of T label ≡ e
  unfolding enquiry_of
  determined (law.long {k} d) = ap (checked_enquiry T label) ((check_long T k (length (text_of T k))).1 (d, refl))
  determined (law.bad {k} {place} d b) = ap (checked_enquiry T label) ((check_bad T k place).1 (d, b))
  determined (law.not_label (g, n)) = without_label g n
  determined (law.undefined (g, l, n)) = with_label g l ∙ ap or_undefined (search_none T label n)
  determined (law.destination (g, l, m)) = with_label g l ∙ ap or_undefined (search_first T label m)

  pub enquiry_iff : (e : Enquiry) → (enquiry_of T label ≡ e) ↔ Answers T label e
  enquiry_iff e = (λ q. subst (Answers T label) q answers, determined)

-- ---- the part lies within its text
place_within : {T : Texts} {label : List ℕ} {e : Enquiry} {d : Destination} → Answers T label e → e ≡ Ok d → (d.start ≤ d.end) × (d.end ≤ length (text_of T d.text))
place_within (law.long w) q = let no : ◌≡◌ {A = ℕ} 0 1 = cc in absurd (omega arith)
place_within (law.bad w b) q = let no : ◌≡◌ {A = ℕ} 0 1 = cc in absurd (omega arith)
place_within (law.not_label w) q = let no : ◌≡◌ {A = ℕ} 0 1 = cc in absurd (omega arith)
place_within (law.undefined w) q = let no : ◌≡◌ {A = ℕ} 0 1 = cc in absurd (omega arith)
place_within {T} {d = d} (law.destination {j} (g, l, m)) q =
    let p = (defines_lies T m).places in
    let i : answer_by j ≡ d = cc in
    subst (λ (x : Destination). (x.start ≤ x.end) × (x.end ≤ length (text_of T x.text))) i (omega (arith, p.destination), omega (arith, p.ends, p.inside))

module _ (T : Texts) (label : List ℕ) {e : Enquiry} (answer : e ≡ enquiry_of T label) {d : Destination} (q : e ≡ Ok d) where
  pub part_ordered : d.start ≤ d.end
  part_ordered = (place_within (answers T label) (sym answer ∙ q)).0

  pub part_inside : d.end ≤ length (text_of T d.text)
  part_inside = (place_within (answers T label) (sym answer ∙ q)).1

module _ (note sheet label : List ℕ) {e : Enquiry} (answer : e ≡ enquiry_of (texts note sheet) label) {d : Destination} (q : e ≡ Ok d) where
  pub inside_note : d.text ≡ 0 → d.end ≤ length note
  inside_note i = subst (λ (n : ℕ). d.end ≤ length (text_of (texts note sheet) n)) i (part_inside (texts note sheet) label answer q)

  pub inside_sheet : (d.text ≡ 0 → ⊥) → d.end ≤ length sheet
  inside_sheet i = rw (other_text (texts note sheet) d.text i) (part_inside (texts note sheet) label answer q)
