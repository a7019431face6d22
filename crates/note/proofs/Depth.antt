-- Refusal 4: the first bracket too many of a note, and that there is none.
use Prim.Native.Nat.{ℕ, zero, suc, ◌+◌, ◌<◌}
use native.Mathlib.Omega.{arith}
use mathlib.Core.Path.{◌≡◌, refl, sym, ap, ◌∙◌, subst}
use mathlib.Core.Logic.{◌↔◌}
use mathlib.Core.Option.{Option, none, some, some-injective, none-ne-some}
use mathlib.Core.List.Forall₂
use mathlib.Core.List.{List, ◌∷◌}
use borrow.Author.Tests.{ltb-true, ltb-false}
use lib.ListN.{get_elem?}
use lib.Dec.{ltb}
use Rattle.scan.proofs.Test.{by}
use Rattle.marking.specs.Marking.{Marking}
use Rattle.marking.specs.Open.{NeverOver, FirstOver}
use Rattle.marking.specs.ReadingSpans.{over}
use Rattle.marking.proofs.Over.{first_over_unique}
use Rattle.texts.specs.Texts.{Texts}
use Rattle.block.specs.Block.{Placed}
use Rattle.row.specs.Row.{Listed}
use Rattle.row.specs.First.{labels_of}
use Rattle.joined.proofs.Joined.{joined_one}
use Rattle.inline.specs.Tails.{Tail}
use Rattle.inline.specs.Reading.{grammar}
use Rattle.inline.proofs.Demand3.{first_bracket_too_many, never_too_many}
use Rattle.note.specs.Note.{depth_limit, MarkingOf, MarkingsAre, Marked, FirstDeepIn, FirstDeep, NeverDeep}
use Rattle.note.specs.Reading.{labels, place_or, deep_in, first_deep}
use Rattle.note.proofs.Markings.{marked}

abbrev NeverIn : List (Marking Tail) → Type 0
NeverIn ms = (k : ℕ) (m : Marking Tail) → get_elem? ms k ≡ some m → NeverOver depth_limit m

-- what an answer says of these paragraphs
abbrev Told : List Placed → List (Marking Tail) → Option ℕ → Type 0
Told ps ms none = NeverIn ms
Told ps ms (some place) = FirstDeepIn ps ms place

never_cons : (m : Marking Tail) (ms : List (Marking Tail)) → NeverOver depth_limit m → NeverIn ms → NeverIn (m ∷ ms)
never_cons m ms h f zero m' e = subst (NeverOver depth_limit) (some-injective m m' e) h
never_cons m ms h f (suc k) m' e = f k m' e

-- ---- one paragraph and the others: found in the first, or in the others
deep_here : (q : Placed) (ps : List Placed) (m : Marking Tail) (ms : List (Marking Tail)) (p : ℕ) → FirstOver depth_limit m p → FirstDeepIn (q ∷ ps) (m ∷ ms) (q.at + p)
deep_here q ps m ms p f =
    record {
      index = 0;
      paragraph = q;
      paragraph_at = refl;
      marking = m;
      marking_at = refl;
      within = p;
      too_many = f;
      place_is = refl;
      none_before = λ k m' h. absurd (omega arith);
    }

deep_later : (q : Placed) {ps : List Placed} (m : Marking Tail) {ms : List (Marking Tail)} {place : ℕ} → NeverOver depth_limit m → FirstDeepIn ps ms place → FirstDeepIn (q ∷ ps) (m ∷ ms) place
deep_later q {ps} m {ms} n f =
    record {
      index = suc f.index;
      paragraph = f.paragraph;
      paragraph_at = f.paragraph_at;
      marking = f.marking;
      marking_at = f.marking_at;
      within = f.within;
      too_many = f.too_many;
      place_is = f.place_is;
      none_before = before;
    }
  where
    before : (k : ℕ) (m' : Marking Tail) → k < suc f.index → get_elem? (m ∷ ms) k ≡ some m' → NeverOver depth_limit m'
    before zero m' h e = subst (NeverOver depth_limit) (some-injective m m' e) n
    before (suc k) m' h e = f.none_before k m' (omega arith) e

module _ (T : Texts) (js : List Listed) where
  abbrev over_in : Placed → Option ℕ
  over_in q = over depth_limit (grammar q.bytes (labels_of T js))

  module _ (q : Placed) (ps : List Placed) (m : Marking Tail) (ms : List (Marking Tail)) where
    others : (o : Option ℕ) → NeverOver depth_limit m → Told ps ms o → Told (q ∷ ps) (m ∷ ms) o
    others none n r = never_cons m ms n r
    others (some place) n r = deep_later q m n r

    with_first : MarkingOf T js q m → (o later : Option ℕ) → over_in q ≡ o → Told ps ms later → Told (q ∷ ps) (m ∷ ms) (place_or q.at o later)
    with_first h none later e r = others later ((never_too_many q.bytes (labels_of T js) m h depth_limit).0 e) r
    with_first h (some p) later e r = deep_here q ps m ms p ((first_bracket_too_many q.bytes (labels_of T js) m h depth_limit p).0 e)

  says : {ps : List Placed} {ms : List (Marking Tail)} → MarkingsAre T js ps ms → Told ps ms (deep_in (labels_of T js) ps)
  unfolding deep_in
  says Forall₂.nil = λ k m e. absurd (none-ne-some m e)
  says (Forall₂.cons {a = q} {b = m} {l₁ = ps} {l₂ = ms} h t) = with_first q ps m ms h (over_in q) (deep_in (labels_of T js) ps) refl (says t)

-- ---- there is one first bracket too many, or none
not_both : (m : Marking Tail) (p : ℕ) → FirstOver depth_limit m p → NeverOver depth_limit m → ⊥
not_both m p f n = omega (arith, f.too_many, n (suc f.index))

module _ (ps : List Placed) (ms : List (Marking Tail)) (place place' : ℕ) (f : FirstDeepIn ps ms place) (g : FirstDeepIn ps ms place') where
  not_earlier : f.index < g.index → ⊥
  not_earlier h = not_both f.marking f.within f.too_many (g.none_before f.index f.marking h f.marking_at)

  same_index : f.index ≡ g.index → place ≡ place'
  same_index e =
      let q : f.paragraph ≡ g.paragraph = some-injective f.paragraph g.paragraph (sym f.paragraph_at ∙ ap (get_elem? ps) e ∙ g.paragraph_at) in
      let m : f.marking ≡ g.marking = some-injective f.marking g.marking (sym f.marking_at ∙ ap (get_elem? ms) e ∙ g.marking_at) in
      let w : f.within ≡ g.within = first_over_unique depth_limit g.marking f.within g.within (subst (λ (x : Marking Tail). FirstOver depth_limit x f.within) m f.too_many) g.too_many in
      omega (arith, f.place_is, g.place_is, w, ap (λ (x : Placed). x.at) q)

one_first_deep : (ps : List Placed) (ms : List (Marking Tail)) (place place' : ℕ) → FirstDeepIn ps ms place → FirstDeepIn ps ms place' → place ≡ place'
one_first_deep ps ms place place' f g =
    by (ltb f.index g.index) (λ e. absurd (not_earlier ps ms place place' f g (ltb-true f.index g.index e)))
    (λ e. by (ltb g.index f.index) (λ d. absurd (not_earlier ps ms place' place g f (ltb-true g.index f.index d)))
    (λ d. same_index ps ms place place' f g (omega (arith, ltb-false f.index g.index e, ltb-false g.index f.index d))))

module _ (ps : List Placed) (ms : List (Marking Tail)) where
  to_place : (o : Option ℕ) → Told ps ms o → (place : ℕ) → FirstDeepIn ps ms place → o ≡ some place
  to_place none r place f = absurd (not_both f.marking f.within f.too_many (r f.index f.marking f.marking_at))
  to_place (some place') r place f = ap {B = Option ℕ} some (one_first_deep ps ms place' place r f)

  to_none : (o : Option ℕ) → Told ps ms o → NeverIn ms → o ≡ none
  to_none none r n = refl
  to_none (some place) f n = absurd (not_both f.marking f.within f.too_many (n f.index f.marking f.marking_at))

module _ (T : Texts) where
  -- what is read, for any list of markings of the note
  told : (n : Marked T) → Told n.paragraphs n.markings (first_deep T)
  unfolding first_deep labels
  told n =
      let (d, p) = joined_one T n.joined in
      rw (d, p) (says T n.list n.each)

  pub first_deep_iff : (place : ℕ) → (first_deep T ≡ some place) ↔ FirstDeep T place
  first_deep_iff place = (
    (λ e. record { marked = marked T; first = subst (Told (marked T).paragraphs (marked T).markings) e (told (marked T)) }),
    (λ f. to_place f.marked.paragraphs f.marked.markings (first_deep T) (told f.marked) place f.first),
  )

  pub never_deep_iff : (first_deep T ≡ none) ↔ NeverDeep T
  never_deep_iff = (
    (λ e. record { marked = marked T; never = subst (Told (marked T).paragraphs (marked T).markings) e (told (marked T)) }),
    (λ n. to_none n.marked.paragraphs n.marked.markings (first_deep T) (told n.marked) n.never),
  )
