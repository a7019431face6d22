-- The reading is the law: the first definition that differs from the first one of equal label is the first that differs from any earlier one of equal label.
use Rattle.std.specs.Prelude.{None, Option, Some}
use Prim.Native.Nat.{ℕ, zero, suc, ◌+◌, ◌≤◌, ◌<◌}
use native.Mathlib.Omega.{arith}
use mathlib.Core.Path.{◌≡◌, refl, sym, ap, ◌∙◌, subst}
use mathlib.Core.Logic.{◌↔◌}
use mathlib.Core.List.{List, [], ◌∷◌}
use mathlib.Core.Bool.{true, false, true≢false}
use borrow.Author.Tests.{ltb-true, ltb-false}
use lib.ListN.{length, get_or, take, length-map}
use lib.Seq.{length-take-le}
use lib.Dec.{ltb}
use Rattle.scan.proofs.Test.{by}
use Rattle.matching.specs.Form.{Compared, Equal}
use Rattle.matching.proofs.Equality.{one_form}
use Rattle.texts.specs.Texts.{Texts}
use Rattle.row.specs.Row.{Listed}
use Rattle.row.specs.First.{labels_of, FirstEqual}
use Rattle.row.specs.Reading.{first_match}
use Rattle.row.proofs.First.{first_equal, none_equal}
use Rattle.joined.specs.Reading.{joined}
use Rattle.conflict.specs.Conflict.{label_bytes, entry, Conflict, NoConflict, FirstConflict}
use Rattle.conflict.specs.Reading.{differ, differs_from, conflicts, conflict_from, first_conflict}
use Rattle.conflict.proofs.Differences.{agree, differs, not_both, through}

-- two labels that equal a third are equal
equal_through : {a b c : List ℕ} → Equal a c → Equal b c → Equal a b
equal_through {a} {b} {c} p q = record {
  form = p.form;
  left = p.left;
  right = subst (Compared b) (one_form c q.form p.form q.right p.right) q.left;
}

-- ---- a step of the search
pub conflict_hit : (T : Texts) (js : List Listed) (k n : ℕ) → conflicts T (take k js) (entry js k) ≡ true → conflict_from T js k (suc n) ≡ Some k
unfolding conflict_from
conflict_hit T js k n e = rw (e, conflict_from)

pub conflict_miss : (T : Texts) (js : List Listed) (k n : ℕ) → conflicts T (take k js) (entry js k) ≡ false → conflict_from T js k (suc n) ≡ conflict_from T js (k + 1) n
unfolding conflict_from
conflict_miss T js k n e = rw (e, conflict_from)

-- ---- the first k entries
taken_entry : (js : List Listed) (k i : ℕ) → i < k → entry (take k js) i ≡ entry js i
taken_entry [] zero i h = refl
taken_entry [] (suc k) i h = refl
taken_entry (j ∷ js) zero i h = absurd (omega arith)
taken_entry (j ∷ js) (suc k) zero h = refl
taken_entry (j ∷ js) (suc k) (suc i) h = taken_entry js k i (omega arith)

module _ (T : Texts) where
  taken_label : (js : List Listed) (k i : ℕ) → i < k → i < length js → get_or (labels_of T (take k js)) i [] ≡ label_bytes T (entry js i)
  taken_label [] k i h g = absurd (omega arith)
  taken_label (j ∷ js) zero i h g = absurd (omega arith)
  taken_label (j ∷ js) (suc k) zero h g = refl
  taken_label (j ∷ js) (suc k) (suc i) h g = taken_label js k i (omega arith) (omega arith)

  taken_length : (js : List Listed) (k : ℕ) → k ≤ length js → length (labels_of T (take k js)) ≡ k
  taken_length js k h = length-map (take k js) _ ∙ length-take-le k js h

-- ---- definition k, where none before it conflicts
module _ (T : Texts) (js : List Listed) where
  abbrev label : ℕ → List ℕ
  label k = label_bytes T (entry js k)

  abbrev Clear : ℕ → Type 0
  Clear k = (i : ℕ) → i < k → Conflict js T i → ⊥

  module _ (k : ℕ) (h : k < length js) where
    abbrev earlier : List (List ℕ)
    earlier = labels_of T (take k js)

    size : length earlier ≡ k
    size = taken_length T js k (omega arith)

    label_is : (i : ℕ) → i < k → get_or earlier i [] ≡ label i
    label_is i g = taken_label T js k i g (omega arith)

    equal_at : (i : ℕ) → i < k → Equal (label i) (label k) → Equal (get_or earlier i []) (label k)
    equal_at i g e = subst (λ (l : List ℕ). Equal l (label k)) (sym (label_is i g)) e

    -- the first of equal label is i
    module _ {i : ℕ} (w : FirstEqual earlier (label k) i) where
      before : i < k
      before = omega (arith, w.within, size)

      equal : Equal (label i) (label k)
      equal = subst (λ (l : List ℕ). Equal l (label k)) (label_is i before) w.equal

      differ_here : differ T (entry (take k js) i) (entry js k) ≡ differ T (entry js i) (entry js k)
      differ_here = ap (λ (j : Listed). differ T j (entry js k)) (taken_entry js k i before)

      conflict : differ T (entry (take k js) i) (entry js k) ≡ true → Conflict js T k
      conflict d = record {
        within = h;
        earlier = i;
        before = before;
        equal = equal;
        differ = differs T (entry js i) (entry js k) (sym differ_here ∙ d);
      }

      -- what differs from k differs from i, which agrees with k, and comes after it
      after : Clear k → differ T (entry (take k js) i) (entry js k) ≡ false → (c : Conflict js T k) → i < c.earlier → ⊥
      after clear d c g =
          clear c.earlier c.before
          (record {
            within = omega (arith, c.before);
            earlier = i;
            before = g;
            equal = equal_through equal c.equal;
            differ = through T (agree T (entry js i) (entry js k) (sym differ_here ∙ d)) c.differ;
          })

      no_conflict : Clear k → differ T (entry (take k js) i) (entry js k) ≡ false → Conflict js T k → ⊥
      no_conflict clear d c =
          by (ltb c.earlier i)
          (λ t. w.first c.earlier (ltb-true c.earlier i t) (equal_at c.earlier c.before c.equal))
          (λ f. by (ltb i c.earlier) (λ t. after clear d c (ltb-true i c.earlier t)) (λ g. here (omega (arith, ltb-false c.earlier i f, ltb-false i c.earlier g))))
        where
          here : c.earlier ≡ i → ⊥
          here e = not_both T (agree T (entry js i) (entry js k) (sym differ_here ∙ d)) (rw e at c.differ)

    abbrev found : Option ℕ
    found = first_match earlier (label k)

    hit_by : (f : Option ℕ) → found ≡ f → differs_from T (take k js) (entry js k) f ≡ true → Conflict js T k
    unfolding differs_from
    hit_by (Some i) e d = conflict ((first_equal earlier (label k) i).0 e) d
    hit_by None e d = absurd (true≢false (sym d))

    clear_by : (f : Option ℕ) → found ≡ f → Clear k → differs_from T (take k js) (entry js k) f ≡ false → Conflict js T k → ⊥
    unfolding differs_from
    clear_by (Some i) e clear d c = no_conflict ((first_equal earlier (label k) i).0 e) clear d c
    clear_by None e clear d c =
        (none_equal earlier (label k)).0 e c.earlier (omega (arith, size, c.before)) (equal_at c.earlier c.before c.equal)

    clear_next : Clear k → conflicts T (take k js) (entry js k) ≡ false → Clear (k + 1)
    clear_next clear d i g =
        by (ltb i k) (λ t. clear i (ltb-true i k t))
        (λ f. let e : k ≡ i = omega (arith, ltb-false i k f) in subst (λ (n : ℕ). Conflict js T n → ⊥) e (clear_by found refl clear d))

  -- ---- all of them
  data Says : Option ℕ → Type 0 where
    first : {k : ℕ} → Conflict js T k → Clear k → Says (Some k)
    none : NoConflict js T → Says None

  says : (n k : ℕ) → k + n ≡ length js → Clear k → Says (conflict_from T js k n)
  unfolding conflict_from
  says zero k e clear = none (λ i c. clear i (omega (arith, c.within)) c)
  says (suc n) k e clear =
      let h : k < length js = omega arith in
      by (conflicts T (take k js) (entry js k))
      (λ d. subst Says (sym (conflict_hit T js k n d)) (first (hit_by k h (found k h) refl d) clear))
      (λ d. subst Says (sym (conflict_miss T js k n d)) (says n (k + 1) (omega arith) (clear_next k h clear d)))

  to_first : {f : Option ℕ} {k : ℕ} → Says f → f ≡ Some k → FirstConflict js T (suc k)
  to_first {k} (first {k = i} c clear) e =
      let z : i ≡ k = cc in
      record { index = k; conflict = rw z at c; first = rw z at clear; numbered = refl }
  to_first (none c) e = let z : ◌≡◌ {A = ℕ} 0 1 = cc in absurd (omega arith)

  from_first : {f : Option ℕ} {k : ℕ} → Says f → FirstConflict js T (suc k) → f ≡ Some k
  from_first {k} (first {k = i} c clear) w =
      let n : k ≡ w.index = omega (arith, w.numbered) in
      ap Some
      (by (ltb i k) (λ t. absurd (w.first i (omega (arith, ltb-true i k t)) c))
      (λ f. by (ltb k i) (λ t. absurd (clear w.index (omega (arith, ltb-true k i t)) w.conflict)) (λ g. omega (arith, ltb-false i k f, ltb-false k i g))))
  from_first (none c) w = absurd (c w.index w.conflict)

  to_none : {f : Option ℕ} → Says f → f ≡ None → NoConflict js T
  to_none (first c clear) e = let z : ◌≡◌ {A = ℕ} 0 1 = cc in absurd (omega arith)
  to_none (none c) e = c

  from_none : {f : Option ℕ} → Says f → NoConflict js T → f ≡ None
  from_none (first {k} c clear) n = absurd (n k c)
  from_none (none c) n = refl

module _ (T : Texts) where
  said : Says T (joined T) (first_conflict T)
  unfolding first_conflict
  said = says T (joined T) (length (joined T)) 0 (omega arith) (λ i h. absurd (omega arith))

  pub first_conflict_iff : (k : ℕ) → (first_conflict T ≡ Some k) ↔ FirstConflict (joined T) T (suc k)
  first_conflict_iff k = (to_first T (joined T) said, from_first T (joined T) said)

  pub no_conflict_iff : (first_conflict T ≡ None) ↔ NoConflict (joined T) T
  no_conflict_iff = (to_none T (joined T) said, from_none T (joined T) said)
