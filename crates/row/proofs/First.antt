-- The reading is the law: `first_match` finds the first equal label, and nothing exactly when there is none.
use Rattle.std.specs.Prelude.{None, Option, Some}
use Prim.Native.Nat.{ℕ, zero, suc, ◌+◌, ◌<◌}
use native.Mathlib.Omega.{arith}
use mathlib.Core.Path.{◌≡◌, refl, sym, ap, ◌∙◌}
use mathlib.Core.List.{List, [], ◌∷◌}
use mathlib.Core.Bool.{true, false, true≢false}
use mathlib.Core.Logic.{◌↔◌}
use borrow.Author.Tests.{ltb-true, ltb-false}
use lib.Dec.{ltb}
use lib.ListN.{get_or}
use Rattle.scan.proofs.Test.{by}
use Rattle.matching.specs.Form.{Equal}
use Rattle.matching.specs.Reading.{matches}
use Rattle.matching.proofs.Equality.{matches_equal, matches_alike}
use Rattle.row.specs.First.{FirstEqual, NoneEqual}
use Rattle.row.specs.Reading.{match_from, first_match}
use Rattle.row.proofs.Turn.{match_hit, match_miss}

module _ (label : List ℕ) where
  other : (l : List ℕ) → matches l label ≡ false → Equal l label → ⊥
  other l e q = true≢false (sym ((matches_equal l label).1 q) ∙ e)

  -- ---- what an answer says of labels that are numbered from k on
  data Says (ls : List (List ℕ)) (k : ℕ) : Option ℕ → Type 0 where
    first : {i n : ℕ} → n ≡ k + i → FirstEqual ls label i → Says ls k (Some n)
    none : NoneEqual ls label → Says ls k None

  says_hit : (l : List ℕ) (ls : List (List ℕ)) (k : ℕ) → matches l label ≡ true → Says (l ∷ ls) k (Some k)
  says_hit l ls k e = first {i = 0} {n = k} (omega arith) record { within = omega arith; equal = (matches_equal l label).0 e; first = λ i h. absurd (omega arith) }

  none_before : (l : List ℕ) (ls : List (List ℕ)) {n : ℕ} → matches l label ≡ false → ((i : ℕ) → i < n → Equal (get_or ls i []) label → ⊥) → (i : ℕ) → i < suc n → Equal (get_or (l ∷ ls) i []) label → ⊥
  none_before l ls e f zero h q = other l e q
  none_before l ls e f (suc i) h q = f i (omega arith) q

  says_miss : (l : List ℕ) {ls : List (List ℕ)} {k : ℕ} {f : Option ℕ} → matches l label ≡ false → Says ls (k + 1) f → Says (l ∷ ls) k f
  says_miss l {ls} e (first {i} {n} p q) = first {i = suc i} {n = n} (omega arith) record { within = omega (arith, q.within); equal = q.equal; first = none_before l ls e q.first }
  says_miss l {ls} e (none q) = none (none_before l ls e q)

  says : (ls : List (List ℕ)) (k : ℕ) → Says ls k (match_from k ls label)
  unfolding match_from
  says [] k = none (λ i h. absurd (omega arith))
  says (l ∷ ls) k =
      by (matches l label)
      (λ e. rw (match_hit k l ls label e) (says_hit l ls k e))
      (λ e. rw (match_miss k l ls label e) (says_miss l e (says ls (k + 1))))

  -- ---- there is one first equal label
  pub one_first : {ls : List (List ℕ)} {i k : ℕ} → FirstEqual ls label i → FirstEqual ls label k → i ≡ k
  one_first {ls} {i} {k} p q =
      by (ltb i k) (λ e. absurd (q.first i (ltb-true i k e) p.equal))
      (λ e. by (ltb k i) (λ f. absurd (p.first k (ltb-true k i f) q.equal)) (λ f. omega (arith, ltb-false i k e, ltb-false k i f)))

  to_first : {ls : List (List ℕ)} {f : Option ℕ} {k : ℕ} → Says ls 0 f → f ≡ Some k → FirstEqual ls label k
  to_first {ls} {f} {k} (first {i} {n} p q) e = let s : n ≡ k = cc in let z : i ≡ k = omega arith in rw z at q
  to_first (none q) e = let z : ◌≡◌ {A = ℕ} 0 1 = cc in absurd (omega arith)

  from_first : {ls : List (List ℕ)} {f : Option ℕ} {k : ℕ} → Says ls 0 f → FirstEqual ls label k → f ≡ Some k
  from_first (first p q) r = ap Some (p ∙ omega (arith, one_first q r))
  from_first {k} (none q) r = absurd (q k r.within r.equal)

  to_none : {ls : List (List ℕ)} {f : Option ℕ} → Says ls 0 f → f ≡ None → NoneEqual ls label
  to_none (first p q) e = let z : ◌≡◌ {A = ℕ} 0 1 = cc in absurd (omega arith)
  to_none (none q) e = q

  from_none : {ls : List (List ℕ)} {f : Option ℕ} → Says ls 0 f → NoneEqual ls label → f ≡ None
  from_none (first {i} p q) r = absurd (r i q.within q.equal)
  from_none (none q) r = refl

pub first_equal : (labels : List (List ℕ)) (label : List ℕ) (k : ℕ) → (first_match labels label ≡ Some k) ↔ FirstEqual labels label k
first_equal labels label k = (to_first label (says label labels 0), from_first label (says label labels 0))

pub none_equal : (labels : List (List ℕ)) (label : List ℕ) → (first_match labels label ≡ None) ↔ NoneEqual labels label
none_equal labels label = (to_none label (says label labels 0), from_none label (says label labels 0))

-- ---- labels that match find the same label
pub match_alike : (k : ℕ) (ls : List (List ℕ)) (a b : List ℕ) → matches a b ≡ true → match_from k ls a ≡ match_from k ls b
unfolding match_from
match_alike k [] a b m = refl
match_alike k (l ∷ ls) a b m =
    let q : matches l a ≡ matches l b = matches_alike l a b m in
    by (matches l a)
    (λ e. match_hit k l ls a e ∙ sym (match_hit k l ls b (sym q ∙ e)))
    (λ e. match_miss k l ls a e ∙ match_alike (k + 1) ls a b m ∙ sym (match_miss k l ls b (sym q ∙ e)))
