-- Labels after others that already have an equal one among these are never found.
use Rattle.std.specs.Prelude.{None, Option, Some}
use Prim.Native.Nat.{ℕ, ◌+◌, ◌-◌, ◌<◌}
use native.Mathlib.Omega.{arith}
use mathlib.Core.Path.{◌≡◌, refl, sym, ap, subst, ◌∙◌}
use mathlib.Core.List.{List, [], ◌++◌}
use borrow.Author.Tests.{ltb-true, ltb-false}
use lib.Dec.{ltb}
use lib.ListN.{length, get_or, length-append, get_or-append}
use lib.Seq.{get_or-append-add}
use Rattle.scan.proofs.Test.{by}
use Rattle.matching.specs.Form.{Equal}
use Rattle.matching.proofs.Equality.{matches_equal, matches_trans}
use Rattle.row.specs.First.{FirstEqual, NoneEqual}
use Rattle.row.specs.Reading.{first_match}
use Rattle.row.proofs.First.{first_equal, none_equal}
use Rattle.sheet.specs.Claims.{EachThere}

equal_trans : (a b c : List ℕ) → Equal a b → Equal b c → Equal a c
equal_trans a b c e f = (matches_equal a c).0 (matches_trans a b c ((matches_equal a b).1 e) ((matches_equal b c).1 f))

module _ (ls more : List (List ℕ)) (label : List ℕ) where
  front : (i : ℕ) → i < length ls → get_or (ls ++ more) i [] ≡ get_or ls i []
  front i h = get_or-append ls more [] i h

  pub first_in_front : (k : ℕ) → FirstEqual ls label k → FirstEqual (ls ++ more) label k
  first_in_front k f =
      record {
        within = omega (arith, f.within, length-append ls more);
        equal = subst (λ (l : List ℕ). Equal l label) (sym (front k f.within)) f.equal;
        first = λ i h e. f.first i h (subst (λ (l : List ℕ). Equal l label) (front i (omega (arith, f.within))) e);
      }

  module _ (there : EachThere ls more) where
    none_after : NoneEqual ls label → (i : ℕ) → i < length more → Equal (get_or more i []) label → ⊥
    none_after n i h e = let w = there i h in n w.index w.within (equal_trans (get_or ls w.index []) (get_or more i []) label w.equal e)

    none_there : NoneEqual ls label → NoneEqual (ls ++ more) label
    none_there n i h e =
        by (ltb i (length ls))
        (λ t. let z = ltb-true i (length ls) t in n i z (subst (λ (l : List ℕ). Equal l label) (front i z) e))
        (λ f.
        let z = ltb-false i (length ls) f in
        let at : i ≡ length ls + (i - length ls) = omega arith in
        none_after n (i - length ls) (omega (arith, length-append ls more))
        (subst (λ (l : List ℕ). Equal l label) (ap (λ (j : ℕ). get_or (ls ++ more) j []) at ∙ get_or-append-add ls more (i - length ls) []) e))

    by_found : (f : Option ℕ) → first_match ls label ≡ f → first_match (ls ++ more) label ≡ f
    by_found (Some k) e = (first_equal (ls ++ more) label k).1 (first_in_front k ((first_equal ls label k).0 e))
    by_found None e = (none_equal (ls ++ more) label).1 (none_there ((none_equal ls label).0 e))

    pub same_found : first_match (ls ++ more) label ≡ first_match ls label
    same_found = by_found (first_match ls label) refl
