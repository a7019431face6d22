-- The claims of equal labels hold.
use Prim.Native.Nat.{ℕ}
use mathlib.Core.Path.{◌≡◌}
use mathlib.Core.List.{List}
use Rattle.matching.specs.Form.{Folded, Compared}
use Rattle.matching.specs.Reading.{folds}
use Rattle.matching.specs.Claims.{LabelClaims}
use Rattle.matching.proofs.Folds.{folded_iff}
use Rattle.matching.proofs.Equality.{compared_iff, has_form, one_form, matches_equal, matches_refl, matches_sym, matches_trans}
use Rattle.matching.proofs.Twice.{folds_twice, compared_twice}
use Rattle.matching.proofs.Before.{still_equal, ascii_equal}

folded_twice : (l f : List ℕ) → Folded l f → Folded f f
folded_twice l f p = let e : folds l ≡ f = (folded_iff l f).0 p in (folded_iff f f).1 (rw e at (folds_twice l))

form_twice : (l c : List ℕ) → Compared l c → Compared c c
form_twice l c p = let e = (compared_iff l c).0 p in (compared_iff c c).1 (rw e at (compared_twice l))

pub label_claims : LabelClaims
label_claims =
    record {
      has_form = has_form;
      one_form = one_form;
      reflexive = λ a. (matches_equal a a).0 (matches_refl a);
      symmetric = λ a b e. (matches_equal b a).0 (matches_sym a b ((matches_equal a b).1 e));
      transitive = λ a b c e d. (matches_equal a c).0 (matches_trans a b c ((matches_equal a b).1 e) ((matches_equal b c).1 d));
      folded_twice = folded_twice;
      compared_twice = form_twice;
      still = still_equal;
      ascii = ascii_equal;
    }
