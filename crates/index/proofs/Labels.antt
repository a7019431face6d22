-- The labels of a table's rows by number, and equal labels by their compared forms.
use Prim.Native.Nat.{ℕ, zero, suc, ◌+◌, ◌<◌}
use native.Mathlib.Omega.{arith}
use mathlib.Core.Path.{◌≡◌, refl, ap, ◌∙◌}
use mathlib.Core.List.{List, []}
use lib.ListN.{length, get_or}
use Rattle.texts.specs.Texts.{Texts}
use Rattle.matching.specs.Form.{Equal}
use Rattle.matching.specs.Reading.{compared}
use Rattle.matching.proofs.Equality.{matches_iff, matches_equal}
use Rattle.row.specs.First.{labels_of}
use Rattle.row.specs.Reading.{listed_from}
use Rattle.index.specs.Index.{label_of}

pub labels_length : (T : Texts) (t : List ℕ) (k n : ℕ) → length (labels_of T (listed_from t k n)) ≡ n
unfolding listed_from
labels_length T t k zero = refl
labels_length T t k (suc n) = ap suc (labels_length T t (k + 1) n)

label_from : (T : Texts) (t : List ℕ) (k n i : ℕ) → i < n → get_or (labels_of T (listed_from t k n)) i [] ≡ label_of T t (k + i)
unfolding listed_from
label_from T t k zero i h = absurd (omega arith)
label_from T t k (suc n) zero h = let z : k + 0 ≡ k = omega arith in rw z
label_from T t k (suc n) (suc i) h = let z : k + suc i ≡ (k + 1) + i = omega arith in label_from T t (k + 1) n i (omega arith) ∙ rw z

pub label_of_lem : (T : Texts) (t : List ℕ) (n i : ℕ) → i < n → get_or (labels_of T (listed_from t 0 n)) i [] ≡ label_of T t i
label_of_lem T t n i h = let z : 0 + i ≡ i = omega arith in label_from T t 0 n i h ∙ rw z

pub to_form : (a b : List ℕ) → Equal a b → compared a ≡ compared b
to_form a b e = (matches_iff a b).0 ((matches_equal a b).1 e)

pub from_form : (a b : List ℕ) → compared a ≡ compared b → Equal a b
from_form a b e = (matches_equal a b).0 ((matches_iff a b).1 e)
