-- Equal labels get one answer.
use Rattle.std.specs.Prelude.{Err, Ok}
use Prim.Native.Nat.{ℕ}
use mathlib.Core.Path.{◌≡◌, refl, ap}
use mathlib.Core.Bool.{true}
use mathlib.Core.List.{List}
use Rattle.texts.specs.Texts.{Texts}
use Rattle.texts.specs.Reading.{Checked, check_of}
use Rattle.matching.specs.Form.{Equal}
use Rattle.matching.specs.Reading.{matches}
use Rattle.matching.proofs.Equality.{matches_equal}
use Rattle.row.specs.First.{labels_of}
use Rattle.row.proofs.First.{match_alike}
use Rattle.joined.specs.Reading.{joined}
use Rattle.enquiry.specs.Answers.{GoodLabel}
use Rattle.enquiry.specs.Reading.{good_label, answer_at, answer_in, answer_for, or_undefined, checked_enquiry, enquiry_of}
use Rattle.enquiry.proofs.Answers.{good_label_lem}

module _ (T : Texts) (a b : List ℕ) where
  found_alike : matches a b ≡ true → answer_for T a ≡ answer_for T b
  unfolding answer_for answer_in
  found_alike m = ap (answer_at (joined T)) (match_alike 0 (labels_of T (joined T)) a b m)

  checked_alike : matches a b ≡ true → good_label a ≡ true → good_label b ≡ true → (x : Checked) → checked_enquiry T a x ≡ checked_enquiry T b x
  checked_alike m p q (Err f) = refl
  checked_alike m p q (Ok done) = rw (p, q) (ap or_undefined (found_alike m))

  pub one_enquiry : Equal a b → GoodLabel a → GoodLabel b → enquiry_of T a ≡ enquiry_of T b
  unfolding enquiry_of
  one_enquiry e p q = checked_alike ((matches_equal a b).1 e) ((good_label_lem a).1 p) ((good_label_lem b).1 q) (check_of T)
