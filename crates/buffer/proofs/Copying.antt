-- What is copied of w to a page from n on: as much as fits.
use Rattle.std.proofs.Common.{ℕ, ◌+◌, ◌-◌, ◌≤◌, ◌<◌, ◌≡◌, ◌⊎◌, inl, inr, min, List, [], length, take, drop, get_or, set, length-set, leb, refl, sym, ap, ◌∙◌, append_assoc, add-zero, arith}
use Rattle.std.proofs.lemmas.List.{take-append-drop, take_more, take_more_set}
use Rattle.std.proofs.Math.Seq.{take-length}
use Rattle.std.proofs.lemmas.List.Edits.{sets-eq}
use borrow.Rule.Slice.PartMut.{put_mid}
use borrow.Author.Tests.{leb-true, leb-false}
use mathlib.Core.Logic.{⊎_elim}
use lib.ListN.{drop_of_length-le}
use lib.Seq.{sets, length-sets, length-take-le, drop-drop}
use Rattle.scan.proofs.Test.{by}
use Rattle.buffer.proofs.Writing.{sets_append, sets_past}

module _ (page w : List ℕ) (n k : ℕ) where
  -- past the page's end nothing is stored, and past the bytes there is nothing
  rest_past : (l : List ℕ) → length l ≡ length page → (length page ≤ n + k) ⊎ (length w ≤ k) → sets l (n + k) (drop k w) ≡ l
  rest_past l z = ⊎_elim (λ h. sets_past l (n + k) (drop k w) (omega arith)) (λ h. let z : drop k w ≡ [] = drop_of_length-le w h in rw z refl)

  part_stored : k ≤ length w → n + k ≤ length page → (length page ≤ n + k) ⊎ (length w ≤ k) → put_mid n k page (take k w) ≡ sets page n w
  part_stored h p q =
      let z : length (take k w) ≡ k = length-take-le k w h in
      let part : sets page n (take k w) ≡ put_mid n k page (take k w) =
      sets-eq (take k w) page n (omega arith) ∙ rw (z, append_assoc, drop-drop) refl in
      let whole : sets page n w ≡ sets (sets page n (take k w)) (n + k) (drop k w) =
      ap (sets page n) (sym (take-append-drop k w)) ∙ sets_append page n (take k w) (drop k w) ∙ rw z refl in
      sym part ∙ sym (rest_past _ (length-sets page n (take k w)) q) ∙ sym whole

-- e is where the copy ends
module _ (page w : List ℕ) (n : ℕ) {e : ℕ} (m : e ≡ min (length page) (n + length w)) where
  ended : (k : ℕ) → e ≤ n + k → (length page ≤ n + k) ⊎ (length w ≤ k)
  ended k h = by (leb (length w) k) (λ t. inr (leb-true _ _ t)) (λ t. inl (omega (arith, leb-false _ _ t)))

  pub some_stored : n < e → put_mid n (e - n) page (take (e - n) w) ≡ sets page n w
  some_stored h = part_stored page w n (e - n) (omega arith) (omega arith) (ended (e - n) (omega arith))

  pub none_stored : e ≤ n → page ≡ sets page n w
  none_stored h = let z : sets page (n + 0) w ≡ page = rest_past page w n 0 page refl (ended 0 (omega arith)) in sym (rw add-zero at z)

-- ---- one byte after the other
module _ (to from : List ℕ) (i : ℕ) (same : length to ≡ length from) (copied : take i to ≡ take i from) where
  pub one_more : i < length to → (length (set to i (get_or from i 0)) ≡ length from) × (take (i + 1) (set to i (get_or from i 0)) ≡ take (i + 1) from)
  one_more h = (
    length-set to i _ ∙ same,
    take_more_set to i _ h ∙ rw copied refl ∙ sym (take_more from i 0 (omega arith)),
  )

  pub all_of : i ≡ length to → to ≡ from
  all_of e = sym (take-length to) ∙ (ap (λ (k : ℕ). take k to) (sym e) ∙ copied ∙ ap (λ (k : ℕ). take k from) (e ∙ same)) ∙ take-length from
