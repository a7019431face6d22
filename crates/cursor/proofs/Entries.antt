-- The entries of the table of places, read back.
use Prim.Native.Nat.{ℕ, ◌+◌, ◌<◌}
use native.Mathlib.Omega.{arith}
use mathlib.Core.Path.{◌≡◌, refl, ap, ◌∙◌}
use mathlib.Core.Option.{Option, none, some}
use mathlib.Core.List.{List}
use mathlib.Core.Bool.{Bool, true, false, ◌&&◌}
use borrow.Author.Tests.{lt-ltb, le-ltb, eqb-true, eq-eqb}
use lib.ListN.{get_or, get_elem?}
use lib.Dec.{leb, ltb}
use Rattle.scan.specs.Member.{In}
use Rattle.marking.proofs.Lists.{at_inside}
use Rattle.page.specs.Reading.{is_image, row_start, text_start, text_end, first_row, starts, is_none, tagged}
use Rattle.page.proofs.Found.{found_in, not_found}
use Rattle.cursor.specs.Starts.{places, entry_of, tags_in, index_in, Entry, nothing, row, Started}

module _ (k : ℕ) (h : k + 1 < places) where
  pub tags_back : (tags : Bool) → tags_in (entry_of k tags) ≡ tags
  tags_back true = lt-ltb (k + 1) places h
  tags_back false = le-ltb (k + 1 + places) places (omega arith)

  pub index_back : (tags : Bool) → index_in (entry_of k tags) ≡ k
  index_back true = omega arith
  index_back false = omega arith

by_entry : {P : Type 0} {rows : List (List ℕ)} {o : Option (List ℕ)} {e : ℕ} → Entry rows o e
    → (o ≡ none → e ≡ 0 → P) → ((k : ℕ) (r : List ℕ) → o ≡ some r → get_elem? rows k ≡ some r → e ≡ entry_of k (tagged rows r) → P) → P
by_entry nothing f g = f refl refl
by_entry (row k r h) f g = g k r refl h refl

-- two rows with one start lie in the same descriptions
same_tagged : (rows : List (List ℕ)) (x y : List ℕ) → row_start x ≡ row_start y → tagged rows x ≡ tagged rows y
unfolding tagged
same_tagged rows x y e = ap (λ (n : ℕ). is_none (first_row (λ (d : List ℕ). is_image d && leb (text_start d) n && ltb n (text_end d)) rows)) e

module _ {rows : List (List ℕ)} {st : List ℕ} (s : Started rows st) {i : ℕ} (h : i < places) where
  -- no row starts there
  pub free_there : get_or st i 0 ≡ 0 → first_row (starts i) rows ≡ none
  free_there z = by_entry (s.entries i h) (λ o e. o) (λ k r o a e. absurd (omega (arith, some_entry k (tagged rows r), e)))
    where
      some_entry : (k : ℕ) (tags : Bool) → 0 < entry_of k tags
      some_entry k true = omega arith
      some_entry k false = omega arith

  -- the row of the entry starts there
  pub record Starting (e : ℕ) : Type 0 where
    pub row : List ℕ
    pub at : get_elem? rows (index_in e) ≡ some row
    pub stands : row_start row ≡ i
    pub first : first_row (starts i) rows ≡ some row
    pub tags : tags_in e ≡ tagged rows row

  pub starting : (get_or st i 0 ≡ 0 → ⊥) → Starting (get_or st i 0)
  starting n =
      by_entry (s.entries i h) (λ o e. absurd (n e))
      (λ k r o a e.
      let few : k + 1 < places = omega (arith, at_inside rows k r a, s.few) in
      let (m, t) = found_in (starts i) rows r o in
      record {
        row = r;
        at = ap (get_elem? rows) (ap index_in e ∙ index_back k few (tagged rows r)) ∙ a;
        stands = eqb-true (row_start r) i t;
        first = o;
        tags = ap tags_in e ∙ tags_back k few (tagged rows r);
      })

-- the entry where a row starts tells whether tags are written for it
pub tags_there : {rows : List (List ℕ)} {st : List ℕ} → Started rows st → (r : List ℕ) → In r rows → row_start r < places → tags_in (get_or st (row_start r) 0) ≡ tagged rows r
tags_there {rows} {st} s r m h =
    let x = starting s h (λ z. not_found (starts (row_start r)) rows (free_there s h z) r m (eq-eqb (row_start r) (row_start r) refl)) in
    x.tags ∙ same_tagged rows x.row r x.stands
