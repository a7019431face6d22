-- Filling the table of places, from the last row back.
use Prim.Native.Nat.{ℕ, zero, suc, ◌+◌, ◌-◌, ◌≤◌, ◌<◌}
use native.Mathlib.Decide.{dec_lt}
use native.Mathlib.Omega.{arith}
use mathlib.Core.Path.{◌≡◌, refl, sym, ap, ◌∙◌, subst}
use mathlib.Core.Option.{Option, none, some, some-injective, none-ne-some}
use mathlib.Core.List.{List, [], ◌∷◌}
use mathlib.Core.Bool.{Bool, true, false, true≢false}
use borrow.Author.Tests.{ltb-true, ltb-false, eqb-true, eqb-false}
use lib.ListN.{length, get_or, set, drop, replicate, get_elem?, length-set, length-replicate, get_or-replicate, drop_of_length-le}
use lib.Seq.{get_or-set_same, get_or-set_other}
use lib.Dec.{eqb, ltb}
use Rattle.scan.proofs.Test.{by}
use Rattle.marking.proofs.Lists.{at_inside}
use Rattle.page.specs.Reading.{is_image, row_start, text_start, first_row, starts, describes, is_none, tagged}
use Rattle.page.proofs.Found.{by_found, found_in, not_found}
use Rattle.cursor.specs.Starts.{places, entry_of, Entry, nothing, row, Started, Startable, described_from}

-- ---- lists of rows
drop_at : (rows : List (List ℕ)) (k : ℕ) (r : List ℕ) → get_elem? rows k ≡ some r → drop k rows ≡ r ∷ drop (suc k) rows
drop_at [] k r e = absurd (none-ne-some r e)
drop_at (x ∷ rows) zero r e = ap (λ (y : List ℕ). y ∷ rows) (some-injective x r e)
drop_at (x ∷ rows) (suc k) r e = drop_at rows k r e

module _ (test : List ℕ → Bool) (r : List ℕ) (rows : List (List ℕ)) where
  first_yes : test r ≡ true → first_row test (r ∷ rows) ≡ some r
  unfolding first_row
  first_yes t = rw (first_row, t)

  first_no : test r ≡ false → first_row test (r ∷ rows) ≡ first_row test rows
  unfolding first_row
  first_no t = rw (first_row, t)

-- an image from row k on whose description starts at `from`
pub record Image (rows : List (List ℕ)) (k from : ℕ) : Type 0 where
  pub index : ℕ
  pub row : List ℕ
  pub at : get_elem? rows index ≡ some row
  pub low : k ≤ index
  pub is_an_image : is_image row ≡ true
  pub starts : text_start row ≡ from

-- the rows from row k on are in the table; `from` is where the first description of theirs starts
pub record Marks (rows : List (List ℕ)) (k from : ℕ) (st : List ℕ) : Type 0 where
  pub long : length st ≡ places
  pub least : (j : ℕ) (d : List ℕ) → k ≤ j → get_elem? rows j ≡ some d → is_image d ≡ true → from ≤ text_start d
  pub there : from < places → Image rows k from
  pub entries : (i : ℕ) → i < places → Entry rows (first_row (starts i) (drop k rows)) (get_or st i 0)

pub none_marked : (rows : List (List ℕ)) {k : ℕ} → k ≡ length rows → {st : List ℕ} → st ≡ replicate places 0 → Marks rows k places st
unfolding first_row
none_marked rows {k} n e = record {
  long = ap length e ∙ length-replicate {A = ℕ} places 0;
  least = λ j d l f g. absurd (omega (arith, at_inside rows j d f));
  there = λ l. absurd (omega arith);
  entries = λ i h.
      let o : first_row (starts i) (drop k rows) ≡ none = ap (first_row (starts i)) (drop_of_length-le rows {i = k} (omega arith)) in
      let z = ap (λ (l : List ℕ). get_or l i 0) e ∙ get_or-replicate {A = ℕ} places i 0 0 h in
      subst (Entry rows (first_row (starts i) (drop k rows))) (sym z) (subst (λ (x : Option (List ℕ)). Entry rows x 0) (sym o) nothing);
}

pub all_marked : {rows : List (List ℕ)} → Startable rows → {k from : ℕ} {st : List ℕ} → Marks rows k from st → k ≤ 0 → Started rows st
all_marked {rows} s {k} m z =
    let e : k ≡ 0 = omega arith in
    record {
      few = s.few;
      long = m.long;
      entries = λ i h. rw e at (m.entries i h);
    }

-- ---- one more: the row r before row n
module _ {rows : List (List ℕ)} (s : Startable rows) {n from : ℕ} {st : List ℕ} (m : Marks rows n from st) (p : 0 < n) {r : List ℕ} (a : get_elem? rows (n - 1) ≡ some r) where
  abbrev k : ℕ
  k = n - 1

  abbrev at : ℕ
  at = row_start r

  pub inside : at < places
  inside = s.inside r (k, a)

  pub few : k + 1 < places
  few = omega (arith, at_inside rows k r a, s.few)

  -- it starts in a description exactly if the first one starts no later
  described : from ≤ at → tagged rows r ≡ false
  unfolding tagged
  described l =
      let x = m.there (omega (arith, inside)) in
      let d : describes r x.row ≡ true = (s.nested k x.index r x.row a x.at).1 (omega (arith, x.low), x.is_an_image, omega (arith, x.starts)) in
      by_found (first_row (describes r) rows) (λ y f. ap is_none f) (λ f. absurd (not_found (describes r) rows f x.row (x.index, x.at) d))

  bare : at < from → tagged rows r ≡ true
  unfolding tagged
  bare l =
      by_found (first_row (describes r) rows)
      (λ y f.
      let (i, t) = found_in (describes r) rows y f in
      let (later, image, low) = (s.nested k i.0 r y a i.1).0 t in
      absurd (omega (arith, m.least i.0 y (omega arith) i.1 image)))
      (λ f. ap is_none f)

  tags : ltb at from ≡ tagged rows r
  tags = by (ltb at from) (λ t. t ∙ sym (bare (ltb-true at from t))) (λ f. f ∙ sym (described (ltb-false at from f)))

  rest : drop k rows ≡ r ∷ drop n rows
  rest = let e : suc (n - 1) ≡ n = omega arith in drop_at rows k r a ∙ ap (λ (i : ℕ). r ∷ drop i rows) e

  entry_there : (e : ℕ) → e ≡ entry_of k (ltb at from) → (i : ℕ) → i < places → Entry rows (first_row (starts i) (drop k rows)) (get_or (set st at e) i 0)
  entry_there e q i h =
      by (eqb at i)
      (λ y.
      let z : at ≡ i = eqb-true at i y in
      let f : first_row (starts i) (drop k rows) ≡ some r = ap (first_row (starts i)) rest ∙ first_yes (starts i) r (drop n rows) y in
      let g : get_or (set st at e) i 0 ≡ entry_of k (tagged rows r) =
      ap (λ (j : ℕ). get_or (set st at e) j 0) (sym z) ∙ get_or-set_same st at e 0 (omega (arith, m.long, inside)) ∙ q ∙ ap (entry_of k) tags in
      subst (Entry rows (first_row (starts i) (drop k rows))) (sym g) (subst (λ (x : Option (List ℕ)). Entry rows x (entry_of k (tagged rows r))) (sym f) (row k r a)))
      (λ y.
      let f : first_row (starts i) (drop k rows) ≡ first_row (starts i) (drop n rows) = ap (first_row (starts i)) rest ∙ first_no (starts i) r (drop n rows) y in
      let g : get_or (set st at e) i 0 ≡ get_or st i 0 = get_or-set_other st at i e 0 (λ z. eqb-false at i y (sym z)) in
      subst (Entry rows (first_row (starts i) (drop k rows))) (sym g) (subst (λ (x : Option (List ℕ)). Entry rows x (get_or st i 0)) (sym f) (m.entries i h)))

  -- the first description, with this row
  module _ (from' : ℕ) (q : from' ≡ described_from r from) where
    by_image : {P : Type 0} → (is_image r ≡ true → text_start r < from → from' ≡ text_start r → P) → ((is_image r ≡ true → from ≤ text_start r) → from' ≡ from → P) → P
    by_image f g =
        by (is_image r)
        (λ y. by (ltb (text_start r) from)
        (λ z. f y (ltb-true (text_start r) from z) (q ∙ rw (y, z) refl))
        (λ z. g (λ w. ltb-false (text_start r) from z) (q ∙ rw (y, z) refl)))
        (λ y. g (λ w. absurd (true≢false (sym w ∙ y))) (q ∙ rw y refl))

    least_there : (j : ℕ) (d : List ℕ) → k ≤ j → get_elem? rows j ≡ some d → is_image d ≡ true → from' ≤ text_start d
    least_there j d l e y = cases (dec_lt k j)
      where
        own : k ≡ j → r ≡ d
        own z = some-injective r d (sym a ∙ ap (get_elem? rows) z ∙ e)

        cases : Dec (k < j) → from' ≤ text_start d
        cases (yes z) =
            let h = m.least j d (omega arith) e y in
            by_image (λ w v u. omega (arith, u)) (λ w u. omega (arith, u))
        cases (no z) =
            let h : r ≡ d = own (omega arith) in
            let i : text_start r ≡ text_start d = ap text_start h in
            by_image (λ w v u. omega (arith, u)) (λ w u. omega (arith, u, w (ap is_image h ∙ y)))

    image_there : from' < places → Image rows k from'
    image_there l =
        by_image (λ y z u. record { index = k; row = r; at = a; low = omega arith; is_an_image = y; starts = sym u })
        (λ w u.
        let x = m.there (omega (arith, u)) in
        record { index = x.index; row = x.row; at = x.at; low = omega (arith, x.low); is_an_image = x.is_an_image; starts = x.starts ∙ sym u })

    pub one_marked : (place : ℕ) → place ≡ at → {e : ℕ} → e ≡ entry_of k (ltb place from) → Marks rows k from' (set st place e)
    one_marked place z {e} = subst (λ (n : ℕ). e ≡ entry_of k (ltb n from) → Marks rows k from' (set st n e)) (sym z) marked
      where
        marked : e ≡ entry_of k (ltb at from) → Marks rows k from' (set st at e)
        marked f = record { long = length-set st at e ∙ m.long; least = least_there; there = image_there; entries = entry_there e f }
