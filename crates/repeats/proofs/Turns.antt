-- A row that repeats a label is told by its key or by the lookup among all rows; and the least row that conflicts is the first definition that does.
use Rattle.std.specs.Prelude.{None, Option, Some}
use Prim.Native.Nat.{ℕ, zero, suc, ◌+◌, ◌-◌, ◌≤◌, ◌<◌}
use native.Mathlib.Omega.{arith}
use mathlib.Core.Path.{◌≡◌, refl, sym, ◌∙◌}
use mathlib.Core.List.{List, []}
use mathlib.Core.Bool.{Bool, true, false, true≢false, not}
use borrow.Author.Count.{below_more}
use borrow.Author.Tests.{eqb-false, not-true}
use lib.Dec.{eqb}
use lib.ListN.{length, get_or}
use Rattle.scan.proofs.Test.{by}
use Rattle.matching.specs.Form.{Equal}
use Rattle.texts.specs.Texts.{Texts, text_of}
use Rattle.row.specs.Row.{whole_rows}
use Rattle.row.specs.First.{labels_of}
use Rattle.row.specs.Reading.{text_at, definition_at, listed_at, listed_from, row_of}
use Rattle.row.proofs.First.{first_equal, none_equal}
use Rattle.index.specs.Index.{label_of, key_in, entry_at, row_at, Covers, Holds}
use Rattle.index.proofs.Labels.{labels_length, label_of_lem}
use Rattle.index.proofs.Search.{new}
use Rattle.joined.specs.Reading.{joined, Listing}
use Rattle.conflict.specs.Reading.{differ, first_conflict, PartsWithin}
use Rattle.conflict.proofs.Turns.{row_there as table_row, row_parts, by_row, by_none, NoneBefore, none_before, next_none, found_here, none_left}
use Rattle.repeats.specs.Repeats.{New, conflicts_at, Least}

-- ---- a label among the rows before row k, of `count` rows
module _ (T : Texts) (t label : List ℕ) where
  abbrev labels : ℕ → List (List ℕ)
  labels n = labels_of T (listed_from t 0 n)

  no_equal : (k : ℕ) → ((i : ℕ) → i < k → Equal (label_of T t i) label → ⊥) → row_of T t label k ≡ None
  unfolding row_of
  no_equal k n = (none_equal (labels k) label).1 (λ i g e. let h : i < k = rw (labels_length T t 0 k) at g in n i h (rw (label_of_lem T t k i h) at e))

  module _ {count k : ℕ} (h : k ≤ count) where
    same_label : (i : ℕ) → i < k → get_or (labels k) i [] ≡ get_or (labels count) i []
    same_label i g = label_of_lem T t k i g ∙ sym (label_of_lem T t count i (omega arith))

    -- what is found among all of them stands before row k, or nothing does
    found_before : {j : ℕ} → row_of T t label count ≡ Some j → j < k → row_of T t label k ≡ Some j
    unfolding row_of
    found_before {j} e g =
        let w = (first_equal (labels count) label j).0 e in
        (first_equal (labels k) label j).1
        (record {
          within = rw (labels_length T t 0 k) g;
          equal = rw (same_label j g) w.equal;
          first = λ i i<j q. w.first i i<j (rw (same_label i (omega arith)) at q);
        })

    found_from : {j : ℕ} → row_of T t label count ≡ Some j → k ≤ j → row_of T t label k ≡ None
    unfolding row_of
    found_from {j} e g =
        let w = (first_equal (labels count) label j).0 e in
        no_equal k (λ i i<k q. w.first i (omega arith) (rw (label_of_lem T t count i (omega arith)) q))

    not_found : row_of T t label count ≡ None → row_of T t label k ≡ None
    unfolding row_of
    not_found e = no_equal k (λ i i<k q. (none_equal (labels count) label).0 e i (rw (labels_length T t 0 count) (omega arith)) (rw (label_of_lem T t count i (omega arith)) q))

-- ---- the key at place p is not that of the entry before it
pub new_key : (index : List ℕ) (p : ℕ) {a b : ℕ} → a ≡ key_in (entry_at index (p - 1)) → b ≡ key_in (entry_at index p) → not (eqb a b) ≡ true → New index p
new_key index p {a} {b} ea eb t q e s =
    let z : q ≡ p - 1 = omega arith in
    eqb-false a b (not-true (eqb a b) t) (ea ∙ (rw z at s) ∙ sym eb)

-- ---- row k, which stands at place p of an index
module _ {T : Texts} {t : List ℕ} (l : Listing T t) {count : ℕ} (n : count ≡ length (joined T)) {index : List ℕ} (x : Holds T t count index) {p k : ℕ} (h : p < count)
    (ek : k ≡ row_at index p) where
  pub row_there : k < count
  row_there = let i = (x.sorted.entries p h).row in omega arith

  in_list : k < length (joined T)
  in_list = let i = row_there in omega arith

  within : k ≤ count
  within = let i = row_there in omega arith

  pub both_there : {j : ℕ} → j < k
      → (j < whole_rows t) × ((k < whole_rows t) × (PartsWithin (text_of T (text_at t j)) (definition_at t j) × PartsWithin (text_of T (text_at t k)) (definition_at t k)))
  both_there {j} g =
      let i = in_list in
      let z : j < length (joined T) = omega arith in
      (table_row l z, (table_row l i, (row_parts l z, row_parts l i)))

  pub new_row : New index p → false ≡ conflicts_at T k
  new_row f = by_none l in_list (no_equal T t (label_of T t k) k (λ i g q. new T t count index x p h f i (omega arith) (rw ek at q)))

  -- what the lookup finds among all rows
  module _ {label : List ℕ} (el : label ≡ label_of T t k) {f : Option ℕ} (ef : f ≡ row_of T t label count) where
    found_is : {g : Option ℕ} → f ≡ g → row_of T t (label_of T t k) count ≡ g
    found_is e = sym (ef ∙ rw el refl) ∙ e

    pub found_none : f ≡ None → false ≡ conflicts_at T k
    found_none e = by_none l in_list (not_found T t (label_of T t k) within (found_is e))

    pub found_later : {j : ℕ} → f ≡ Some j → k ≤ j → false ≡ conflicts_at T k
    found_later e g = by_none l in_list (found_from T t (label_of T t k) within (found_is e) g)

    pub found_earlier : {j : ℕ} → f ≡ Some j → j < k → {r : Bool} → r ≡ differ T (listed_at t j) (listed_at t k) → r ≡ conflicts_at T k
    found_earlier e g d = by_row l in_list (found_before T t (label_of T t k) within (found_is e) g) d

-- ---- the least row that conflicts, place by place
module _ (T : Texts) (count : ℕ) (index : List ℕ) where
  pub none_yet : Least T count index 0 count
  none_yet = record { few = omega arith; is = λ h. absurd (omega arith); least = λ q h. absurd (omega arith) }

  module _ {p best : ℕ} (l : Least T count index p best) where
    next : (conflicts_at T (row_at index p) ≡ true → best ≤ row_at index p) → Least T count index (p + 1) best
    next f = record { few = l.few; is = l.is; least = below_more (λ q. conflicts_at T (row_at index q) ≡ true → best ≤ row_at index q) p l.least f }

    module _ {k : ℕ} (ek : k ≡ row_at index p) where
      pub next_more : best ≤ k → Least T count index (p + 1) best
      next_more h = next (λ d. omega arith)

      module _ {r : Bool} (er : r ≡ conflicts_at T k) where
        pub next_same : r ≡ false → Least T count index (p + 1) best
        next_same f = next (λ d. absurd (true≢false (sym d ∙ rw (← ek) (sym er ∙ f))))

        pub next_less : k < best → r ≡ true → Least T count index (p + 1) k
        next_less h e =
            let few = l.few in
            record {
              few = omega arith;
              is = λ i. sym er ∙ e;
              least = below_more (λ q. conflicts_at T (row_at index q) ≡ true → k ≤ row_at index q) p (λ q i d. let z = l.least q i d in omega arith) (λ d. omega arith);
            }

-- ---- after the last place it is the first that conflicts
module _ {T : Texts} {count : ℕ} (n : count ≡ length (joined T)) {index : List ℕ} (x : Covers count index) {p best : ℕ} (h : count ≤ p) (l : Least T count index p best) where
  clear : (i : ℕ) → i < best → conflicts_at T i ≡ false
  clear i g =
      let few = l.few in
      let q = x i (omega arith) in
      let inside = q.inside in
      let there = q.there in
      by (conflicts_at T i) (λ e. let z = l.least q.place (omega arith) (rw there e) in absurd (omega arith)) (λ e. e)

  none_until : (k : ℕ) → k ≤ best → NoneBefore T count k
  none_until zero g = none_before T n
  none_until (suc k) g =
      let few = l.few in
      let z : k + 1 ≡ suc k = omega arith in
      rw z at (next_none T (none_until k (omega arith)) (omega arith) refl (clear k (omega arith)))

  pub least_first : best < count → Some best ≡ first_conflict T
  least_first g = found_here T (none_until best (omega arith)) g refl (l.is g)

  pub none_first : count ≤ best → None ≡ first_conflict T
  none_first g = none_left T (none_until best (omega arith)) g
