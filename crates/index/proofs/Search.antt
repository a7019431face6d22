-- What a search in a whole index finds is what the lookup through all rows finds.
use Rattle.std.specs.Prelude.{None, Some}
use Prim.Native.Nat.{ℕ, zero, suc, ◌+◌, ◌-◌, ◌≤◌, ◌<◌}
use native.Mathlib.Omega.{arith}
use mathlib.Core.Path.{◌≡◌, refl, sym, ap, ◌∙◌}
use mathlib.Core.List.{List, []}
use borrow.Author.Tests.{ltb-true, ltb-false}
use lib.Dec.{ltb}
use lib.ListN.{get_or}
use Rattle.scan.proofs.Test.{by}
use Rattle.texts.specs.Texts.{Texts}
use Rattle.matching.specs.Form.{Equal}
use Rattle.matching.specs.Reading.{compared}
use Rattle.std.specs.declared.cmp.Ordering.{Ordering}
use Rattle.std.specs.declared.cmp.Ordering.TheVariants.{Less as less, Equal as same}
use Rattle.order.specs.Order.{key, rank}
use Rattle.order.proofs.Laws.{rank_refl, rank_equal, rank_less, rank_keys}
use Rattle.row.specs.First.{labels_of, FirstEqual, NoneEqual}
use Rattle.row.specs.Reading.{listed_from, row_of}
use Rattle.row.proofs.First.{first_equal, none_equal}
use Rattle.index.specs.Index.{label_of, form_of, key_in, entry_at, row_at, Before, below, tied, Sorted, Stands, Holds, Window}
use Rattle.index.proofs.Labels.{labels_length, label_of_lem, to_form, from_form}

-- ---- by which of two numbers is less
pub side : {P : Type 0} (p q : ℕ) → (p < q → P) → (p ≡ q → P) → (q < p → P) → P
side p q f g h =
    by (ltb p q) (λ e. f (ltb-true p q e))
    (λ e. by (ltb q p) (λ d. h (ltb-true q p d)) (λ d. let a = ltb-false p q e in let b = ltb-false q p d in g (omega arith)))

module _ (T : Texts) (t : List ℕ) where
  abbrev form : ℕ → List ℕ
  form = form_of T t

  pub before_trans : {k l m : ℕ} → Before T t k l → Before T t l m → Before T t k m
  before_trans {k} {l} {m} (below a) (below b) = below (rank_less (form k) (form l) (form m) a b)
  before_trans {k} {l} {m} (below a) (tied e h) = below (rw e at a)
  before_trans {k} {l} {m} (tied d g) (below b) = below (rw (← d) at b)
  before_trans {k} {l} {m} (tied d g) (tied e h) = tied (d ∙ e) (omega arith)

  -- ---- before a form that is less, all is less
  before_less : {k l : ℕ} (c : List ℕ) → Before T t k l → rank (form l) c ≡ less → rank (form k) c ≡ less
  before_less {k} {l} c (below a) e = rank_less (form k) (form l) c a e
  before_less {k} {l} c (tied d g) e = rw d e

  -- ---- keys never fall
  before_keys : {k l : ℕ} → Before T t k l → key (form k) ≤ key (form l)
  before_keys {k} {l} (below a) = rank_keys (form k) (form l) a
  before_keys {k} {l} (tied d g) = let z = ap key d in omega arith

  -- of one form, the row with the lesser number comes first
  before_same : {k l : ℕ} → form k ≡ form l → Before T t k l → k < l
  before_same {k} {l} e (below a) = let z : ◌≡◌ {A = Ordering} same less = sym (rank_refl (form l)) ∙ (rw e at a) in grind (arith, z)
  before_same {k} {l} e (tied d g) = g

  module _ (count : ℕ) (index : List ℕ) (s : Sorted T t count index) where
    abbrev row : ℕ → ℕ
    row = row_at index

    apart : (d p q : ℕ) → q ≡ (p + d) + 1 → q < count → Before T t (row p) (row q)
    apart zero p q e h = let z : q ≡ p + 1 = omega arith in rw z (s.next p (omega arith))
    apart (suc d) p q e h =
        let z : q ≡ ((p + d) + 1) + 1 = omega arith in
        before_trans (apart d p ((p + d) + 1) refl (omega arith)) (rw z (s.next ((p + d) + 1) (omega arith)))

    pub ordered : (p q : ℕ) → p < q → q < count → Before T t (row p) (row q)
    ordered p q h k = let z : q ≡ (p + (q - (p + 1))) + 1 = omega arith in apart (q - (p + 1)) p q z k

    module _ (c : List ℕ) (p : ℕ) (w : Window T t count index c p p) where
      all_less : (q : ℕ) → q < p → rank (form (row q)) c ≡ less
      all_less q h =
          let e : (p - 1) + 1 ≡ p = omega arith in
          let i = w.inside in
          let f = w.front (p - 1) e in
          side q (p - 1)
          (λ g. before_less c (ordered q (p - 1) g (omega arith)) f)
          (λ g. rw g f)
          (λ g. absurd (omega arith))

      -- of a form that is c itself: it is not less than c
      not_less : {l : List ℕ} → l ≡ c → rank l c ≡ less → ⊥
      not_less e f = let z : ◌≡◌ {A = Ordering} same less = sym (rank_refl c) ∙ (rw e at f) in grind (arith, z)

      is_equal : {l : List ℕ} → l ≡ c → rank l c ≡ same
      is_equal e = rw e (rank_refl c)

      -- a row whose form is c does not stand before p
      not_front : (q : ℕ) → form (row q) ≡ c → q < p → ⊥
      not_front q e h = not_less e (all_less q h)

      -- ---- row p has c: no row with c has a lesser number
      module _ (h : p < count) (hit : rank (form (row p)) c ≡ same) where
        least : (q : ℕ) → q < count → form (row q) ≡ c → row p ≤ row q
        least q k e =
            side q p (λ g. absurd (not_front q e g)) (λ g. let z = ap row g in omega arith)
            (λ g. let z = before_same (rank_equal (form (row p)) c hit ∙ sym e) (ordered p q g k) in omega arith)

      -- ---- c is not at p: no row has c
      module _ (miss : p < count → rank (form (row p)) c ≡ same → ⊥) where
        no_after : {l : ℕ} → p < count → form l ≡ c → Before T t (row p) l → ⊥
        no_after h e (below a) = w.back h (rw e at a)
        no_after h e (tied d g) = miss h (is_equal (d ∙ e))

        nowhere : (q : ℕ) → q < count → form (row q) ≡ c → ⊥
        nowhere q k e =
            side q p (λ g. not_front q e g) (λ g. let z : p < count = omega arith in miss z (rw g at (is_equal e)))
            (λ g. no_after (omega arith) e (ordered p q g k))

    -- ---- the entry before p has another key: no row before that of p has its form
    module _ (p : ℕ) (h : p < count) (other : (q : ℕ) → q + 1 ≡ p → key_in (entry_at index q) ≡ key_in (entry_at index p) → ⊥) where
      own : (q : ℕ) → q < count → key_in (entry_at index q) ≡ key (form (row q))
      own q k = (s.entries q k).key

      -- an entry at q before p, with the form of p
      not_before : (q : ℕ) → q < p → form (row q) ≡ form (row p) → ⊥
      not_before q g e =
          let r = p - 1 in
          let z : r + 1 ≡ p = omega arith in
          let i : r < count = omega arith in
          let up : key (form (row r)) ≤ key (form (row p)) = before_keys (ordered r p (omega arith) h) in
          let low : key (form (row q)) ≤ key (form (row r)) =
          side q r (λ d. before_keys (ordered q r d i)) (λ d. let y = ap (λ (m : ℕ). key (form (row m))) d in omega arith) (λ d. absurd (omega arith))
          in
          let one = ap key e in
          let a = own r i in
          let b = own p h in
          other r z (omega arith)

      pub new_form : (q : ℕ) → q < count → form (row q) ≡ form (row p) → row p ≤ row q
      new_form q k e =
          side q p (λ g. absurd (not_before q g e)) (λ g. let z = ap row g in omega arith)
          (λ g. let z = before_same (sym e) (ordered p q g k) in omega arith)

-- ---- the same of the lookup
module _ (T : Texts) (t : List ℕ) (count : ℕ) (index : List ℕ) (x : Holds T t count index) where
  module _ (label : List ℕ) (p : ℕ) (w : Window T t count index (compared label) p p) where
    abbrev labels : List (List ℕ)
    labels = labels_of T (listed_from t 0 count)

    -- a row with an equal label has an entry, and has the label's form there
    equal_form : (i : ℕ) → i < count → Equal (get_or labels i []) label → (q : Stands count index i) → form_of T t (row_at index q.place) ≡ compared label
    equal_form i h e q = rw q.there (to_form (label_of T t i) label (rw (label_of_lem T t count i h) at e))

    module _ (h : p < count) (hit : rank (form_of T t (row_at index p)) (compared label) ≡ same) where
      first : FirstEqual labels label (row_at index p)
      first =
          let k = row_at index p in
          let s : k < count = (x.sorted.entries p h).row in
          record {
            within = rw (labels_length T t 0 count) s;
            equal = rw (label_of_lem T t count k s) (from_form (label_of T t k) label (rank_equal (form_of T t k) (compared label) hit));
            first = λ i g e.
                let j : i < count = omega arith in
                let q = x.covers i j in
                let l = least T t count index x.sorted (compared label) p w h hit q.place q.inside (equal_form i j e q) in
                let z = q.there in
                omega arith;
          }

      pub found : row_of T t label count ≡ Some (row_at index p)
      unfolding row_of
      found = (first_equal labels label (row_at index p)).1 first

    module _ (miss : p < count → rank (form_of T t (row_at index p)) (compared label) ≡ same → ⊥) where
      none : NoneEqual labels label
      none i g e =
          let j : i < count = rw (labels_length T t 0 count) at g in
          let q = x.covers i j in
          nowhere T t count index x.sorted (compared label) p w miss q.place q.inside (equal_form i j e q)

      pub missing : row_of T t label count ≡ None
      unfolding row_of
      missing = (none_equal labels label).1 none

  -- a row whose key is not that of the entry before it is the first of its label
  pub new : (p : ℕ) → p < count → ((q : ℕ) → q + 1 ≡ p → key_in (entry_at index q) ≡ key_in (entry_at index p) → ⊥) → (i : ℕ) → i < row_at index p → Equal (label_of T t i) (label_of T t (row_at index p)) → ⊥
  new p h other i g e =
      let s : row_at index p < count = (x.sorted.entries p h).row in
      let j : i < count = omega arith in
      let q = x.covers i j in
      let f : form_of T t (row_at index q.place) ≡ form_of T t (row_at index p) = rw q.there (to_form (label_of T t i) (label_of T t (row_at index p)) e) in
      let l = new_form T t count index x.sorted p h other q.place q.inside f in
      let z = q.there in
      omega arith
