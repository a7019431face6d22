-- What the entries of rows tell, and how checks of each place add up.
use Prim.Native.Nat.{ℕ, ◌+◌, ◌-◌, ◌*◌, ◌≤◌, ◌<◌}
use native.Mathlib.Omega.{arith}
use mathlib.Core.Path.{◌≡◌, refl, sym, ◌∙◌}
use mathlib.Core.List.{List, [], ◌∷◌}
use mathlib.Core.Bool.{true, ◌&&◌}
use borrow.Author.Count.{below_more}
use borrow.Author.Tests.{ltb-true, eqb-true}
use lib.Dec.{ltb, eqb}
use lib.ListN.{length, get_or, set}
use lib.Seq.{get_or-set_same, get_or-set_other}
use Rattle.scan.proofs.Test.{and_left, and_right}
use Rattle.texts.specs.Texts.{Texts, text_of}
use Rattle.matching.specs.Reading.{compared}
use Rattle.std.specs.declared.cmp.Ordering.{Ordering}
use Rattle.std.specs.declared.cmp.Ordering.TheVariants.{Less, Equal}
use Rattle.order.specs.Order.{order, mix, mixed, front, key, rank}
use Rattle.order.proofs.Laws.{rank_below, rank_level, rank_equal}
use Rattle.row.specs.Row.{width}
use Rattle.row.specs.Reading.{range_at, Within, Fit}
use Rattle.index.specs.Index.{label_of, form_of, entry_of, row_in, key_in, base, entry_at, row_at, IsEntry, Before, below, tied, Sorted, Stands}
use Rattle.indexing.specs.Building.{Entries, Follows}

-- ---- a key has eighteen bits
mix_small : (h b : ℕ) → mix h b < 4294967296
unfolding mix
mix_small h b = omega arith

mixed_small : (h : ℕ) (c : List ℕ) → h < 4294967296 → mixed h c < 4294967296
unfolding mixed
mixed_small h [] g = g
mixed_small h (b ∷ c) g = mixed_small (mix h b) c (mix_small h b)

pub key_small : (c : List ℕ) → key c < 262144
unfolding front key
key_small c = let z = mixed_small 0 c (omega arith) in omega arith

module _ (T : Texts) (t : List ℕ) where
  -- ---- the entries of the rows passed, and one more
  pub entry_more : (entries : List ℕ) (k : ℕ) → k < length entries → {own : List ℕ} → own ≡ label_of T t k → {h : ℕ} → h ≡ key (compared own) → {e : ℕ} → e ≡ entry_of h k → Entries T t k entries
      → Entries T t (k + 1) (set entries k e)
  entry_more entries k g {own} eo {h} eh {e} ee all =
      below_more (λ l. get_or (set entries k e) l 0 ≡ entry_of (key (form_of T t l)) l) k
      (λ l i. let n : l ≡ k → ⊥ = λ q. omega arith in get_or-set_other entries k l e 0 n ∙ all l i)
      (get_or-set_same entries k e 0 g ∙ ee ∙ (rw (eh, eo) refl))

  -- a number that stands at its row among them
  pub entry_is : {count k e : ℕ} (entries : List ℕ) → Entries T t count entries → k ≡ row_in e → k < count → eqb (get_or entries k 0) e ≡ true → IsEntry T t count e
  entry_is {count} {k} {e} entries x i h q =
      let y = x k h in
      let z = eqb-true (get_or entries k 0) e q in
      record { row = omega arith; key = rw (← i) (omega arith) }

-- ---- the row k of one entry before the row l of another
module _ {T : Texts} {t : List ℕ} {count d e : ℕ} (x : IsEntry T t count d) (y : IsEntry T t count e) {g h : ℕ} (eg : g ≡ key_in d) (eh : h ≡ key_in e) where
  pub before_key : g < h → Before T t (row_in d) (row_in e)
  before_key i =
      let a = x.key in
      let b = y.key in
      below (rank_below (form_of T t (row_in d)) (form_of T t (row_in e)) (omega arith))

  module _ (f : h ≤ g) (i : g ≤ h) {k l : ℕ} (ek : k ≡ row_in d) (el : l ≡ row_in e) {own other : List ℕ} (p : own ≡ label_of T t k) (q : other ≡ label_of T t l)
      {r : Ordering} (er : r ≡ order (compared own) (compared other)) where
    ranked : r ≡ rank (form_of T t (row_in d)) (form_of T t (row_in e))
    ranked =
        let a = x.key in
        let b = y.key in
        let z : key (form_of T t (row_in d)) ≡ key (form_of T t (row_in e)) = omega arith in
        er ∙ (rw (p, q, ek, el) (sym (rank_level (form_of T t (row_in d)) (form_of T t (row_in e)) z)))

    pub before_less : r ≡ Less → Before T t (row_in d) (row_in e)
    before_less z = below (sym ranked ∙ z)

    pub before_tied : r ≡ Equal → ltb k l ≡ true → Before T t (row_in d) (row_in e)
    before_tied z i =
        let b = ltb-true k l i in
        tied (rank_equal (form_of T t (row_in d)) (form_of T t (row_in e)) (sym ranked ∙ z)) (omega arith)

-- ---- one place, and from each place to all
module _ {T : Texts} {t : List ℕ} {count : ℕ} (index : List ℕ) where
  module _ (p : ℕ) (x : IsEntry T t count (entry_at index p)) where
    pub follows_first : p ≡ 0 → Follows T t count index p
    follows_first z = record { entry = x; next = λ q e. absurd (omega arith) }

    pub follows_on : (p ≡ 0 → ⊥) → Before T t (row_in (get_or index ((base + p) - 1) 0)) (row_at index p) → Follows T t count index p
    follows_on n b = record { entry = x; next = λ q e. let z : (base + p) - 1 ≡ base + q = omega arith in rw z at b }

  pub sorted_all : base + count ≤ length index → ((p : ℕ) → p < count → Follows T t count index p) → Sorted T t count index
  sorted_all h f = record { room = h; entries = λ p g. (f p g).entry; next = λ p g. (f (p + 1) g).next p refl }

-- row k stands at place p
pub stands_at : (count : ℕ) (index : List ℕ) (k p : ℕ) → p < count → {l : ℕ} → l ≡ row_at index p → eqb l k ≡ true → Stands count index k
stands_at count index k p h {l} e q = record { place = p; inside = h; there = sym e ∙ eqb-true l k q }
