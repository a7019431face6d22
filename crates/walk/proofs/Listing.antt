-- A list of the paragraphs passed so far: it grows with each, there is room for it, and at the note's end it has them all.
use Prim.Native.Nat.{ℕ, zero, suc, ◌+◌, ◌*◌, ◌≤◌, ◌<◌}
use native.Mathlib.Omega.{arith}
use native.Mathlib.Numerals.{add-one}
use mathlib.Core.Path.{◌≡◌, refl, sym, ap, ◌∙◌}
use mathlib.Core.List.{List, [], ◌∷◌}
use borrow.Author.Tests.{ltb-true, ltb-false, lt-ltb, le-ltb}
use lib.Dec.{ltb}
use lib.ListN.{length, get_or, set, length-set}
use lib.Seq.{get_or-set_same, get_or-set_other}
use Rattle.scan.proofs.Test.{by}
use Rattle.block.specs.Block.{Placed}
use Rattle.row.specs.declared.Definition.{Definition}
use Rattle.walk.specs.declared.Cursor.{Cursor}
use Rattle.walk.specs.Reading.{placed_between, paragraphs_from, paragraphs_after, start_of, end_of, remembered, next_of, from}
use Rattle.walk.specs.Promise.{FirstParagraph, ItemDefinition, ItemParagraph, Remembers}
use Rattle.walk.proofs.Steps.{cursor}
use Rattle.walk.proofs.Items.{paragraphs_between}

-- paragraph k of the list is the first from where it is looked for
abbrev pub Listed : List ℕ → List ℕ → ℕ → Type 0
Listed s list k = FirstParagraph s (from s list k) (start_of list k) (end_of list k) (next_of s (end_of list k))

-- the list has the n paragraphs that were passed before c
pub record Listing (s list : List ℕ) (n : ℕ) (c : Cursor) : Type 0 where
  pub each : (k : ℕ) → k < n → Listed s list k
  pub left : paragraphs_from s (from s list n) ≡ paragraphs_after s c
  pub low : from s list n ≤ c.at
  pub fits : 2 * n ≤ length list

-- n paragraphs passed before c took two bytes each, where the note goes on; and a byte more was taken inside a block
pub record Room (s : List ℕ) (n : ℕ) (c : Cursor) : Type 0 where
  pub few : c.at < length s → 2 * n ≤ c.at
  pub fewer : c.at < c.end → 2 * n < c.at

-- ---- the list after paragraph n was remembered
module _ (s list : List ℕ) (n a e : ℕ) (fits : 2 * n + 1 < length list) where
  abbrev list' : List ℕ
  list' = remembered list n a e

  before : (i : ℕ) → i < 2 * n → get_or list' i 0 ≡ get_or list i 0
  before i h =
      get_or-set_other (set list (2 * n) a) (2 * n + 1) i e 0 (λ q. let no : ⊥ = omega arith in absurd no)
      ∙ get_or-set_other list (2 * n) i a 0 (λ q. let no : ⊥ = omega arith in absurd no)

  its_start : start_of list' n ≡ a
  its_start = get_or-set_other (set list (2 * n) a) (2 * n + 1) (2 * n) e 0 (λ q. let no : ⊥ = omega arith in absurd no) ∙ get_or-set_same list (2 * n) a 0 (omega arith)

  its_end : end_of list' n ≡ e
  its_end = get_or-set_same (set list (2 * n) a) (2 * n + 1) e 0 (omega (arith, length-set list (2 * n) a))

  same_from : (k : ℕ) → k ≤ n → from s list' k ≡ from s list k
  unfolding from
  same_from zero h = refl
  same_from (suc k) h = ap (next_of s) (before (2 * k + 1) (omega arith))

  same_listed : (k : ℕ) → k < n → Listed s list k → Listed s list' k
  same_listed k h l = rw (same_from k (omega arith), before (2 * k) (omega arith), before (2 * k + 1) (omega arith)) l

-- a paragraph ends in its block
pub end_inside : (s : List ℕ) {c : Cursor} {a e : ℕ} {c' : Cursor} → ItemParagraph s c a e c' → (e ≤ c'.at) × (c'.at ≤ length s)
unfolding next_of
end_inside s {e = e} {c'} i = (
  by (ltb e (length s)) (λ t. let q : e + 1 ≡ c'.at = rw t at i.ends in omega arith) (λ t. let q : e ≡ c'.at = rw t at i.ends in omega arith),
  omega (arith, i.within.ordered, i.within.inside),
)

module _ (s : List ℕ) where
  pub start_from : (list : List ℕ) → 0 ≡ from s list 0
  unfolding from
  start_from list = refl

  pub next_from : (list : List ℕ) (k : ℕ) → from s list (k + 1) ≡ next_of s (end_of list k)
  unfolding from
  next_from list k = rw (add-one k)

  pub none_listed : (list : List ℕ) → Listing s list 0 (cursor 0 0)
  unfolding from
  none_listed list = record { each = λ k h. let no : ⊥ = omega arith in absurd no; left = sym (paragraphs_between s (cursor 0 0) (omega arith)); low = omega arith; fits = omega arith }

  pub none_passed : Room s 0 (cursor 0 0)
  none_passed = record { few = λ h. omega arith; fewer = λ h. omega arith }

  module _ {n : ℕ} {c : Cursor} where
    -- ---- past a definition
    module _ {d : Definition} {c' : Cursor} (i : ItemDefinition s c d c') where
      pub listed_still : {list : List ℕ} → Listing s list n c → Listing s list n c'
      listed_still l = record { each = l.each; left = l.left ∙ i.left; low = omega (arith, l.low, i.here.starts, i.here.onward); fits = l.fits }

      pub room_still : Room s n c → Room s n c'
      room_still r =
          let few = r.few (omega (arith, i.here.starts, i.here.onward, i.here.within.ordered, i.here.within.inside)) in
          record { few = λ h. omega (arith, i.here.starts, i.here.onward); fewer = λ h. omega (arith, i.here.starts, i.here.onward) }

    -- ---- past a paragraph
    module _ {a e : ℕ} {c' : Cursor} (i : ItemParagraph s c a e c') where
      pub listed_more : {list : List ℕ} → 2 * n + 1 < length list → Listing s list n c → Listing s (remembered list n a e) (n + 1) c'
      listed_more {list} h l =
          let l' = remembered list n a e in
          let ends : next_of s e ≡ c'.at = i.ends in
          let here : FirstParagraph s (from s list n) a e (next_of s e) =
          record {
            first = l.left ∙ i.first ∙ ap (λ (r : List Placed). placed_between s a e ∷ r) (paragraphs_between s c' (omega (arith, i.over)) ∙ ap (paragraphs_from s) (sym i.over ∙ sym ends));
            low = omega (arith, l.low, i.low);
            ordered = i.ordered;
            ends = omega (arith, end_inside s i);
            inside = omega (arith, end_inside s i);
            onward = omega (arith, l.low, i.low, i.onward);
          } in
          let next : from s l' (n + 1) ≡ c'.at = next_from l' n ∙ ap (next_of s) (its_end s list n a e h) ∙ ends in
          record {
            each = λ k below.
                by (ltb k n) (λ t. let u = ltb-true k n t in same_listed s list n a e h k u (l.each k u))
                (λ t.
                let q : k ≡ n = omega (arith, ltb-false k n t) in
                rw (q, same_from s list n a e h n (omega arith), its_start s list n a e h, its_end s list n a e h) here);
            left = ap (paragraphs_from s) (next ∙ i.over) ∙ sym (paragraphs_between s c' (omega (arith, i.over)));
            low = omega arith;
            fits = omega (arith, length-set (set list (2 * n) a) (2 * n + 1) e, length-set list (2 * n) a);
          }

      pub room_more : Room s n c → Room s (n + 1) c'
      room_more r = record {
        few = λ h.
            let few = r.few (omega (arith, i.low, i.onward)) in
            by (ltb c.at c.end) (λ t. omega (arith, r.fewer (ltb-true c.at c.end t), i.low, i.onward))
            (λ t. omega (arith, i.room (ltb-false c.at c.end t) h));
        fewer = λ h. let no : ⊥ = omega (arith, i.over) in absurd no;
      }

      -- there is room for it in a list of more numbers than the note has bytes
      pub room_there : (list : List ℕ) → Room s n c → length s < length list → 2 * n + 1 < length list
      room_there list r l = omega (arith, r.few (omega (arith, i.low, i.onward, i.within.ordered, i.within.inside)), i.low, i.onward, i.within.ordered, i.within.inside)

    -- ---- at the end
    pub all_listed : {list : List ℕ} → Listing s list n c → paragraphs_after s c ≡ [] → Remembers s list n
    all_listed l e = record { each = l.each; over = l.left ∙ e; fits = l.fits }

-- ---- the list read again
module _ (s list : List ℕ) (n k at : ℕ) (r : Remembers s list n) (looked : at ≡ from s list k) where
  pub listed_end : k ≡ n → (paragraphs_from s at ≡ []) × (k ≡ n)
  listed_end e = (ap (paragraphs_from s) (looked ∙ ap (from s list) e) ∙ r.over, e)

  -- what is promised of paragraph k, whose block ends at m
  abbrev Promised : ℕ → Type 0
  Promised m = FirstParagraph s at (start_of list k) (end_of list k) m × ((k < n) × (m ≡ from s list (k + 1)))

  module _ (below : k < n) where
    listed_here : {m : ℕ} → next_of s (end_of list k) ≡ m → Promised m
    listed_here e = (rw (looked, ← e) (r.each k below), (below, sym e ∙ sym (next_from s list k)))

    pub listed_on : end_of list k < length s → Promised (end_of list k + 1)
    unfolding next_of
    listed_on h = listed_here (rw (lt-ltb (end_of list k) (length s) h))

    pub listed_last : length s ≤ end_of list k → Promised (end_of list k)
    unfolding next_of
    listed_last h = listed_here (rw (le-ltb (end_of list k) (length s) h))
