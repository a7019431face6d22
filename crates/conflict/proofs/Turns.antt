-- What the code meets: bytes compared, and rows whose parts lie within their texts.
use Rattle.std.specs.Prelude.{None, Option, Some}
use Prim.Native.Nat.{ℕ, suc, ◌+◌, ◌-◌, ◌≤◌, ◌<◌}
use native.Mathlib.Nat.{zero-add, sub-zero}
use native.Mathlib.Omega.{arith}
use mathlib.Core.Path.{◌≡◌, refl, sym, ap, ap₂, ◌∙◌, subst}
use mathlib.Core.Logic.{inl, inr}
use mathlib.Core.List.{List, [], ◌∷◌}
use mathlib.Core.Bool.{Bool, true, false, beq, not, ◌&&◌}
use lib.ListN.{length, take, length-map}
use lib.Seq.{length-take-le}
use lib.Dec.{eqb}
use lib.Pointwise.{pointwise}
use Rattle.matching.specs.Reading.{equals}
use Rattle.texts.specs.Texts.{Texts, text_of}
use Rattle.row.specs.declared.Range.{Range}
use Rattle.row.specs.declared.Definition.{Definition}
use Rattle.row.specs.Row.{Listed, whole_rows}
use Rattle.row.specs.First.{bytes_of, labels_of}
use Rattle.row.specs.Reading.{text_at, definition_at, listed_at, listed_from, row_of, Within, Fit}
use Rattle.row.proofs.First.{first_equal}
use Rattle.row.proofs.Filled.{entry_at as table_entry}
use Rattle.definition.proofs.Endings.{TitlePlace}
use Rattle.definition.proofs.Places.{DefinitionPlaces}
use Rattle.walk.proofs.Places.{Lies, definitions_lie}
use Rattle.joined.specs.Reading.{joined, Listing}
use Rattle.joined.proofs.Places.{entry_at}
use Rattle.joined.proofs.Listing.{row_entry, rows_taken}
use Rattle.conflict.specs.Conflict.{label_bytes, destination_bytes, title_bytes, entry}
use Rattle.conflict.specs.Reading.{is_absent, differ, differs_from, conflicts, conflict_from, first_conflict, PartsWithin}
use Rattle.conflict.proofs.Conflicts.{conflict_hit, conflict_miss}

-- ---- two parts
pub same_bytes : (a b : List ℕ) → pointwise eqb a b ≡ equals a b
unfolding equals
same_bytes [] [] = refl
same_bytes [] (y ∷ b) = refl
same_bytes (x ∷ a) [] = refl
same_bytes (x ∷ a) (y ∷ b) = ap (λ (t : Bool). eqb x y && t) (same_bytes a b)

-- ---- the parts of a definition
parts_lie : {s : List ℕ} {d : Definition} → Lies s d → PartsWithin s d
parts_lie {s} {d} l = record {
  label = record { ordered = p.label; inside = omega (arith, p.apart, p.destination, p.ends, p.inside) };
  destination = record { ordered = p.destination; inside = omega (arith, p.ends, p.inside) };
  title = title p.title;
}
  where
    p : DefinitionPlaces s l.at d l.after
    p = l.places

    title : TitlePlace d.destination.end d.title.start d.title.end l.after → Within s d.title
    title (inl (x, y)) = record { ordered = omega arith; inside = omega arith }
    title (inr (x, y, z)) = record { ordered = y; inside = omega (arith, p.inside) }

-- ---- the tests of two entries, x and y
module _ (T : Texts) (x y : Listed) {p q : Bool} (ep : p ≡ is_absent x.definition.title) (eq : q ≡ is_absent y.definition.title) where
  by_presence : not (beq p q) ≡ true → true ≡ differ T x y
  unfolding differ
  by_presence n = rw (← ep, ← eq, n) refl

  module _ (same : not (beq p q) ≡ false) {r : Bool} (er : r ≡ equals (destination_bytes T x) (destination_bytes T y)) where
    by_destination : r ≡ false → true ≡ differ T x y
    unfolding differ
    by_destination n = rw (← ep, ← eq, same, ← er, n) refl

    by_title : r ≡ true → {u : Bool} → u ≡ equals (title_bytes T x) (title_bytes T y) → not u ≡ differ T x y
    unfolding differ
    by_title n e = rw (← ep, ← eq, same, ← er, n, ← e) refl

-- their texts are m and n, their definitions a and b
module _ (T : Texts) (x y : Listed) {a b : Definition} (ea : a ≡ x.definition) (eb : b ≡ y.definition) where
  absent_is : (z : Listed) {d : Definition} {p : Bool} → d ≡ z.definition → p ≡ is_absent d.title → p ≡ is_absent z.definition.title
  absent_is z e f = f ∙ ap (λ (d : Definition). is_absent d.title) e

  module _ {p q : Bool} (ep : p ≡ is_absent a.title) (eq : q ≡ is_absent b.title) where
    pub other_presence : not (beq p q) ≡ true → true ≡ differ T x y
    other_presence = by_presence T x y (absent_is x ea ep) (absent_is y eb eq)

    module _ (same : not (beq p q) ≡ false) {m n : ℕ} (em : m ≡ x.text) (en : n ≡ y.text) where
      compared : {r : Bool} {v w : List ℕ} (part : Definition → Range) → v ≡ bytes_of (text_of T m) (part a) → w ≡ bytes_of (text_of T n) (part b) → r ≡ equals v w
          → r ≡ equals (bytes_of (text_of T x.text) (part x.definition)) (bytes_of (text_of T y.text) (part y.definition))
      compared part ev ew er = rw (← em, ← en, ← ea, ← eb) (er ∙ ap₂ equals ev ew)

      module _ {v w : List ℕ} (ev : v ≡ bytes_of (text_of T m) a.destination) (ew : w ≡ bytes_of (text_of T n) b.destination) {r : Bool} (er : r ≡ equals v w) where
        pub other_destination : r ≡ false → true ≡ differ T x y
        other_destination = by_destination T x y (absent_is x ea ep) (absent_is y eb eq) same (compared (λ d. d.destination) ev ew er)

        pub other_title : r ≡ true → {v' w' : List ℕ} → v' ≡ bytes_of (text_of T m) a.title → w' ≡ bytes_of (text_of T n) b.title → {u : Bool} → u ≡ equals v' w'
            → not u ≡ differ T x y
        other_title t ev' ew' eu =
            by_title T x y (absent_is x ea ep) (absent_is y eb eq) same (compared (λ d. d.destination) ev ew er) t (compared (λ d. d.title) ev' ew' eu)

-- ---- a table that holds the joined list
module _ {T : Texts} {t : List ℕ} (l : Listing T t) where
  pub row_there : {k : ℕ} → k < length (joined T) → k < whole_rows t
  row_there h = omega (arith, l.room)

  pub row_parts : {k : ℕ} → k < length (joined T) → PartsWithin (text_of T (text_at t k)) (definition_at t k)
  row_parts {k} h =
      subst (λ (j : Listed). PartsWithin (text_of T j.text) j.definition) (row_entry l h)
      (entry_at T PartsWithin (λ s d m. parts_lie (definitions_lie s d m)) k h)

  pub rows_fit : {k : ℕ} → k ≤ length (joined T) → Fit T t k
  rows_fit h = record { room = omega (arith, l.room); labels = λ i g. (row_parts {k = i} (omega arith)).label }

  -- what the lookup finds before row k
  module _ {k : ℕ} (h : k < length (joined T)) where
    abbrev found : Option ℕ
    found = row_of T t (label_bytes T (listed_at t k)) k

    by_found : {f : Option ℕ} → found ≡ f → conflicts T (take k (joined T)) (entry (joined T) k) ≡ differs_from T (listed_from t 0 k) (listed_at t k) f
    unfolding row_of
    by_found e = rw (← e, row_entry l h, ← rows_taken l {k = k} (omega arith)) refl

    -- the label that is looked up is the row's
    pub looked_up_lem : {f g : Option ℕ} {label : List ℕ} → f ≡ row_of T t label k → label ≡ label_bytes T (listed_at t k) → f ≡ g → found ≡ g
    looked_up_lem e l g = sym (e ∙ rw l refl) ∙ g

    pub earlier : {j : ℕ} → found ≡ Some j → j < k
    unfolding row_of
    earlier {j} e =
        let w = (first_equal (labels_of T (listed_from t 0 k)) (label_bytes T (listed_at t k)) j).0 e in
        let n = length-map (listed_from t 0 k) (λ (j : Listed). label_bytes T j) in
        omega (arith, w.within, n, ap length (rows_taken l {k = k} (omega arith)), length-take-le k (joined T) (omega arith))

    pub by_row : {j : ℕ} {r : Bool} → found ≡ Some j → r ≡ differ T (listed_at t j) (listed_at t k) → r ≡ conflicts T (take k (joined T)) (entry (joined T) k)
    unfolding differs_from
    by_row {j} e d =
        let z : entry (listed_from t 0 k) j ≡ listed_at t j = row_entry_before (earlier e) in
        d ∙ sym (by_found e ∙ ap (λ (x : Listed). differ T x (listed_at t k)) z)
      where
        row_entry_before : {i : ℕ} → i < k → entry (listed_from t 0 k) i ≡ listed_at t i
        row_entry_before {i} g = table_entry t 0 k i g ∙ ap (λ (n : ℕ). listed_at t n) (zero-add i)

    pub by_none : found ≡ None → false ≡ conflicts T (take k (joined T)) (entry (joined T) k)
    unfolding differs_from
    by_none e = sym (by_found e)

-- ---- the search: none of the first k definitions conflicts
pub record NoneBefore (T : Texts) (count k : ℕ) : Type 0 where
  pub counted : count ≡ length (joined T)
  pub few : k ≤ count
  pub rest : conflict_from T (joined T) k (count - k) ≡ first_conflict T

module _ (T : Texts) {count : ℕ} where
  pub none_before : count ≡ length (joined T) → NoneBefore T count 0
  unfolding first_conflict
  none_before e = record { counted = e; few = omega arith; rest = rw (sub-zero, e) refl }

  module _ {k : ℕ} (n : NoneBefore T count k) where
    pub none_left : count ≤ k → None ≡ first_conflict T
    unfolding conflict_from
    none_left h = let z : count - k ≡ 0 = omega arith in rw z at n.rest

    module _ (h : k < count) {r : Bool} (e : r ≡ conflicts T (take k (joined T)) (entry (joined T) k)) where
      less : count - k ≡ suc (count - (k + 1))
      less = omega arith

      pub found_here : r ≡ true → Some k ≡ first_conflict T
      found_here t = sym (conflict_hit T (joined T) k (count - (k + 1)) (sym e ∙ t)) ∙ sym (ap (conflict_from T (joined T) k) less) ∙ n.rest

      pub next_none : r ≡ false → NoneBefore T count (k + 1)
      next_none f = record {
        counted = n.counted;
        few = omega arith;
        rest = sym (conflict_miss T (joined T) k (count - (k + 1)) (sym e ∙ f)) ∙ sym (ap (conflict_from T (joined T) k) less) ∙ n.rest;
      }
