-- Whether two definitions differ: the tests tell it, and what agrees with one of two that differ differs from the other.
use Prim.Native.Nat.{ℕ}
use mathlib.Core.Path.{◌≡◌, refl, sym, ap, ap₂, ◌∙◌}
use mathlib.Core.Logic.{◌↔◌}
use mathlib.Core.List.{List}
use mathlib.Core.Bool.{Bool, true, false, true≢false, beq, not, ◌||◌}
use borrow.Author.Tests.{eqb-true}
use lib.Dec.{eqb}
use Rattle.scan.proofs.Test.{by, and_left, and_right, neither}
use Rattle.matching.specs.Reading.{equals}
use Rattle.matching.proofs.Equality.{equals_to, equals_refl}
use Rattle.texts.specs.Texts.{Texts}
use Rattle.row.specs.declared.Range.{Range}
use Rattle.row.specs.Row.{range, absent, Listed}
use Rattle.conflict.specs.Conflict.{destination_bytes, title_bytes, HasTitle, Differ, in_destination, in_title, in_presence}
use Rattle.conflict.specs.Reading.{is_absent, differ}

-- ---- tests
pub was_true : (x : Bool) → not x ≡ false → x ≡ true
was_true true e = refl
was_true false e = sym e

same_test : (x y : Bool) → not (beq x y) ≡ false → x ≡ y
same_test true true e = refl
same_test true false e = absurd (true≢false e)
same_test false true e = absurd (true≢false e)
same_test false false e = refl

-- other bytes
unequal : (a b : List ℕ) → equals a b ≡ false → a ≡ b → ⊥
unequal a b e q = true≢false (sym (equals_refl a) ∙ ap (equals a) q ∙ e)

-- ---- the presence of a title
is_absent_lem : (r : Range) → is_absent r ≡ true → r ≡ absent
is_absent_lem r e = ap₂ range (eqb-true r.start 0 (and_left (eqb r.start 0) _ e)) (eqb-true r.end 0 (and_right (eqb r.start 0) _ e))

is_titled : (j : Listed) → is_absent j.definition.title ≡ false → HasTitle j
is_titled j e q = true≢false (sym (ap is_absent q) ∙ e)

both_titled : (a b : Listed) → is_absent a.definition.title ≡ is_absent b.definition.title → HasTitle a → HasTitle b
both_titled a b e t q = t (is_absent_lem a.definition.title (e ∙ ap is_absent q))

pub titled_alike : (a b : Listed) → is_absent a.definition.title ≡ is_absent b.definition.title → HasTitle a ↔ HasTitle b
titled_alike a b e = (both_titled a b e, both_titled b a (sym e))

pub absent_alike : (a b : Listed) → (HasTitle a ↔ HasTitle b) → is_absent a.definition.title ≡ is_absent b.definition.title
absent_alike a b (to, back) =
    by (is_absent a.definition.title)
    (λ e. by (is_absent b.definition.title) (λ f. e ∙ sym f) (λ f. absurd (back (is_titled b f) (is_absent_lem a.definition.title e))))
    (λ e. by (is_absent b.definition.title) (λ f. absurd (to (is_titled a e) (is_absent_lem b.definition.title f))) (λ f. e ∙ sym f))

-- ---- what the tests tell
module _ (T : Texts) where
  -- they differ in nothing
  pub record Agree (a b : Listed) : Type 0 where
    pub destination : destination_bytes T a ≡ destination_bytes T b
    pub title : title_bytes T a ≡ title_bytes T b
    pub presence : is_absent a.definition.title ≡ is_absent b.definition.title

  pub agree : (a b : Listed) → differ T a b ≡ false → Agree a b
  unfolding differ
  agree a b e =
      let (p, q) = neither (not (beq (is_absent a.definition.title) (is_absent b.definition.title))) _ e in
      let (d, t) = neither (not (equals (destination_bytes T a) (destination_bytes T b))) _ q in
      record {
        destination = equals_to _ _ (was_true _ d);
        title = equals_to _ _ (was_true _ t);
        presence = same_test _ _ p;
      }

  module _ (a b : Listed) (d : differ T a b ≡ true) where
    -- where both parts are the same, it is the presence
    left_over : equals (destination_bytes T a) (destination_bytes T b) ≡ true → equals (title_bytes T a) (title_bytes T b) ≡ true → (HasTitle a ↔ HasTitle b) → ⊥
    unfolding differ
    left_over e f w = true≢false (sym d ∙ rw (e, f, absent_alike a b w) (never (is_absent b.definition.title)))
      where
        never : (x : Bool) → (not (beq x x) || false) ≡ false
        never true = refl
        never false = refl

    pub differs : Differ T a b
    differs =
        by (equals (destination_bytes T a) (destination_bytes T b))
        (λ e. by (equals (title_bytes T a) (title_bytes T b)) (λ f. in_presence (left_over e f)) (λ f. in_title (unequal _ _ f)))
        (λ e. in_destination (unequal _ _ e))

  -- ---- what agrees does not differ, and differs where the other does
  pub not_both : {a b : Listed} → Agree a b → Differ T a b → ⊥
  not_both g (in_destination n) = n g.destination
  not_both g (in_title n) = n g.title
  not_both {a} {b} g (in_presence n) = n (titled_alike a b g.presence)

  pub through : {a b c : Listed} → Agree a c → Differ T b c → Differ T a b
  through g (in_destination n) = in_destination (λ q. n (sym q ∙ g.destination))
  through g (in_title n) = in_title (λ q. n (sym q ∙ g.title))
  through {a} {b} {c} g (in_presence n) =
      let w = titled_alike a c g.presence in
      in_presence (λ (to, back). n ((λ x. w.0 (back x)), (λ y. to (w.1 y))))
