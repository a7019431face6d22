-- What the keys of entries tell, and how a window narrows.
use Prim.Native.Nat.{ℕ, ◌+◌, ◌-◌, ◌≤◌, ◌<◌}
use native.Mathlib.Omega.{arith}
use mathlib.Core.Path.{◌≡◌, sym, ◌∙◌}
use mathlib.Core.List.{List}
use mathlib.Core.Bool.{Bool, true, false, true≢false}
use borrow.Author.Tests.{ltb-true}
use lib.Dec.{ltb}
use Rattle.std.specs.declared.cmp.Ordering.{Ordering}
use Rattle.std.specs.declared.cmp.Ordering.TheVariants.{Less, Equal, Greater}
use Rattle.texts.specs.Texts.{Texts}
use Rattle.matching.specs.Reading.{compared, matches}
use Rattle.matching.proofs.Equality.{matches_iff, matches_refl}
use Rattle.order.specs.Order.{order, key, rank}
use Rattle.order.proofs.Laws.{rank_refl, rank_below, rank_above, rank_level}
use Rattle.index.specs.Index.{label_of, form_of, row_in, key_in, entry_at, row_at, Sorted, Front, Back, Window, Seen, Found, Missing}

-- an order is one of the three
pub not_both : {o p q : Ordering} → o ≡ p → o ≡ q → (p ≡ q → ⊥) → ⊥
not_both e f n = n (sym e ∙ f)

pub equal_less : ◌≡◌ {A = Ordering} Equal Less → ⊥
equal_less e = grind (arith, e)

pub greater_less : ◌≡◌ {A = Ordering} Greater Less → ⊥
greater_less e = grind (arith, e)

greater_equal : ◌≡◌ {A = Ordering} Greater Equal → ⊥
greater_equal e = grind (arith, e)

-- labels that are the same bytes match
pub same_match : (a b : List ℕ) → a ≡ b → true ≡ matches a b
same_match a b e = rw e (sym (matches_refl b))

-- ---- the entry e at place p, whose key is own, and a form c whose key is h
module _ {T : Texts} {t : List ℕ} {count : ℕ} {index : List ℕ} (s : Sorted T t count index) (p : ℕ) (i : p < count) (c : List ℕ) {h e own : ℕ} (eh : h ≡ key c)
    (ee : e ≡ entry_at index p) (eo : own ≡ key_in e) where
  abbrev form : List ℕ
  form = form_of T t (row_at index p)

  key_own : own ≡ key form
  key_own = eo ∙ (rw ee ((s.entries p i).key))

  pub key_below : own < h → Less ≡ rank form c
  key_below g = let o = key_own in sym (rank_below form c (omega arith))

  pub key_above : h < own → Greater ≡ rank form c
  key_above g = let o = key_own in sym (rank_above form c (omega arith))

  pub key_level : h ≤ own → own ≤ h → {k : ℕ} → k ≡ row_in e → {bytes : List ℕ} → bytes ≡ label_of T t k → {r : Ordering} → r ≡ order (compared bytes) c → r ≡ rank form c
  key_level f g ek eb er =
      let o = key_own in
      let z : key form ≡ key c = omega arith in
      er ∙ (rw (eb, ek, ee) (sym (rank_level form c z)))

-- the label itself needs no key
pub label_same : (T : Texts) (t : List ℕ) {e k l : ℕ} → e ≡ l → k ≡ row_in e → {bytes : List ℕ} → bytes ≡ label_of T t k → (label : List ℕ) → matches bytes label ≡ true
    → Equal ≡ rank (form_of T t (row_in l)) (compared label)
label_same T t {e} {k} {l} ee ek {bytes} eb label m =
    let z : form_of T t (row_in l) ≡ compared label = (matches_iff (label_of T t (row_in l)) label).0 (rw (eb, ek, ee) at m) in
    rw z (sym (rank_refl (compared label)))

-- ---- a window narrows at a place between
module _ {T : Texts} {t : List ℕ} {count : ℕ} {index c : List ℕ} {lo hi : ℕ} (w : Window T t count index c lo hi) where
  pub narrow_front : (mid : ℕ) → mid < hi → rank (form_of T t (row_at index mid)) c ≡ Less → Window T t count index c (mid + 1) hi
  narrow_front mid h e = record {
    ordered = omega arith;
    inside = w.inside;
    front = λ p q. let y : p ≡ mid = omega arith in rw y e;
    back = w.back;
  }

  pub narrow_back : (mid : ℕ) → lo ≤ mid → mid < hi → (rank (form_of T t (row_at index mid)) c ≡ Less → ⊥) → Window T t count index c lo mid
  narrow_back mid g h n = let i = w.inside in record { ordered = g; inside = omega arith; front = w.front; back = λ k q. n q }

  -- it is one place
  pub closed : hi ≤ lo → Window T t count index c lo lo
  closed h = let o = w.ordered in let z : hi ≡ lo = omega arith in rw z at w

  module _ (h : hi ≤ lo) {same : Bool} (s : Seen T t count index c hi same) where
    seen : Seen T t count index c lo same
    seen = let o = w.ordered in let z : hi ≡ lo = omega arith in rw z at s

    pub found : same ≡ true → Found T t count index c lo
    found e = record { window = closed h; inside = (seen.hit e).0; same = (seen.hit e).1 }

    pub missing : same ≡ false → Missing T t count index c lo
    missing e = record { window = closed h; other = seen.miss e }

-- ---- what the keys at a window's ends show
module _ {T : Texts} {t : List ℕ} {count : ℕ} {index : List ℕ} (s : Sorted T t count index) (c : List ℕ) {h e g : ℕ} (eh : h ≡ key c) where
  pub front_shown : (lo : ℕ) → lo ≤ count → (lo ≡ 0 → ⊥) → e ≡ entry_at index (lo - 1) → g ≡ key_in e → ltb g h ≡ true → Front T t index c lo
  front_shown lo l n ee eg f p q =
      let z : p ≡ lo - 1 = omega arith in
      rw z (sym (key_below s (lo - 1) (omega arith) c eh ee eg (ltb-true g h f)))

  pub back_shown : (hi : ℕ) → e ≡ entry_at index hi → g ≡ key_in e → ltb h g ≡ true → Back T t count index c hi
  back_shown hi ee eg f i = sym (key_above s hi i c eh ee eg (ltb-true h g f))

-- with both ends shown
pub window_shown : {T : Texts} {t : List ℕ} {count : ℕ} {index c : List ℕ} {lo hi : ℕ} → lo ≤ hi → hi ≤ count → Front T t index c lo → Back T t count index c hi
    → Window T t count index c lo hi
window_shown o i f b = record { ordered = o; inside = i; front = f; back = λ k q. not_both (b k) q greater_less }

-- all places are one
pub window_all : (T : Texts) (t : List ℕ) (count : ℕ) (index c : List ℕ) → Window T t count index c 0 count
window_all T t count index c = record { ordered = omega arith; inside = omega arith; front = λ p q. absurd (omega arith); back = λ k q. absurd (omega arith) }

-- ---- what was seen at a window's end
module _ (T : Texts) (t : List ℕ) (count : ℕ) (index c : List ℕ) where
  pub seen_none : (hi : ℕ) → Back T t count index c hi → Seen T t count index c hi false
  seen_none hi b = record {
    hit = λ e. absurd (true≢false (sym e));
    miss = λ e i q. not_both (b i) q greater_equal;
  }

  pub seen_same : (mid : ℕ) → mid < count → rank (form_of T t (row_at index mid)) c ≡ Equal → Seen T t count index c mid true
  seen_same mid h e = record { hit = λ f. (h, e); miss = λ f. absurd (true≢false f) }

  pub seen_greater : (mid : ℕ) → rank (form_of T t (row_at index mid)) c ≡ Greater → Seen T t count index c mid false
  seen_greater mid e = seen_none mid (λ i. e)
