-- `label_end` finds a place exactly where a label ends, and `is_label` says yes exactly of labels.
use Rattle.std.specs.Prelude.{None, Option, Some}
use Prim.Native.Nat.{ℕ, ◌+◌, ◌-◌, ◌≤◌, ◌<◌}
use native.Mathlib.Nat.{zero-add}
use native.Mathlib.Omega.{arith}
use mathlib.Core.Path.{◌≡◌, refl, sym, ap, ◌∙◌}
use mathlib.Core.List.{List, [], ◌∷◌, ◌++◌}
use mathlib.Core.Bool.{Bool, true, false, true≢false, not, ◌||◌}
use mathlib.Core.Logic.{◌↔◌}
use borrow.Author.Tests.{le-leb, leb-true, eq-eqb, eqb-true}
use lib.ListN.{length, take, drop}
use lib.Seq.{take_at}
use lib.Dec.{leb}
use Rattle.scan.proofs.Test.{by, and_left, and_right}
use Rattle.scan.specs.Byte.{blank}
use Rattle.scan.specs.Reading.{closing}
use Rattle.scan.proofs.Closing.{never, at_inj, ClosedAt, closing_iff, closing_inside}
use Rattle.text.specs.Sequences.{characters}
use Rattle.label.specs.Label.{label_limit, Inked, IsLabel, LabelAt}
use Rattle.label.specs.Reading.{inky, fits_after, fits, judged, label_end, is_at, unclosed, is_label}

-- ---- some byte is not blank
inky_to : (l : List ℕ) → inky l ≡ true → Inked l
unfolding inky
inky_to [] e = absurd (true≢false (sym e))
inky_to (b ∷ l) e =
    by (blank b)
    (λ k. let m = inky_to l (rw k at e) in record { front = b ∷ m.front; ink = m.ink; rest = m.rest; whole = ap (λ (x : List ℕ). b ∷ x) m.whole; not_blank = m.not_blank })
    (λ k. record { front = []; ink = b; rest = l; whole = refl; not_blank = k })

or_true : (t : Bool) → (t || true) ≡ true
or_true true = refl
or_true false = refl

inky_at : (front rest : List ℕ) (b : ℕ) → blank b ≡ false → inky (front ++ b ∷ rest) ≡ true
unfolding inky
inky_at [] rest b e = rw e
inky_at (x ∷ front) rest b e = rw (inky_at front rest b e) (or_true (not (blank x)))

inky_from : (l : List ℕ) → Inked l → inky l ≡ true
inky_from l m = rw m.whole (inky_at m.front m.rest m.ink m.not_blank)

fits_iff : (l : List ℕ) → (fits l ≡ true) ↔ (Inked l × (characters l ≤ label_limit))
unfolding fits fits_after
fits_iff l = (
  (λ e. (inky_to l (and_left _ (leb (0 + characters l) label_limit) e), rw zero-add at (leb-true (0 + characters l) label_limit (and_right (inky l) _ e)))),
  (λ (i, h). rw (inky_from l i, zero-add) (le-leb (characters l) label_limit h)),
)

-- ---- where a label ends
-- the bracket that is found stands within the list
pub within : (s : List ℕ) (at e : ℕ) → closing 93 91 93 (drop at s) at ≡ Some e → (at ≤ e) × (e < length s)
within = closing_inside 93 91 93 refl

take_text : (s text more : List ℕ) (at e : ℕ) → s ≡ text ++ 93 ∷ more → e ≡ at + length text → take (e - at) s ≡ text
take_text s text more at e w p = rw w (take_at text (93 ∷ more) (e - at) (omega arith))

module _ (s : List ℕ) (at e : ℕ) where
  sound : (f : Option ℕ) → closing 93 91 93 s at ≡ f → judged s at f ≡ Some e → LabelAt s at e
  sound None c q = absurd (never q)
  sound (Some d) c q =
      by (fits (take (d - at) s))
      (λ k.
      let same : d ≡ e = at_inj (rw k at q) in
      let m : ClosedAt 93 91 93 s at d = (closing_iff 93 91 93 refl s at d).0 c in
      let (i, h) = (fits_iff m.text).0 (rw (take_text s m.text m.more at d m.closed.whole m.place) at k) in
      record {
        label = m.text;
        more = m.more;
        whole = m.closed.whole;
        is_a_label = record { text = m.closed.text; inked = i; short = h };
        place = sym same ∙ m.place;
      })
      (λ k. absurd (never (rw k at q)))

  complete : LabelAt s at e → judged s at (closing 93 91 93 s at) ≡ Some e
  complete m =
      let c : closing 93 91 93 s at ≡ Some e = (closing_iff 93 91 93 refl s at e).1 (record { text = m.label; more = m.more; closed = record { whole = m.whole; text = m.is_a_label.text }; place = m.place }) in
      rw (c, take_text s m.label m.more at e m.whole m.place, (fits_iff m.label).1 (m.is_a_label.inked, m.is_a_label.short))

  pub label_end_iff : (label_end s at ≡ Some e) ↔ LabelAt s at e
  unfolding label_end
  label_end_iff = (sound (closing 93 91 93 s at) refl, complete)

-- the bracket that is found stands within the list
pub label_end_inside : (s : List ℕ) (at e : ℕ) → label_end (drop at s) at ≡ Some e → (at ≤ e) × (e < length s)
label_end_inside s at e q =
    let m = (label_end_iff (drop at s) at e).0 q in
    closing_inside 93 91 93 refl s at e
    ((closing_iff 93 91 93 refl (drop at s) at e).1 (record { text = m.label; more = m.more; closed = record { whole = m.whole; text = m.is_a_label.text }; place = m.place }))

-- ---- exactly one label
module _ (l : List ℕ) where
  is_at_lem : (f : Option ℕ) → is_at (length l) f ≡ true → f ≡ Some (length l)
  is_at_lem (Some e) q = ap Some (eqb-true e (length l) q)
  is_at_lem None q = absurd (true≢false (sym q))

  whole_is : (m : ClosedAt 93 91 93 (l ++ 93 ∷ []) 0 (length l)) → m.text ≡ l
  whole_is m = sym (take_text (l ++ 93 ∷ []) m.text m.more 0 (length l) m.closed.whole m.place) ∙ take_at l (93 ∷ []) (length l - 0) (omega arith)

  pub is_label_iff : (is_label l ≡ true) ↔ IsLabel l
  unfolding is_label unclosed
  is_label_iff = (
    (λ q.
        let m = (closing_iff 93 91 93 refl (l ++ 93 ∷ []) 0 (length l)).0 (is_at_lem _ (and_left _ (fits l) q)) in
        let (i, h) = (fits_iff l).0 (and_right (is_at (length l) (closing 93 91 93 (l ++ 93 ∷ []) 0)) _ q) in
        record { text = rw (whole_is m) at m.closed.text; inked = i; short = h }),
    (λ m.
        let c = (closing_iff 93 91 93 refl (l ++ 93 ∷ []) 0 (length l)).1 (record { text = l; more = []; closed = record { whole = refl; text = m.text }; place = sym (zero-add (length l)) }) in
        rw (c, eq-eqb (length l) (length l) refl) ((fits_iff l).1 (m.inked, m.short))),
  )
