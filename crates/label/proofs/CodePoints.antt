-- A text between two ASCII bytes of well-formed text is well-formed, and the characters counted in it are its code points.
use Prim.Native.Nat.{ℕ, ◌≤◌}
use native.Mathlib.Omega.{arith}
use mathlib.Core.Path.{refl, sym, subst}
use mathlib.Core.Logic.{◌↔◌}
use mathlib.Core.List.{List, ◌∷◌, ◌++◌}
use Rattle.text.specs.Utf8.{WellFormed}
use Rattle.text.proofs.Boundary.{around_ascii}
use Rattle.text.proofs.Counting.{counts_characters}
use Rattle.label.specs.Label.{label_limit, IsLabel}
use Rattle.label.specs.Claims.{LabelByCodePoints, CodePointsCounted}

by_code_points : (l : List ℕ) → WellFormed l → IsLabel l ↔ LabelByCodePoints l
by_code_points l w = (
  λ i. record {
    text = i.text;
    inked = i.inked;
    few = record { count = w.count; run = w.run; most = subst (λ (n : ℕ). n ≤ label_limit) (counts_characters w.run) i.short };
  },
  λ i. record {
    text = i.text;
    inked = i.inked;
    short = subst (λ (n : ℕ). n ≤ label_limit) (sym (counts_characters i.few.run)) i.few.most;
  },
)

-- what stands between the brackets is well-formed
between : (before l after : List ℕ) → WellFormed (before ++ 91 ∷ (l ++ 93 ∷ after)) → WellFormed l
between before l after w =
    let rest = (around_ascii w.run before 91 (l ++ 93 ∷ after) refl (omega arith)).1 in
    (around_ascii rest.run l 93 after refl (omega arith)).0

pub code_points_counted : CodePointsCounted
code_points_counted =
    record { by_itself = by_code_points; in_text = λ before l after w. by_code_points l (between before l after w) }
