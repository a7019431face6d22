-- What holds of what a byte of a text is on the page, by its cases.
use Prim.Native.Nat.{ℕ}
use mathlib.Core.Path.{◌≡◌, refl}
use mathlib.Core.List.{List, [], ◌∷◌}
use mathlib.Core.Bool.{false}
use lib.Dec.{eqb}
use Rattle.scan.specs.Ascii.{ascii}
use Rattle.scan.proofs.Test.{by}
use Rattle.escaping.specs.Escaping.{escaped}
use Rattle.escaping.specs.Clean.{among}

pub on_escaped : (P : List ℕ → Type 0) (b : ℕ) → P (ascii "&amp;") → P (ascii "&lt;") → P (ascii "&gt;") → P (ascii "&quot;")
    → (among (ascii "&<>\"") b ≡ false → P (b ∷ [])) → P (escaped b)
unfolding escaped
on_escaped P b amp lt gt quot other =
    by (eqb b 38) (λ e. rw e amp)
    (λ e1. by (eqb b 60) (λ e. rw (e1, e) lt)
    (λ e2. by (eqb b 62) (λ e. rw (e1, e2, e) gt)
    (λ e3. by (eqb b 34) (λ e. rw (e1, e2, e3, e) quot) (λ e4. rw (e1, e2, e3, e4) (other (rw (e1, e2, e3, e4) refl))))))
