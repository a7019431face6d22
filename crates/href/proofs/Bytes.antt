-- What a byte of a destination is in an href, and what holds of it, by its cases.
use Prim.Native.Nat.{ℕ}
use mathlib.Core.Path.{◌≡◌, sym, ◌∙◌}
use mathlib.Core.List.{List, [], ◌∷◌}
use mathlib.Core.Bool.{Bool, true, false, ◌||◌}
use borrow.Author.Tests.{eq-eqb, ne_eqb}
use lib.Dec.{eqb}
use Rattle.scan.proofs.Test.{by, or_assoc, or_false}
use Rattle.scan.specs.Ascii.{ascii}
use Rattle.escaping.specs.Clean.{among}
use Rattle.href.specs.Href.{stays, percent, href_byte}

pub staying : (b : ℕ) → stays b ≡ true → href_byte b ≡ b ∷ []
unfolding href_byte
staying b e = simp e

pub on_href : (P : List ℕ → Type 0) (b : ℕ) → (stays b ≡ true → P (b ∷ [])) → P (ascii "&amp;") → P (percent b) → P (href_byte b)
unfolding href_byte
on_href P b same amp other = by (stays b) (λ e. rw e (same e)) (λ e1. by (eqb b 38) (λ e. rw (e1, e) amp) (λ e2. rw (e1, e2) other))
