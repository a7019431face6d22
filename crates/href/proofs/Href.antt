-- `href_of` is what the law says, and there is one.
use Prim.Native.Nat.{ℕ}
use mathlib.Core.Path.{◌≡◌, refl, ap}
use mathlib.Core.List.{List, flat_map}
use mathlib.Core.Logic.{◌↔◌}
use Rattle.escaping.specs.Reading.{undone}
use Rattle.escaping.proofs.Escapes.{undone_iff}
use Rattle.href.specs.Href.{href_byte, Href, href}
use Rattle.href.specs.Reading.{href_of}

href_complete : {l w : List ℕ} → Href l w → href_of l ≡ w
href_complete (href {l} {m} u) = ap (flat_map href_byte) ((undone_iff l m).0 u)

pub href_iff : (l w : List ℕ) → Href l w ↔ (href_of l ≡ w)
href_iff l w = (href_complete, (λ e. rw e at (href ((undone_iff l (undone l)).1 refl))))
