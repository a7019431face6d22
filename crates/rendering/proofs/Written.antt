-- The page is measured first and then written, if it fits: what stands in the page buffer.
use Rattle.std.specs.Prelude.{Ok}
use Prim.Native.Nat.{ℕ, ◌+◌, ◌≤◌}
use native.Mathlib.Nat.{zero-add}
use native.Mathlib.Omega.{arith}
use mathlib.Core.Path.{◌≡◌, refl, ◌∙◌}
use mathlib.Core.List.{List}
use lib.ListN.{length}
use lib.Seq.{sets-eq}
use Rattle.texts.specs.Texts.{Texts}
use Rattle.buffer.specs.Stored.{Writes}
use Rattle.page.specs.Reading.{page_of}
use Rattle.notice.specs.declared.Counts.{Counts}
use Rattle.rendering.specs.Answers.{written}
use Rattle.rendering.specs.Reading.{page_buffer_of}

-- p is the page buffer, and measuring has counted `size` bytes
pub page_stored : (T : Texts) (p : List ℕ) (c : Counts) {lent left : List ℕ} {size : ℕ} → Writes lent 0 (page_of T) left size → size ≤ length p → {size' : ℕ} {p' : List ℕ} → Writes p 0 (page_of T) p' size'
    → p' ≡ page_buffer_of T (Ok (written c size)) p
page_stored T p c {size = size} w h v =
    let fits : 0 + length (page_of T) ≤ length p = omega (arith, w.size) in
    v.stored ∙ sets-eq (page_of T) p 0 fits ∙ rw (zero-add (length (page_of T))) refl
