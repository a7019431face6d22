-- How long a code span on the page can be.
use Prim.Native.Nat.{ℕ, ◌+◌, ◌*◌, ◌≤◌}
use native.Mathlib.Omega.{arith}
use mathlib.Core.List.{List}
use mathlib.Core.Bool.{Bool, true, false}
use lib.ListN.{length, length-append, length-map, length-take, length-drop}
use Rattle.escaping.specs.Escaping.{escaped}
use Rattle.escaping.proofs.Lengths.{escaped_most, each_most}
use Rattle.code.specs.Code.{code_close}
use Rattle.code.specs.Reading.{code_content, code_of, code_element}

pub content_most : (l : List ℕ) → length (code_content l) ≤ length l
content_most l = simp (length-map, length-take, length-drop) (omega arith)

pub code_most : (l : List ℕ) → length (code_of l) ≤ 6 * length l
code_most l = omega (arith, each_most escaped escaped_most (code_content l), content_most l)

pub code_span_most : (tags : Bool) (l : List ℕ) → length (code_element tags l) ≤ 13 + 6 * length l
code_span_most true l = omega (arith, code_most l, length-append (code_of l) code_close)
code_span_most false l = omega (arith, code_most l)
