-- Ranges of a paragraph run forward: no row is empty, and the text of a link or an image lies within its span.
use Prim.Native.Nat.{ℕ, ◌≤◌, ◌<◌}
use native.Mathlib.Omega.{arith}
use mathlib.Core.Path.{◌≡◌, ap}
use mathlib.Core.List.{List}
use mathlib.Core.Bool.{false}
use Rattle.scan.specs.Member.{In}
use Rattle.texts.specs.Texts.{Texts}
use Rattle.block.specs.Block.{Placed}
use Rattle.row.specs.declared.Range.{Range}
use Rattle.row.specs.Row.{Listed}
use Rattle.inline.specs.Rows.{row_end}
use Rattle.page.specs.ByRows.{RangeIs}
use Rattle.page.specs.ByRows as by_rows
use Rattle.page.specs.Reading.{is_code, row_start, text_start, text_end}

pub record Proper (rows : List (List ℕ)) : Type 0 where
  pub some_bytes : (row : List ℕ) → In row rows → row_start row < row_end row
  pub text_lies : (row : List ℕ) → In row rows → is_code row ≡ false → (row_start row < text_start row) × (text_start row ≤ text_end row) × (text_end row < row_end row)

module _ (T : Texts) (js : List Listed) (rows : List (List ℕ)) (h : Proper rows) (q : Placed) where
  pub ordered : {a b : ℕ} {v : List ℕ} → RangeIs T js rows q a b v → a ≤ b
  ordered by_rows.nothing = omega arith
  ordered (by_rows.beside x y) = omega (arith, ordered x, ordered y)
  ordered (by_rows.escape f e) = omega arith
  ordered (by_rows.byte f l e) = omega arith
  ordered (by_rows.a_code_span {row = row} i k e u t) = omega (arith, h.some_bytes row i, ap (λ (r : Range). r.start) e, ap (λ (r : Range). r.end) e)
  ordered (by_rows.pair x b {row = row} i k e t u p p' r) = omega (arith, h.some_bytes row i, ap (λ (r : Range). r.start) e, ap (λ (r : Range). r.end) e)
