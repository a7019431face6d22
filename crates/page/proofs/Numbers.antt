-- The kinds of rows by their numbers.
use Prim.Native.Nat.{ℕ}
use native.Mathlib.Omega.{arith}
use mathlib.Core.Path.{◌≡◌, refl, subst}
use mathlib.Core.List.{List}
use mathlib.Core.Bool.{true, false}
use borrow.Author.Tests.{le-leb, ne_eqb}
use Rattle.marking.specs.Marking.{Sort, link, image, Piece, Marking}
use Rattle.marking.specs.Spans.{pair_span}
use Rattle.texts.specs.Texts.{Texts}
use Rattle.block.specs.Block.{Placed}
use Rattle.row.specs.Row.{Listed}
use Rattle.inline.specs.Tails.{Tail, inline, full, collapsed, shortcut}
use Rattle.note.specs.Note.{MarkingOf}
use Rattle.page.specs.ByRows.{span_of, IsCode, IsSort}
use Rattle.page.specs.Reading.{is_code, is_image}
use Rattle.page.proofs.Pieces.{row_in, PairRow}

pub code_kind : (row : List ℕ) → IsCode row → is_code row ≡ true
code_kind row e = rw e refl

pub sort_kind : (row : List ℕ) (x : Sort) → IsSort x row → is_code row ≡ false
sort_kind row link (lo, hi) = ne_eqb (span_of row).kind 1 (λ e. omega (arith, e))
sort_kind row image (lo, hi) = ne_eqb (span_of row).kind 1 (λ e. omega (arith, e))

pub image_kind : (row : List ℕ) → IsSort image row → is_image row ≡ true
image_kind row (lo, hi) = le-leb 6 (span_of row).kind lo

pub sort_number : (T : Texts) (js : List Listed) (q : Placed) (x : Sort) (o c : Piece) (t : Tail) → IsSort x (row_in T js q (pair_span x o c t))
sort_number T js q link o c (inline n d t) = (omega arith, omega arith)
sort_number T js q link o c (full n k) = (omega arith, omega arith)
sort_number T js q link o c (collapsed k) = (omega arith, omega arith)
sort_number T js q link o c (shortcut k) = (omega arith, omega arith)
sort_number T js q image o c (inline n d t) = (omega arith, omega arith)
sort_number T js q image o c (full n k) = (omega arith, omega arith)
sort_number T js q image o c (collapsed k) = (omega arith, omega arith)
sort_number T js q image o c (shortcut k) = (omega arith, omega arith)

one_sort : (x z : Sort) (row : List ℕ) → IsSort x row → IsSort z row → x ≡ z
one_sort link link row a b = refl
one_sort image image row a b = refl
one_sort link image row (lo, hi) (lo', hi') = absurd (omega arith)
one_sort image link row (lo, hi) (lo', hi') = absurd (omega arith)

-- a row that says that it is of a sort is of that sort
pub sort_by : (T : Texts) (js : List Listed) (q : Placed) (m : Marking Tail) (c : MarkingOf T js q m) (x : Sort) (row : List ℕ) → IsSort x row → PairRow T js q m c row
    → (y : PairRow T js q m c row) × (y.sort ≡ x)
sort_by T js q m c x row k y = (y, one_sort y.sort x row (subst (IsSort y.sort) y.row_is (sort_number T js q y.sort y.opener y.closer y.with_tail)) k)
