-- The row of a span, put part by part.
use Prim.Native.Nat.{ℕ, ◌+◌, ◌*◌, ◌≤◌, ◌<◌}
use native.Mathlib.Omega.{arith}
use mathlib.Core.Path.{◌≡◌, refl, sym, ap, ◌∙◌}
use mathlib.Core.List.{List, [], ◌∷◌, ◌++◌}
use lib.ListN.{length, set}
use Rattle.line.specs.Line.{line_of}
use Rattle.rows.specs.Rows.{put}
use Rattle.rows.proofs.Put.{put_one, put_next, stored_alike}
use Rattle.rows.proofs.Put
use Rattle.row.specs.declared.Range.{Range}
use Rattle.row.specs.Row.{stored_range}
use Rattle.span.specs.declared.Span.{Span}
use Rattle.span.specs.Row.{width, numbers_on, numbers, whole_rows, stored_half, stored_on, stored}

pub half_put : (t : List ℕ) (at n : ℕ) (a b : Range) {x y : List ℕ} → at + 4 < length t → x ≡ stored_range (set t at n) (at + 1) a → y ≡ stored_range x (at + 3) b → y ≡ stored_half t at n a b
half_put t at n a b h ex ey =
    let two = put_next t at (n ∷ []) (a.start ∷ a.end ∷ []) (omega arith) refl (put_one t at n (omega arith)) ex in
    put_next t at (n ∷ a.start ∷ a.end ∷ []) _ (omega arith) refl two ey

module _ (line : ℕ) (t : List ℕ) (k : ℕ) (s : Span) where
  pub no_row : whole_rows t ≤ k → t ≡ stored_on line t k s
  no_row = Put.no_row width (numbers_on line) t k s

  row_put : k < whole_rows t → stored_on line t k s ≡ put t (k * width) (numbers_on line s)
  row_put = Put.row_put width (numbers_on line) t k s

  pub halves_put : {x y : List ℕ} → k < whole_rows t → x ≡ stored_half t (k * width) s.kind s.whole s.text
      → y ≡ stored_half x (k * width + 5) s.definition s.destination s.title → length y ≡ length t → set y (k * width + 10) line ≡ stored_on line t k s
  halves_put {y = y} h ex ey n =
      let a : List ℕ = s.kind ∷ s.whole.start ∷ s.whole.end ∷ s.text.start ∷ s.text.end ∷ [] in
      let b : List ℕ = s.definition ∷ s.destination.start ∷ s.destination.end ∷ s.title.start ∷ s.title.end ∷ [] in
      let two = put_next t (k * width) a b (omega arith) refl ex ey in
      put_next t (k * width) (a ++ b) (line ∷ []) (omega arith) refl two (put_one y (k * width + 10) line (omega arith)) ∙ sym (row_put h)

-- the row on the span's own line, where it is stored
pub stored_line : (s : List ℕ) (t : List ℕ) (k : ℕ) (x : Span) {line : ℕ} → (k < whole_rows t → line ≡ line_of s x.whole.start) → stored_on line t k x ≡ stored s t k x
stored_line s t k x {line} e = stored_alike width (numbers_on line) (numbers s) t k x (λ h. ap (λ (n : ℕ). numbers_on n x) (e h))
