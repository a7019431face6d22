-- Span rows stored one after the other fill the table, be they spans or lists of numbers.
use Prim.Native.Nat.{ℕ, zero, suc}
use mathlib.Core.Path.{◌≡◌, refl, ap}
use mathlib.Core.List.{List, [], ◌∷◌, ◌++◌, map, map-map}
use lib.ListN.{length, take}
use Rattle.marking.specs.Spans as marked
use Rattle.rows.specs.Rows
use Rattle.rows.proofs.Filled as rows
use Rattle.row.specs.declared.Definition.{Definition}
use Rattle.span.specs.declared.Span.{Span}
use Rattle.span.specs.Row.{width, numbers, whole_rows, filled}
use Rattle.inline.specs.Tails.{Tail}
use Rattle.inline.specs.ReadingRows.{row_for, span_row}
use Rattle.step.specs.Reading.{stored_all}
use Rattle.paragraphs.specs.Spans.{span_numbers, spans_filled}

module _ (s : List ℕ) where
  pub store_all : (t₀ : List ℕ) (passed xs : List Span) {t : List ℕ} {k : ℕ} → t ≡ filled s passed t₀ → k ≡ length passed → stored_all s t k xs ≡ filled s (passed ++ xs) t₀
  store_all = rows.store_all width (numbers s) (λ x. refl)

  taken_numbers : (n : ℕ) (xs : List Span) → span_numbers (take n (map (numbers s) xs)) ≡ Rows.rows (numbers s) (take n xs)
  unfolding Rows.rows
  taken_numbers zero xs = refl
  taken_numbers (suc n) [] = refl
  taken_numbers (suc n) (x ∷ xs) = ap (λ (l : List ℕ). numbers s x ++ l) (taken_numbers n xs)

  pub filled_numbers : (xs : List Span) (t : List ℕ) → filled s xs t ≡ spans_filled (map (numbers s) xs) t
  unfolding Rows.filled
  filled_numbers xs t = rw (taken_numbers (whole_rows t) xs)

  -- the numbers of a span's row
  pub numbers_for : (offset : ℕ) (p : List ℕ) (ds : List Definition) (xs : List (marked.Span Tail)) → map (numbers s) (map (row_for offset p ds) xs) ≡ map (span_row s offset p ds) xs
  numbers_for offset p ds xs = map-map (numbers s) (row_for offset p ds) xs
