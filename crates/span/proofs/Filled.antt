-- Span rows stored one after the other fill the table.
use Prim.Native.Nat.{ℕ, ◌*◌, ◌≤◌}
use mathlib.Core.Path.{◌≡◌, refl}
use mathlib.Core.List.{List, [], ◌∷◌, ◌++◌}
use lib.ListN.{length, drop}
use Rattle.rows.proofs.Filled
use Rattle.span.specs.declared.Span.{Span}
use Rattle.span.specs.Row.{width, numbers, rows, whole_rows, filled, stored}

module _ (s : List ℕ) where
  wide : (x : Span) → length (numbers s x) ≡ width
  wide x = refl

  pub length_rows : (xs : List Span) → length (rows s xs) ≡ length xs * width
  length_rows = Filled.length_rows width (numbers s) wide

  pub filled_empty : (xs : List Span) → filled s xs [] ≡ []
  filled_empty = Filled.filled_empty width (numbers s)

  pub filled_none : (t : List ℕ) → filled s [] t ≡ t
  filled_none = Filled.filled_none width (numbers s)

  pub length_filled : (xs : List Span) (t : List ℕ) → length (filled s xs t) ≡ length t
  length_filled = Filled.length_filled width (numbers s) wide

  -- where all of them fit
  pub filled_whole : (xs : List Span) (t : List ℕ) → length xs ≤ whole_rows t → filled s xs t ≡ rows s xs ++ drop (length xs * width) t
  filled_whole = Filled.filled_whole width (numbers s) wide

  -- a span more, stored as the next row
  pub store_next : (xs : List Span) (x : Span) (t₀ : List ℕ) {t : List ℕ} {k : ℕ} → t ≡ filled s xs t₀ → k ≡ length xs → stored s t k x ≡ filled s (xs ++ x ∷ []) t₀
  store_next = Filled.store_next width (numbers s) wide
