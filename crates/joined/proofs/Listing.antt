-- A table that holds the joined list, row by row.
use Prim.Native.Nat.{ℕ, ◌≤◌, ◌<◌}
use native.Mathlib.Nat.{zero-add}
use mathlib.Core.Path.{◌≡◌, sym, ap, ◌∙◌}
use mathlib.Core.List.{List}
use lib.ListN.{length, get_or, take}
use Rattle.texts.specs.Texts.{Texts}
use Rattle.row.specs.Row.{Listed}
use Rattle.row.specs.First.{past_end}
use Rattle.row.specs.Reading.{listed_at, listed_from}
use Rattle.row.proofs.Filled.{entry_at, entries_taken}
use Rattle.joined.specs.Reading.{joined, Listing}

module _ {T : Texts} {t : List ℕ} (l : Listing T t) where
  pub row_entry : {k : ℕ} → k < length (joined T) → get_or (joined T) k past_end ≡ listed_at t k
  row_entry {k} h =
      sym (ap (λ (js : List Listed). get_or js k past_end) l.rows_are)
      ∙ entry_at t 0 (length (joined T)) k h
      ∙ ap (λ (j : ℕ). listed_at t j) (zero-add k)

  pub rows_taken : {k : ℕ} → k ≤ length (joined T) → listed_from t 0 k ≡ take k (joined T)
  rows_taken {k} h = entries_taken t 0 (length (joined T)) k h ∙ ap (take k) l.rows_are
