-- The rows of definitions, put part by part.
use Prim.Native.Nat.{ℕ, ◌+◌, ◌*◌, ◌≤◌, ◌<◌}
use native.Mathlib.Omega.{arith}
use mathlib.Core.Path.{◌≡◌, refl, sym, ap, ◌∙◌}
use mathlib.Core.List.{List, [], ◌∷◌, ◌++◌}
use lib.ListN.{length, set}
use Rattle.line.specs.Line.{line_of}
use Rattle.rows.specs.Rows.{put}
use Rattle.rows.proofs.Put.{put_one, put_next, stored_alike}
use Rattle.rows.proofs.Put
use Rattle.row.specs.declared.Definition.{Definition}
use Rattle.row.specs.Row.{width, numbers_on, numbers_in, opening, whole_rows, stored_range, stored_on, stored}

module _ (k line : ℕ) (t : List ℕ) (n : ℕ) (d : Definition) where
  pub no_row : whole_rows t ≤ n → t ≡ stored_on k line t n d
  no_row = Put.no_row width (numbers_on k line) t n d

  row_put : n < whole_rows t → stored_on k line t n d ≡ put t (n * width) (numbers_on k line d)
  row_put = Put.row_put width (numbers_on k line) t n d

  pub parts_put : {w x y z : List ℕ} → n < whole_rows t → w ≡ set t (n * width) k → x ≡ stored_range w (n * width + 1) d.label → y ≡ stored_range x (n * width + 3) d.destination
      → z ≡ stored_range y (n * width + 5) d.title → length z ≡ length t → set z (n * width + 7) line ≡ stored_on k line t n d
  parts_put {z = z} h ew ex ey ez e =
      let a : List ℕ = k ∷ [] in
      let l : List ℕ = d.label.start ∷ d.label.end ∷ [] in
      let m : List ℕ = d.destination.start ∷ d.destination.end ∷ [] in
      let o : List ℕ = d.title.start ∷ d.title.end ∷ [] in
      let one = ew ∙ put_one t (n * width) k (omega arith) in
      let two = put_next t (n * width) a l (omega arith) refl one ex in
      let three = put_next t (n * width) (a ++ l) m (omega arith) refl two ey in
      let four = put_next t (n * width) (a ++ l ++ m) o (omega arith) refl three ez in
      put_next t (n * width) (a ++ l ++ m ++ o) (line ∷ []) (omega arith) refl four (put_one z (n * width + 7) line (omega arith)) ∙ sym (row_put h)

-- the row on the definition's own line, where it is stored
pub stored_line : (k : ℕ) (s : List ℕ) (t : List ℕ) (n : ℕ) (d : Definition) {line : ℕ} → (n < whole_rows t → line ≡ line_of s (opening d)) → stored_on k line t n d ≡ stored k s t n d
stored_line k s t n d {line} e = stored_alike width (numbers_on k line) (numbers_in k s) t n d (λ h. ap (λ (i : ℕ). numbers_on k i d) (e h))
