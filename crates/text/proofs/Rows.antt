-- What finding a row by its first byte, and holding a text against it, tell.
use Rattle.std.specs.Prelude.{Some}
use Prim.Native.Nat.{ℕ, ◌≤◌, ◌<◌, zero-le, suc-le-suc}
use native.Mathlib.Omega.{arith}
use mathlib.Core.Path.{◌≡◌, refl}
use mathlib.Core.Bool.{true, false, false≢true, ◌&&◌}
use mathlib.Core.List.{List, [], ◌∷◌}
use lib.Dec.{leb}
use lib.ListN.{length, get_or, drop}
use Rattle.scan.proofs.Test.{by, and_right}
use Rattle.text.specs.Utf8.{ByteRange, table}
use Rattle.text.specs.Reading.{covers, leads, row_for, starts, length_by, character_length, good_length, barred}

-- ---- the row of a first byte
module _ (row : List ByteRange) (rows : List (List ByteRange)) (b : ℕ) where
  pub row_here : leads row b ≡ true → row_for (row ∷ rows) b ≡ row
  unfolding row_for
  row_here e = rw (e, row_for)

  pub row_later : leads row b ≡ false → row_for (row ∷ rows) b ≡ row_for rows b
  unfolding row_for
  row_later e = rw (e, row_for)

-- ---- a text against a row
pub starts_length : (row : List ByteRange) (s : List ℕ) → starts row s ≡ true → length row ≤ length s
unfolding starts
starts_length [] s e = zero-le
starts_length (r ∷ row) [] e = absurd (false≢true e)
starts_length (r ∷ row) (b ∷ s) e = suc-le-suc (starts_length row s (and_right (covers r b) (starts row s) e))

-- past the end `get_or` gives 0, which lies in no range that starts higher
pub starts_cons : (r : ByteRange) (row : List ByteRange) (s : List ℕ) → leb r.low 0 ≡ false → starts (r ∷ row) s ≡ (covers r (get_or s 0 0) && starts row (drop 1 s))
unfolding starts
starts_cons r row [] e = simp e
starts_cons r row (b ∷ s) e = refl

starts_opened : (row : List ByteRange) (b : ℕ) (s : List ℕ) → leads row b ≡ true → starts row (b ∷ s) ≡ starts (drop 1 row) s
unfolding starts
starts_opened [] b s e = refl
starts_opened (r ∷ row) b s e = simp e

-- a row that was found by the first byte is held against the bytes after it
pub starts_found : (rows : List (List ByteRange)) (b : ℕ) (s : List ℕ) → starts (row_for rows b) (b ∷ s) ≡ starts (drop 1 (row_for rows b)) s
unfolding starts row_for
starts_found [] b s = refl
starts_found (row ∷ rows) b s =
    by (leads row b) (λ e. rw (row_here row rows b e) (starts_opened row b s e)) (λ e. rw (row_later row rows b e) (starts_found rows b s))

-- ---- a character has one byte or more, and no more than are left
by_size : (row : List ByteRange) (s : List ℕ) {n : ℕ} → length_by row s ≡ Some n → (0 < n) × (n ≤ length s)
by_size [] s e = absurd cc
by_size (r ∷ row) s {n} e =
    by (starts (r ∷ row) s)
    (λ w. let h = starts_length (r ∷ row) s w in let q : length (r ∷ row) ≡ n = let f = rw w at e in cc in (omega arith, omega arith))
    (λ w. let f = rw w at e in absurd cc)

pub good_size : (s : List ℕ) {n : ℕ} → good_length s ≡ Some n → (0 < n) × (n ≤ length s)
unfolding good_length character_length
good_size s e =
    by (barred (get_or s 0 0)) (λ b. let f = rw b at e in absurd cc) (λ b. by_size (row_for table (get_or s 0 0)) s (rw b at e))
