-- The rows of the table have first bytes apart from one another, so a character's first byte tells its row.
use Prim.Native.Nat.{ℕ, suc, ◌<◌}
use native.Mathlib.Nat.{lt_of_lt_of_le, not-suc-le-zero}
use native.Mathlib.Omega.{arith}
use mathlib.Core.Path.{◌≡◌, refl, sym, ap, ◌∙◌}
use mathlib.Core.Logic.{⊎_elim}
use mathlib.Core.Bool.{Bool, true, false, false≢true, ◌&&◌}
use mathlib.Core.List.{List, [], ◌∷◌, ◌++◌}
use borrow.Author.Tests.{ltb-true, leb-true, le-leb, lt-leb}
use lib.Dec.{leb, ltb}
use lib.ListN.{length, take}
use Rattle.scan.specs.Member.{In}
use Rattle.scan.proofs.Test.{by, and_left, and_right, and_false}
use Rattle.scan.proofs.Member.{in_nil, in_here, in_later, in_cons}
use Rattle.text.specs.Utf8.{ByteRange, table, Fits}
use Rattle.text.specs.Reading.{covers, leads, row_for, starts}
use Rattle.text.proofs.Rows.{row_here, row_later}

-- ---- the first ranges rise
abbrev beyond : ℕ → List (List ByteRange) → Bool
beyond h [] = true
beyond h ([] ∷ rows) = false
beyond h ((r ∷ row) ∷ rows) = ltb h r.low && beyond h rows

abbrev rising : List (List ByteRange) → Bool
rising [] = true
rising ([] ∷ rows) = false
rising ((r ∷ row) ∷ rows) = beyond r.high rows && rising rows

pub table_rises : rising table ≡ true
unfolding table
table_rises = refl

beyond_at : (h : ℕ) (rows : List (List ByteRange)) → beyond h rows ≡ true → {row : List ByteRange} → In row rows → (b : ℕ) → leads row b ≡ true → h < b
beyond_at h [] e m b o = absurd (in_nil m)
beyond_at h ([] ∷ rows) e m b o = absurd (false≢true e)
beyond_at h ((r ∷ row) ∷ rows) e m b o =
    ⊎_elim (λ q. lt_of_lt_of_le (ltb-true _ _ (and_left (ltb h r.low) (beyond h rows) e)) (leb-true _ _ (and_left (leb r.low b) (leb b r.high) (rw q at o))))
    (λ k. beyond_at h rows (and_right (ltb h r.low) (beyond h rows) e) k b o) (in_cons rows m)

-- a row that can start with b is the row that is found for b
pub found : (rows : List (List ByteRange)) → rising rows ≡ true → {row : List ByteRange} → In row rows → (b : ℕ) → leads row b ≡ true → row_for rows b ≡ row
found [] e m b o = absurd (in_nil m)
found ([] ∷ rows) e m b o = absurd (false≢true e)
found ((r ∷ row) ∷ rows) e m b o =
    ⊎_elim (λ q. row_here (r ∷ row) rows b (rw q at o) ∙ sym q)
    (λ k. let h : r.high < b = beyond_at r.high rows (and_left (beyond r.high rows) (rising rows) e) k b o in
    row_later (r ∷ row) rows b (rw (lt-leb b r.high h) (and_false (leb r.low b)))
    ∙ found rows (and_right (beyond r.high rows) (rising rows) e) k b o)
    (in_cons rows m)

-- no row is empty
pub nonempty : (rows : List (List ByteRange)) → rising rows ≡ true → In [] rows → ⊥
nonempty [] e m = in_nil m
nonempty ([] ∷ rows) e m = false≢true e
nonempty ((r ∷ row) ∷ rows) e m =
    ⊎_elim (λ q. let z : ◌≡◌ {A = ℕ} 0 1 = cc in omega arith) (λ k. nonempty rows (and_right (beyond r.high rows) (rising rows) e) k) (in_cons rows m)

-- what is found stands in the table
pub listed : (rows : List (List ByteRange)) (b : ℕ) → 0 < length (row_for rows b) → In (row_for rows b) rows
unfolding row_for
listed [] b h = absurd (not-suc-le-zero h)
listed (row ∷ rows) b h =
    by (leads row b) (λ e. rw (row_here row rows b e) (in_here rows refl))
    (λ e. rw (row_later row rows b e) (in_later rows (listed rows b (rw (row_later row rows b e) at h))))

-- ---- `Fits` and `starts`
pub fits_length : (row : List ByteRange) (c : List ℕ) → Fits row c → length row ≡ length c
fits_length [] [] f = refl
fits_length [] (b ∷ c) f = absurd f
fits_length (r ∷ row) [] f = absurd f
fits_length (r ∷ row) (b ∷ c) f = ap suc (fits_length row c f.2)

pub fits_starts : (row : List ByteRange) (c rest : List ℕ) → Fits row c → starts row (c ++ rest) ≡ true
unfolding starts
fits_starts [] [] rest f = refl
fits_starts [] (b ∷ c) rest f = absurd f
fits_starts (r ∷ row) [] rest f = absurd f
fits_starts (r ∷ row) (b ∷ c) rest f = rw (le-leb _ _ f.0, le-leb _ _ f.1) (fits_starts row c rest f.2)

pub starts_fits : (row : List ByteRange) (s : List ℕ) → starts row s ≡ true → Fits row (take (length row) s)
unfolding starts
starts_fits [] s e = tt
starts_fits (r ∷ row) [] e = absurd (false≢true e)
starts_fits (r ∷ row) (b ∷ s) e =
    let h : covers r b ≡ true = and_left (covers r b) (starts row s) e in
    (leb-true _ _ (and_left (leb r.low b) (leb b r.high) h), leb-true _ _ (and_right (leb r.low b) (leb b r.high) h), starts_fits row s (and_right (covers r b) (starts row s) e))
