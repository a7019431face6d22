-- `character_length` and `good_length` against the law: s begins with a character of n bytes exactly when n is the answer.
use Rattle.std.specs.Prelude.{Some}
use Prim.Native.Nat.{ℕ, ◌≤◌, ◌<◌}
use native.Mathlib.Omega.{arith}
use mathlib.Core.Path.{◌≡◌, refl, sym, ap, ◌∙◌}
use mathlib.Core.Logic.{◌↔◌, ⊎_elim}
use mathlib.Core.Bool.{Bool, true, false, false≢true}
use mathlib.Core.List.{List, [], ◌∷◌, ◌++◌}
use borrow.Author.Tests.{le-leb, leb-true, eqb-true}
use lib.Dec.{eqb, leb}
use lib.ListN.{length, get_or, take, drop, take-append-drop}
use lib.Seq.{length-take-le}
use Rattle.scan.specs.Member.{In}
use Rattle.scan.proofs.Test.{by, and_left, and_right}
use Rattle.scan.proofs.Member.{in_nil, in_cons}
use Rattle.text.specs.Utf8.{ByteRange, table, Fits, Character, GoodCharacter, Begins}
use Rattle.text.specs.Reading.{leads, row_for, starts, length_by, character_length, good_length, barred}
use Rattle.scan.proofs.Below.{every, every_at}
use Rattle.text.proofs.Rows.{starts_length}
use Rattle.text.proofs.ByOnes.{ascii_length}
use Rattle.text.proofs.Table.{table_rises, found, nonempty, listed, fits_length, fits_starts, starts_fits}

-- ---- a character by the table
by_row : (row : List ByteRange) (c rest : List ℕ) → In row table → Fits row c → character_length (c ++ rest) ≡ Some (length c)
unfolding character_length
by_row [] [] rest m f = absurd (nonempty table table_rises m)
by_row [] (b ∷ c) rest m f = absurd f
by_row (r ∷ row) [] rest m f = absurd f
by_row (r ∷ row) (b ∷ c) rest m f =
    let o : leads (r ∷ row) b ≡ true = rw (le-leb _ _ f.0, le-leb _ _ f.1) in
    rw (found table table_rises m b o, fits_starts (r ∷ row) (b ∷ c) rest f) (ap Some (fits_length (r ∷ row) (b ∷ c) f))

pub character_complete : {s : List ℕ} {n : ℕ} → Begins Character s n → character_length s ≡ Some n
character_complete w = rw w.whole (by_row w.class.row w.one w.rest w.class.listed w.class.fits ∙ ap Some w.size)

begins_row : (row : List ByteRange) (s : List ℕ) (n : ℕ) → In row table → starts row s ≡ true → length row ≡ n → Begins Character s n
begins_row row s n m w e =
    let h : n ≤ length s = rw e at (starts_length row s w) in
    record {
      one = take n s;
      rest = drop n s;
      whole = sym (take-append-drop n s);
      size = length-take-le n s h;
      class = record { row = row; listed = m; fits = rw e at (starts_fits row s w) };
    }

by_found : (row : List ByteRange) (s : List ℕ) (n : ℕ) → (0 < length row → In row table) → length_by row s ≡ Some n → Begins Character s n
by_found [] s n m e = absurd cc
by_found (r ∷ row) s n m e =
    by (starts (r ∷ row) s)
    (λ w. let k : length (r ∷ row) ≡ n = let f = rw w at e in cc in begins_row (r ∷ row) s n (m (omega arith)) w k)
    (λ w. let f = rw w at e in absurd cc)

pub character_sound : (s : List ℕ) (n : ℕ) → character_length s ≡ Some n → Begins Character s n
unfolding character_length
character_sound s n e =
    by_found (row_for table (get_or s 0 0)) s n (listed table (get_or s 0 0)) e

pub character_length_lem : (s : List ℕ) (n : ℕ) → (character_length s ≡ Some n) ↔ Begins Character s n
character_length_lem s n = (character_sound s n, character_complete)

pub character_unique : {s : List ℕ} {n m : ℕ} → Begins Character s n → Begins Character s m → n ≡ m
character_unique v w = let e = character_complete v in let f = character_complete w in cc

-- ---- the bytes after the first are not ASCII: one test over the table
high : ByteRange → Bool
high r = leb 128 r.low

later_high : List ByteRange → Bool
later_high row = every high (drop 1 row)

table_high : every later_high table ≡ true
unfolding table later_high high
table_high = refl

high_byte : (row : List ByteRange) (c : List ℕ) → every high row ≡ true → Fits row c → {b : ℕ} → In b c → 128 ≤ b
unfolding high
high_byte [] [] e f m = absurd (in_nil m)
high_byte [] (x ∷ c) e f m = absurd f
high_byte (r ∷ row) [] e f m = absurd f
high_byte (r ∷ row) (x ∷ c) e f {b} m =
    ⊎_elim (λ q. let l : 128 ≤ r.low = leb-true 128 r.low (and_left (high r) (every high row) e) in let g = f.0 in omega arith)
    (λ k. high_byte row c (and_right (high r) (every high row) e) f.2 k) (in_cons c m)

later_by : (row : List ByteRange) (x : ℕ) (c : List ℕ) → later_high row ≡ true → Fits row (x ∷ c) → {b : ℕ} → In b c → 128 ≤ b
unfolding later_high
later_by [] x c e f m = absurd f
later_by (r ∷ row) x c e f m = high_byte row c e f.2 m

pub later_byte : {x : ℕ} {c : List ℕ} → Character (x ∷ c) → {b : ℕ} → In b c → 128 ≤ b
later_byte {x} {c} w m = later_by w.row x c (every_at later_high table table_high w.listed) w.fits m

-- ---- a good character
size_by : (row : List ByteRange) (c : List ℕ) → In row table → Fits row c → 0 < length c
size_by [] [] m f = absurd (nonempty table table_rises m)
size_by (r ∷ row) [] m f = absurd f
size_by [] (b ∷ c) m f = absurd f
size_by (r ∷ row) (b ∷ c) m f = omega arith

pub character_size : {c : List ℕ} → Character c → 0 < length c
character_size {c} w = size_by w.row c w.listed w.fits

-- a character that starts with an ASCII byte is that byte
pub alone : (b : ℕ) (c : List ℕ) → Character (b ∷ c) → b < 128 → c ≡ []
alone b [] w h = refl
alone b (x ∷ c) w h =
    let e = by_row w.row (b ∷ x ∷ c) [] w.listed w.fits in
    let a = ascii_length b ((x ∷ c) ++ []) h in
    let f : 1 ≡ length (b ∷ x ∷ c) = cc in
    let no : ⊥ = omega arith in absurd no

pub barred_cases : {P : Type 0} (b : ℕ) → barred b ≡ true → (b ≡ 0 → P) → (b ≡ 13 → P) → P
barred_cases b t f g = by (eqb b 0) (λ e. f (eqb-true b 0 e)) (λ e. g (eqb-true b 13 (rw e at t)))

pub not_barred : (c rest : List ℕ) → GoodCharacter c → barred (get_or (c ++ rest) 0 0) ≡ false
not_barred [] rest w = let no : ⊥ = omega (arith, character_size w.character) in absurd no
not_barred (b ∷ c) rest w =
    by (barred b) (λ t. absurd (barred_cases b t
    (λ e. w.not_0 (rw (alone b c w.character (omega arith), e)))
    (λ e. w.not_13 (rw (alone b c w.character (omega arith), e))))) (λ f. f)

pub good_complete : {s : List ℕ} {n : ℕ} → Begins GoodCharacter s n → good_length s ≡ Some n
unfolding good_length
good_complete {s} w =
    let f : barred (get_or s 0 0) ≡ false = rw w.whole (not_barred w.one w.rest w.class) in
    rw f (character_complete (record { one = w.one; rest = w.rest; whole = w.whole; size = w.size; class = w.class.character }))

-- a text whose first byte is not barred begins with no barred byte alone
first_byte : {s : List ℕ} {n : ℕ} (w : Begins Character s n) → barred (get_or s 0 0) ≡ false → (b : ℕ) → barred b ≡ true → w.one ≡ b ∷ [] → ⊥
first_byte {s} w f b t q =
    let e : get_or s 0 0 ≡ b = ap (λ (l : List ℕ). get_or l 0 0) (w.whole ∙ ap (λ (l : List ℕ). l ++ w.rest) q) in
    false≢true (sym f ∙ ap barred e ∙ t)

pub good_sound : (s : List ℕ) (n : ℕ) → good_length s ≡ Some n → Begins GoodCharacter s n
unfolding good_length
good_sound s n e =
    by (barred (get_or s 0 0))
    (λ t. let k = rw t at e in absurd cc)
    (λ f. let w : Begins Character s n = character_sound s n (rw f at e) in
    record {
      one = w.one;
      rest = w.rest;
      whole = w.whole;
      size = w.size;
      class = record { character = w.class; not_0 = first_byte w f 0 refl; not_13 = first_byte w f 13 refl };
    })

pub good_length_lem : (s : List ℕ) (n : ℕ) → (good_length s ≡ Some n) ↔ Begins GoodCharacter s n
good_length_lem s n = (good_sound s n, good_complete)
