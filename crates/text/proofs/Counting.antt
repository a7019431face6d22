-- A character's first byte tells its length and no other byte of it starts a sequence, so a text of n characters has n bytes that start one.
use Rattle.std.specs.Prelude.{None, Option, Some}
use Prim.Native.Nat.{ℕ, suc, ◌+◌, ◌-◌, ◌≤◌}
use native.Mathlib.Nat.{zero-add}
use native.Mathlib.Omega.{arith}
use mathlib.Core.Path.{◌≡◌, refl, ap, ◌∙◌}
use mathlib.Core.Bool.{Bool, true, false, false≢true, cond, not, ◌&&◌}
use mathlib.Core.List.{List, [], ◌∷◌, ◌++◌}
use borrow.Author.Tests.{eqb-true, not-true}
use Rattle.std.proofs.lemmas.List.Sums.{sum_by-cons, sum_by-append}
use lib.Dec.{eqb}
use lib.ListN.{length}
use Rattle.scan.proofs.Test.{and_left, and_right}
use Rattle.text.specs.Utf8.{ByteRange, table, Fits, Character, Run, none, more}
use Rattle.text.specs.Sequences.{ones_from, leading_ones, sequence_length, starts_sequence, characters}
use Rattle.text.specs.Claims.{SequencesCounted}
use Rattle.scan.proofs.Below.{all, at, every, every_at}
use Rattle.text.proofs.Table.{fits_length}

-- ---- a test that holds of each byte of a range
each : (ℕ → Bool) → ByteRange → Bool
each f r = all (λ k. f (r.low + k)) (suc r.high - r.low)

of_each : (f : ℕ → Bool) (r : ByteRange) → each f r ≡ true → (b : ℕ) → r.low ≤ b → b ≤ r.high → f b ≡ true
unfolding each
of_each f r e b l h =
    let p : r.low + (b - r.low) ≡ b = omega arith in
    rw p at (at (λ k. f (r.low + k)) (suc r.high - r.low) e (b - r.low) (omega arith))

-- ---- one test over the rows of the table: each byte of a first range announces the row's length
is_size : ℕ → Option ℕ → Bool
is_size n None = false
is_size n (Some m) = eqb m n

told_size : (n : ℕ) (a : Option ℕ) → is_size n a ≡ true → a ≡ Some n
unfolding is_size
told_size n None e = absurd (false≢true e)
told_size n (Some m) e = ap Some (eqb-true m n e)

announced : List ByteRange → Bool
announced [] = false
announced (r ∷ row) = each (λ b. is_size (length (r ∷ row)) (sequence_length b)) r

table_announced : every announced table ≡ true
unfolding table announced each is_size sequence_length leading_ones ones_from
table_announced = refl

announces : (row : List ByteRange) (b : ℕ) (c : List ℕ) → announced row ≡ true → Fits row (b ∷ c) → sequence_length b ≡ Some (length (b ∷ c))
unfolding announced
announces [] b c e f = absurd f
announces (r ∷ row) b c e f =
    told_size (length (r ∷ row)) (sequence_length b) (of_each (λ b. is_size (length (r ∷ row)) (sequence_length b)) r e b f.0 f.1)
    ∙ ap Some (fits_length (r ∷ row) (b ∷ c) f)

first_byte : (b : ℕ) (c : List ℕ) → Character (b ∷ c) → sequence_length b ≡ Some (length (b ∷ c))
first_byte b c w = announces w.row b c (every_at announced table table_announced w.listed) w.fits

-- ---- another: each byte of a first range starts a sequence, and no byte of a later range does
apart : ℕ → Bool
apart b = not (starts_sequence b)

once : List ByteRange → Bool
once [] = false
once (r ∷ row) = each starts_sequence r && every (each apart) row

table_once : every once table ≡ true
unfolding table once each apart sequence_length leading_ones ones_from
table_once = refl

one_more : (b : ℕ) (c : List ℕ) → starts_sequence b ≡ true → characters (b ∷ c) ≡ 1 + characters c
unfolding characters
one_more b c e = sum_by-cons (λ x. cond (starts_sequence x) 1 0) b c ∙ rw e

no_more : (b : ℕ) (c : List ℕ) → starts_sequence b ≡ false → characters (b ∷ c) ≡ characters c
unfolding characters
no_more b c e = sum_by-cons (λ x. cond (starts_sequence x) 1 0) b c ∙ rw (e, zero-add)

later : (row : List ByteRange) (c : List ℕ) → every (each apart) row ≡ true → Fits row c → characters c ≡ 0
unfolding characters apart
later [] [] e f = refl
later [] (b ∷ c) e f = absurd f
later (r ∷ row) [] e f = absurd f
later (r ∷ row) (b ∷ c) e f =
    no_more b c (not-true _ (of_each apart r (and_left (each apart r) (every (each apart) row) e) b f.0 f.1))
    ∙ later row c (and_right (each apart r) (every (each apart) row) e) f.2

one : (row : List ByteRange) (c : List ℕ) → once row ≡ true → Fits row c → characters c ≡ 1
unfolding once
one [] c e f = absurd (false≢true e)
one (r ∷ row) [] e f = absurd f
one (r ∷ row) (b ∷ c) e f =
    one_more b c (of_each starts_sequence r (and_left (each starts_sequence r) (every (each apart) row) e) b f.0 f.1)
    ∙ rw (later row c (and_right (each starts_sequence r) (every (each apart) row) e) f.2)

one_character : {c : List ℕ} → Character c → characters c ≡ 1
one_character {c} w = one w.row c (every_at once table table_once w.listed) w.fits

-- ---- the theorems
characters_append : (l m : List ℕ) → characters (l ++ m) ≡ characters l + characters m
unfolding characters
characters_append l m = sum_by-append (λ x. cond (starts_sequence x) 1 0) l m

pub counts_characters : {s : List ℕ} {n : ℕ} → Run Character s n → characters s ≡ n
unfolding characters
counts_characters none = refl
counts_characters (more {c = c} {s = s} {n = n} w r) =
    let e : characters c ≡ 1 = one_character w in
    let f : characters s ≡ n = counts_characters r in
    characters_append c s ∙ omega arith

pub sequences_counted : SequencesCounted
sequences_counted =
    record {
      size = first_byte;
      ill_formed = λ b c e w. let f = first_byte b c w in absurd cc;
      code_points = λ s n r. counts_characters r;
    }
