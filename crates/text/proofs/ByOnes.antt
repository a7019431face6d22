-- The table's answer at a first byte is the one by leading ones: one test computed over the 256 bytes.
use Rattle.std.specs.Prelude.{None, Option, Some}
use Prim.Native.Nat.{ℕ, suc, ◌+◌, ◌-◌, ◌≤◌, ◌<◌, zero-le}
use native.Mathlib.Nat.{add-zero}
use native.Mathlib.Omega.{arith}
use mathlib.Core.Path.{◌≡◌, refl, sym, ap, ap₂, ◌∙◌}
use mathlib.Core.Bool.{Bool, true, false, false≢true, cond, ◌&&◌, ◌||◌}
use mathlib.Core.List.{List, [], ◌∷◌}
use borrow.Author.Tests.{eqb-true, le-ltb, le-leb, ltb-true, ltb-false}
use lib.Dec.{eqb, leb, ltb}
use lib.ListN.{length, get_or, take, drop, drop_of_length-le}
use lib.Seq.{take-nil, get_or-drop, drop-drop}
use Rattle.scan.proofs.Test.{by, and_left, and_right, and_assoc}
use Rattle.scan.proofs.Scan.{at_cons}
use Rattle.text.specs.Utf8.{ByteRange, ◌‥◌, table}
use Rattle.text.specs.Sequences.{ones_from, leading_ones, sequence_length}
use Rattle.text.specs.Reading.{covers, leads, row_for, starts, length_by, character_length, lead, least, most, second, continuation}
use Rattle.scan.proofs.Below.{at}
use Rattle.text.proofs.Rows.{row_here, starts_cons, starts_found}

-- ---- equal rows, as a test
abbrev same : List ByteRange → List ByteRange → Bool
same [] [] = true
same [] (q ∷ l) = false
same (r ∷ k) [] = false
same (r ∷ k) (q ∷ l) = eqb r.low q.low && (eqb r.high q.high && same k l)

same_range : (r q : ByteRange) → r.low ≡ q.low → r.high ≡ q.high → r ≡ q
same_range r q e f = λ i. record { low = e i; high = f i }

same_eq : (k l : List ByteRange) → same k l ≡ true → k ≡ l
same_eq [] [] e = refl
same_eq [] (q ∷ l) e = absurd (false≢true e)
same_eq (r ∷ k) [] e = absurd (false≢true e)
same_eq (r ∷ k) (q ∷ l) e =
    let low = eqb r.low q.low in
    let high = eqb r.high q.high in
    let f : (high && same k l) ≡ true = and_right low (high && same k l) e in
    let g : r ≡ q = same_range r q (eqb-true _ _ (and_left low (high && same k l) e)) (eqb-true _ _ (and_left high (same k l) f)) in
    ap₂ ◌∷◌ g (same_eq k l (and_right high (same k l) f))

-- ---- the bytes after a first byte of a longer character, by leading ones
abbrev continuations : List ByteRange
continuations = 0x80 ‥ 0xBF ∷ 0x80 ‥ 0xBF ∷ []

-- n is what the first byte announces
abbrev following : ℕ → Option ℕ → List ByteRange
following b None = []
following b (Some n) = cond (lead b) (least b ‥ most b ∷ take (n - 2) continuations) []

abbrev announced : ℕ → Option ℕ
announced b = cond (lead b) (sequence_length b) None

-- the length of a row, where it is one
abbrev size : List ByteRange → Option ℕ
size [] = None
size (r ∷ row) = Some (length (r ∷ row))

abbrev same_size : Option ℕ → Option ℕ → Bool
same_size None None = true
same_size None (Some n) = false
same_size (Some m) None = false
same_size (Some m) (Some n) = eqb m n

size_eq : (j k : Option ℕ) → same_size j k ≡ true → j ≡ k
size_eq None None e = refl
size_eq None (Some n) e = absurd (false≢true e)
size_eq (Some m) None e = absurd (false≢true e)
size_eq (Some m) (Some n) e = ap Some (eqb-true m n e)

agree : ℕ → Bool
agree b =
    ltb b 128 || (same_size (size (row_for table b)) (announced b) && same (drop 1 (row_for table b)) (following b (sequence_length b)))

agrees : (b : ℕ) → 128 ≤ b → b < 256 → (same_size (size (row_for table b)) (announced b) && same (drop 1 (row_for table b)) (following b (sequence_length b))) ≡ true
unfolding agree row_for table sequence_length leading_ones ones_from
agrees b l h = rw (le-ltb b 128 l) at (at agree 256 refl b h)

by_size : (row : List ByteRange) (s : List ℕ) → length_by row s ≡ cond (starts row s) (size row) None
unfolding starts
by_size [] s = refl
by_size (r ∷ row) s = refl

-- the table's answer through `following`
table_following : (b : ℕ) (s : List ℕ) → 128 ≤ b → b < 256 → character_length (b ∷ s) ≡ cond (starts (following b (sequence_length b)) s) (announced b) None
unfolding character_length
table_following b s l h =
    let k = agrees b l h in
    let n : size (row_for table b) ≡ announced b = size_eq _ _ (and_left (same_size (size (row_for table b)) (announced b)) _ k) in
    let f : drop 1 (row_for table b) ≡ following b (sequence_length b) = same_eq _ _ (and_right (same_size (size (row_for table b)) (announced b)) _ k) in
    by_size (row_for table b) (b ∷ s) ∙ rw (starts_found table b s, n, f)

-- ---- `following` held against a text, byte by byte
starts_take : (n j : ℕ) (r : ByteRange) (row : List ByteRange) (s : List ℕ) → leb r.low 0 ≡ false
    → starts (take (n - j) (r ∷ row)) s ≡ ((ltb n (suc j) || covers r (get_or s 0 0)) && starts (take (n - suc j) row) (drop 1 s))
unfolding starts
starts_take n j r row s z =
    by (ltb n (suc j))
    (λ e. let h : n < suc j = ltb-true n (suc j) e in
    let p : n - j ≡ 0 = omega arith in
    let q : n - suc j ≡ 0 = omega arith in
    rw (p, q, e))
    (λ e. let h : suc j ≤ n = ltb-false n (suc j) e in
    let p : n - j ≡ suc (n - suc j) = omega arith in
    rw (e, p) (starts_cons r (take (n - suc j) row) s z))

least_low : (b : ℕ) → leb (least b) 0 ≡ false
least_low b = by (eqb b 0xE0) (λ e. simp e) (λ e. by (eqb b 0xF0) (λ f. simp (e, f)) (λ f. simp (e, f)))

and_true : (p : Bool) → (p && true) ≡ p
and_true true = refl
and_true false = refl

starts_following : (b n : ℕ) (s : List ℕ) → starts (least b ‥ most b ∷ take (n - 2) continuations) s
    ≡ (second b (get_or s 0 0) && ((ltb n 3 || continuation (get_or (drop 1 s) 0 0)) && (ltb n 4 || continuation (get_or (drop 1 (drop 1 s)) 0 0))))
unfolding starts
starts_following b n s =
    rw (starts_cons (least b ‥ most b) (take (n - 2) continuations) s (least_low b), starts_take n 2 (0x80 ‥ 0xBF) (0x80 ‥ 0xBF ∷ []) (drop 1 s) refl, starts_take n 3 (0x80 ‥ 0xBF) [] (drop 1 (drop 1 s)) refl, take-nil {A = ByteRange} (n - 4), and_true)

-- the table's answer by leading ones
module _ (b : ℕ) (s : List ℕ) (l : 128 ≤ b) (h : b < 256) where
  pub by_ones : (n : ℕ) → sequence_length b ≡ Some n
      → character_length (b ∷ s)
      ≡ cond ((lead b && second b (get_or s 0 0)) && (ltb n 3 || continuation (get_or (drop 1 s) 0 0)) && (ltb n 4 || continuation (get_or (drop 1 (drop 1 s)) 0 0))) (Some n) None
  unfolding starts
  by_ones n q =
      let t = rw q at (table_following b s l h) in
      t ∙ by (lead b) (λ e. simp (e, starts_following b n s, and_assoc)) (λ e. simp e)

  pub by_none : sequence_length b ≡ None → character_length (b ∷ s) ≡ None
  by_none q =
      let t = rw q at (table_following b s l h) in
      t ∙ by (starts [] s) (λ e. by (lead b) (λ f. simp (e, f)) (λ f. simp (e, f))) (λ e. simp e)

-- ---- the character at place i, from what the calls answered
pub ascii_length : (b : ℕ) (s : List ℕ) → b < 128 → character_length (b ∷ s) ≡ Some 1
unfolding character_length row_for table starts
ascii_length b s h =
    let k : b ≤ 127 = omega arith in
    let o : leads (0x00 ‥ 0x7F ∷ []) b ≡ true = simp (le-leb 0 b zero-le, le-leb b 127 k) in
    rw (row_here (0x00 ‥ 0x7F ∷ []) _ b o, o)

module _ (s : List ℕ) (i : ℕ) where
  pub nothing_left : length s ≤ i → None ≡ character_length (drop i s)
  unfolding character_length row_for table starts
  nothing_left h = rw (drop_of_length-le s h)

  pub ascii_here : i < length s → get_or s i 0 < 128 → Some 1 ≡ character_length (drop i s)
  ascii_here h k = sym (rw (at_cons s i h) (ascii_length _ _ k))

  module _ {a : Option ℕ} (h : i < length s) (k : 128 ≤ get_or s i 0) (m : get_or s i 0 < 256) (e : a ≡ sequence_length (get_or s i 0)) where
    pub none_here : a ≡ None → None ≡ character_length (drop i s)
    none_here w = sym (rw (at_cons s i h) (by_none (get_or s i 0) (drop (i + 1) s) k m (sym e ∙ w)))

    -- the length n, the bytes x, y, z and the tests l, t, u, v are what the calls answered
    module _ {n x y z : ℕ} {l t u v : Bool} (w : a ≡ Some n) (f : l ≡ lead (get_or s i 0)) (p : x ≡ get_or s (i + 1) 0) (q : t ≡ second (get_or s i 0) x)
        (p' : y ≡ get_or s (i + 2) 0) (q' : u ≡ continuation y) (p'' : z ≡ get_or s (i + 3) 0) (q'' : v ≡ continuation z) where
      longer : character_length (drop i s) ≡ cond (((l && t) && (ltb n 3 || u)) && (ltb n 4 || v)) (Some n) None
      longer =
          let two : i + 1 + 1 ≡ i + 2 = omega arith in
          let three : i + 2 + 1 ≡ i + 3 = omega arith in
          rw (at_cons s i h) (by_ones (get_or s i 0) (drop (i + 1) s) k m n (sym e ∙ w) ∙ simp (get_or-drop, drop-drop, add-zero, two, three, f, q, q', q'', p, p', p''))

      pub whole : (((l && t) && (ltb n 3 || u)) && (ltb n 4 || v)) ≡ true → Some n ≡ character_length (drop i s)
      whole c = sym (longer ∙ rw c)

      pub broken : (((l && t) && (ltb n 3 || u)) && (ltb n 4 || v)) ≡ false → None ≡ character_length (drop i s)
      broken c = sym (longer ∙ rw c)
