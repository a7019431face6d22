-- LFs counted part by part; the line of a place, and what is known of later ones.
use Prim.Native.Nat.{ℕ, zero, suc, ◌+◌, ◌-◌, ◌≤◌, ◌<◌}
use native.Mathlib.Nat.{zero-add}
use native.Mathlib.Omega.{arith}
use mathlib.Core.Path.{◌≡◌, refl, sym, ap, ap₂, ◌∙◌}
use mathlib.Core.List.{List, [], ◌∷◌, ◌++◌}
use mathlib.Core.Bool.{Bool, true, false, cond, ◌||◌}
use Rattle.std.proofs.lemmas.List.Sums.{sum_by-cons, sum_by-append, count_by-le-length}
use borrow.Author.Tests.{lt-ltb, le-ltb, leb-true, leb-false, ltb-true}
use lib.Dec.{eqb, leb, ltb}
use lib.ListN.{length, take, drop, length-take, length-drop}
use lib.Seq.{take-add, drop-drop}
use Rattle.scan.proofs.Test.{by, neither}
use Rattle.block.specs.Reading.{line_length}
use Rattle.block.proofs.Parts.{line_some}
use Rattle.line.specs.Line.{feeds, line_of}
use Rattle.line.specs.Promise.{none, line_at, line_if, Before}
use Rattle.line.specs.declared.Line.{Line}

-- ---- LFs
module _ (b : ℕ) (s : List ℕ) where
  feeds_feed : eqb b 10 ≡ true → feeds (b ∷ s) ≡ 1 + feeds s
  unfolding feeds
  feeds_feed e = sum_by-cons (λ x. cond (eqb x 10) 1 0) b s ∙ rw e

  feeds_other : eqb b 10 ≡ false → feeds (b ∷ s) ≡ feeds s
  unfolding feeds
  feeds_other e = sum_by-cons (λ x. cond (eqb x 10) 1 0) b s ∙ rw (e, zero-add)

  length_feed : eqb b 10 ≡ true → line_length (b ∷ s) ≡ 1
  unfolding line_length
  length_feed e = rw (e, line_length) refl

  length_other : eqb b 10 ≡ false → line_length (b ∷ s) ≡ suc (line_length s)
  unfolding line_length
  length_other e = rw (e, line_length) refl

feeds_append : (a b : List ℕ) → feeds (a ++ b) ≡ feeds a + feeds b
unfolding feeds
feeds_append a b = sum_by-append (λ x. cond (eqb x 10) 1 0) a b

feeds_fit : (s : List ℕ) → feeds s ≤ length s
unfolding feeds
feeds_fit s = count_by-le-length (λ x. eqb x 10) s

-- ---- the line at the front of a text: its LF, if it has one, is its last byte
same_end : (s : List ℕ) (k : ℕ) → k < line_length s → k + line_length (drop k s) ≡ line_length s
unfolding line_length
same_end [] k h = absurd (omega arith)
same_end (b ∷ s) zero h = zero-add (line_length (b ∷ s))
same_end (b ∷ s) (suc k) h =
    by (eqb b 10) (λ e. absurd (omega (arith, length_feed b s e)))
    (λ e. let n = length_other b s e in omega (arith, n, same_end s k (omega (arith, n))))

none_inside : (s : List ℕ) (k : ℕ) → k < line_length s → feeds (take k s) ≡ 0
unfolding line_length feeds
none_inside [] k h = absurd (omega arith)
none_inside (b ∷ s) zero h = refl
none_inside (b ∷ s) (suc k) h =
    by (eqb b 10) (λ e. absurd (omega (arith, length_feed b s e)))
    (λ e. feeds_other b (take k s) e ∙ none_inside s k (omega (arith, length_other b s e)))

one_at_end : (s : List ℕ) → line_length s < length s → feeds (take (line_length s) s) ≡ 1
unfolding line_length feeds
one_at_end [] h = absurd (omega arith)
one_at_end (b ∷ s) h =
    by (eqb b 10)
    (λ e. ap (λ (n : ℕ). feeds (take n (b ∷ s))) (length_feed b s e) ∙ feeds_feed b [] e)
    (λ e.
    let n = length_other b s e in
    ap (λ (m : ℕ). feeds (take m (b ∷ s))) n ∙ feeds_other b (take (line_length s) s) e ∙ one_at_end s (omega (arith, n)))

-- ---- lines
line_on : (s : List ℕ) (i n : ℕ) → line_of s (i + n) ≡ line_of s i + feeds (take n (drop i s))
unfolding line_of
line_on s i n = rw (take-add i n s, feeds_append) (omega arith)

line_few : (s : List ℕ) (i : ℕ) → line_of s i ≤ i + 1
unfolding line_of
line_few s i = omega (arith, feeds_fit (take i s), length-take i s)

-- places on one line
same_line : (s : List ℕ) (q p : ℕ) → q ≤ p → p < (line_at s q).end → line_at s q ≡ line_at s p
same_line s q p l h =
    let k : ℕ = p - q in
    let f : k < line_length (drop q s) = omega arith in
    let e : q + k ≡ p = omega arith in
    let n : line_of s q ≡ line_of s p = sym (ap (line_of s) (sym e) ∙ line_on s q k ∙ omega (arith, none_inside (drop q s) k f)) in
    let d : drop k (drop q s) ≡ drop p s = drop-drop k q s ∙ ap (λ (i : ℕ). drop i s) e in
    let z : q + line_length (drop q s) ≡ p + line_length (drop p s) = omega (arith, same_end (drop q s) k f, ap line_length d) in
    ap₂ (λ (a b : ℕ). record { number = a; end = b }) n z

next_line : (s : List ℕ) (q : ℕ) → (line_at s q).end < length s → line_of s (line_at s q).end ≡ line_of s q + 1
next_line s q h = omega (arith, line_on s q (line_length (drop q s)), one_at_end (drop q s) (omega (arith, length-drop q s)))

pub at_before : (s : List ℕ) (q : ℕ) → q ≤ length s → Before s (line_at s q) q
at_before s q h = record { there = same_line s q; next = next_line s q; few = line_few s q; inside = h }

pub none_before : (s : List ℕ) → Before s none 0
unfolding line_of feeds
none_before s = record { there = λ p l h. absurd (omega arith); next = λ h. refl; few = omega arith; inside = omega arith }

pub later : {s : List ℕ} {l : Line} {place : ℕ} → Before s l place → {n : ℕ} → place ≤ n → n ≤ length s → Before s l n
later b h i = record { there = λ p g k. b.there p (omega arith) k; next = b.next; few = omega (arith, b.few); inside = i }

-- ---- a turn of the loop, which stands at the end of a line
module _ {s : List ℕ} {place number end : ℕ} (b : Before s (record { number = number; end = end }) place) (h : end ≤ place) (i : place < length s) where
  pub number_fits : number + 1 ≤ place + 1
  number_fits = omega (arith, b.next (omega arith), line_few s end)

  pub onward : {e : ℕ} → e ≡ end + line_length (drop end s) → length s - e < length s - end
  onward q = omega (arith, line_some (drop end s) (omega (arith, length-drop end s)), length-drop end s)

  pub next_before : {e : ℕ} → e ≡ end + line_length (drop end s) → Before s (record { number = number + 1; end = e }) place
  next_before q = rw (q, ← b.next (omega arith)) (later (at_before s end (omega arith)) h (omega arith))

-- ---- what going on gave
module _ (asked : Bool) {s : List ℕ} {from : Line} {place : ℕ} (b : Before s from place) {l : Line} (e : l ≡ line_if asked s from place) where
  pub counted_on : Before s l place
  counted_on = by asked (λ q. rw (e, q) (at_before s place b.inside)) (λ q. rw (e, q) b)

  pub number_there : asked ≡ true → l.number ≡ line_of s place
  number_there q = rw (e, q) refl

-- the line is asked for where row k is one of n
module _ (s : List ℕ) (from : Line) (place k n : ℕ) where
  pub not_asked : n ≤ k → from ≡ line_if (ltb k n) s from place
  not_asked h = rw (le-ltb k n h) refl

  pub asked : k < n → {l : Line} → l ≡ line_at s place → l ≡ line_if (ltb k n) s from place
  asked h e = rw (lt-ltb k n h) e

  -- what a test for both tells: that it is not asked for, or is the same
  pub kept : Before s from place → (leb n k || ltb place from.end) ≡ true → from ≡ line_if (ltb k n) s from place
  kept b t = by (leb n k) (λ e. not_asked (leb-true n k e)) (λ e. asked (leb-false n k e) (b.there place (omega arith) (ltb-true place from.end (rw e at t))))

  pub moved : (leb n k || ltb place from.end) ≡ false → {l : Line} → l ≡ line_at s place → l ≡ line_if (ltb k n) s from place
  moved t = asked (leb-false n k (neither (leb n k) (ltb place from.end) t).0)
