-- A part of a text, and the marks of the whole from there on.
use Prim.Native.Nat.{ℕ, zero, suc, ◌+◌, ◌-◌, ◌≤◌, ◌<◌}
use native.Mathlib.Nat.{add-zero, add-suc}
use native.Mathlib.Numerals.{add-one}
use native.Mathlib.Omega.{arith}
use mathlib.Core.Path.{◌≡◌, refl, sym, ap, ◌∙◌}
use mathlib.Core.List.{List, [], ◌∷◌}
use mathlib.Core.Bool.{Bool, true, false, true≢false, not, ◌&&◌, ◌||◌}
use borrow.Author.Tests.{ne_eqb, not-false}
use lib.ListN.{length, get_or, drop, take, set, length-drop, length-set}
use lib.Seq.{take_all, get_or-take, get_or-drop, drop-drop, get_or-set_same, get_or-set_other}
use lib.Dec.{eqb}
use Rattle.scan.proofs.Test.{by, neither}
use Rattle.scan.specs.Byte.{blank}
use Rattle.scan.proofs.Scan.{at_cons}
use Rattle.target.specs.Reading.{unspaced, space_from, space_run}
use Rattle.parens.specs.Unclosed.{slashed, unclosed_at, Marks, Prepared}

-- ---- a place after a byte that is no backslash
pub unslashed : (s : List ℕ) (i : ℕ) → (get_or s i 0 ≡ 92 → ⊥) → slashed s (i + 1) ≡ false
unfolding slashed
unslashed s i n = rw (add-one i) (simp (ne_eqb (get_or s i 0) 92 n))

-- ---- a part from place k on has the marks of the whole from there on
module _ (p : List ℕ) (k : ℕ) (e : slashed p k ≡ false) where
  slashed_drop : (i : ℕ) → slashed (drop k p) i ≡ slashed p (k + i)
  unfolding slashed
  slashed_drop zero = sym (rw (add-zero k) e)
  slashed_drop (suc i) = rw (get_or-drop, slashed_drop i, add-suc k i)

  unclosed_drop : (i : ℕ) → unclosed_at (drop k p) i ≡ unclosed_at p (k + i)
  unclosed_drop i =
      let a : k + suc i ≡ suc (k + i) = add-suc k i in
      rw (slashed_drop i, slashed_drop (suc i), get_or-drop, drop-drop, a)

  -- the marks of the part are those of the whole from place k on
  pub part_prepared : {m : List Bool} → k ≤ length p → Prepared p k m → Prepared (drop k p) 0 (drop k m)
  part_prepared {m} h t =
      let z : k + length (drop k p) ≡ length p = rw length-drop (omega arith) in
      record {
        wide = rw (length-drop, length-drop) (omega (arith, t.wide));
        made = λ e. record { marked = λ i l x. rw (get_or-drop, unclosed_drop i) ((t.made (rw (get_or-drop, z) at e)).marked (k + i) (omega arith) (omega (arith, length-drop k p))) };
      }

  pub whole_prepared : {m : List Bool} → k ≤ length p → Prepared (drop k p) 0 (drop k m) → Prepared p k m
  whole_prepared {m} h t =
      let z : k + length (drop k p) ≡ length p = rw length-drop (omega arith) in
      let w = rw (length-drop, length-drop) at t.wide in
      record {
        wide = omega arith;
        made = λ e. record { marked = λ i l x. at_place i (i - k) (omega arith) x (t.made (rw (get_or-drop, z) e)) };
      }
    where
      at_place : (i j : ℕ) → k + j ≡ i → i < length p → Marks (drop k p) 0 (drop k m) → get_or m i false ≡ unclosed_at p i
      at_place i j q x g = rw (← q) (rw (get_or-drop, unclosed_drop j) at (g.marked j (omega arith) (omega (arith, length-drop k p))))

pub later : {s : List ℕ} {m : List Bool} {k j : ℕ} → k ≤ j → Prepared s k m → Prepared s j m
later h t = record { wide = t.wide; made = λ e. record { marked = λ i l x. (t.made e).marked i (omega arith) x } }

-- ---- past space
unblank : (b : ℕ) → blank b ≡ true → b ≡ 92 → ⊥
unblank b h e = true≢false (sym h ∙ rw e)

-- the byte and what is left after it
pub opened : (s : List ℕ) (b : ℕ) (l : List ℕ) (i : ℕ) → b ∷ l ≡ drop i s → (b ≡ get_or s i 0) × (l ≡ drop (i + 1) s)
opened s b l i e =
    let h : i < length s = omega (arith, ap length e, length-drop i s) in
    let q : b ∷ l ≡ get_or s i 0 ∷ drop (i + 1) s = e ∙ at_cons s i h in
    ((cc), (cc))

past_space : (s l : List ℕ) (k : ℕ) (line : Bool) → l ≡ drop k s → slashed s k ≡ false → slashed s (k + space_from line l) ≡ false
unfolding space_from
past_space s [] k line w e = rw (add-zero k) e
past_space s (b ∷ l) k line w e =
    by (unspaced line b) (λ u. rw (space_from, u, add-zero k) e)
    (λ u.
    let (eb, el) = opened s b l k w in
    let n : get_or s k 0 ≡ 92 → ⊥ = λ q. unblank b (not-false (blank b) (neither (not (blank b)) (line && eqb b 10) u).0) (eb ∙ q) in
    let a : k + suc (space_from (line || eqb b 10) l) ≡ k + 1 + space_from (line || eqb b 10) l = omega arith in
    rw (space_from, u, a) (past_space s l (k + 1) (line || eqb b 10) el (unslashed s k n)))

pub space_unslashed : (s : List ℕ) (k : ℕ) → slashed s k ≡ false → slashed s (k + space_run (drop k s)) ≡ false
space_unslashed s k e = past_space s (drop k s) k false refl e

-- where a destination of an inline link starts
pub after_parenthesis : (s : List ℕ) → get_or s 0 0 ≡ 40 → slashed s (1 + space_run (drop 1 s)) ≡ false
after_parenthesis s e = space_unslashed s 1 (unslashed s 0 (λ q. omega arith))

-- ---- the mark that tells whether the table is made
pub still_marks : (s : List ℕ) (m : List Bool) → Marks s 0 m → Marks s 0 (set m (length s) true)
still_marks s m t = record { marked = λ i z l. get_or-set_other m (length s) i true false (λ q. omega arith) ∙ t.marked i z l }

-- the marks without it
pub own_marks : (s : List ℕ) (m : List Bool) → Marks s 0 m → Marks s 0 (take (length s) m)
own_marks s m t = record { marked = λ i z l. get_or-take (length s) m i false l ∙ t.marked i z l }

pub told : (s : List ℕ) (m : List Bool) → length s < length m → Marks s 0 m → Prepared s 0 (set m (length s) true)
told s m h t = record { wide = simp length-set h; made = λ e. still_marks s m t }

-- for those who keep a table from one text to the next: it is to be made anew
pub unmade : (s : List ℕ) (m : List Bool) → length s < length m → Prepared s 0 (set m (length s) false)
unmade s m h =
    record {
      wide = simp length-set h;
      made = λ e. absurd (true≢false (sym e ∙ get_or-set_same m (length s) false false h));
    }

-- ---- a slice from place k on
pub part_whole : {A : Type 0} (l : List A) (k : ℕ) → take (length l - k) (drop k l) ≡ drop k l
part_whole l k = take_all (length l - k) (drop k l) (omega (arith, length-drop k l))
