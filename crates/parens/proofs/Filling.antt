-- From right to left: what is counted and marked from place i on.
use Prim.Native.Nat.{ℕ, zero, suc, ◌+◌, ◌-◌, ◌≤◌, ◌<◌}
use native.Mathlib.Omega.{arith}
use mathlib.Core.Path.{◌≡◌, refl, sym, ap, ◌∙◌}
use mathlib.Core.List.{List}
use mathlib.Core.Bool.{Bool, true, false, ◌&&◌}
use borrow.Author.Tests.{ltb-true, ltb-false}
use lib.ListN.{length, get_or, drop, set, length-set}
use lib.Seq.{drop-length, drop-cons, get_or-set_same, get_or-set_other}
use lib.Dec.{ltb, eqb}
use Rattle.scan.proofs.Test.{by}
use Rattle.scan.specs.Reading.{bare}
use Rattle.target.specs.Target.{control}
use Rattle.parens.specs.Unclosed.{slashed, parenthesis, closers_before, closers, unclosed, unclosed_at, Marks}
use Rattle.parens.proofs.Slashes.{bare_with}

pub record Filled (s : List ℕ) (i c : ℕ) (m : List Bool) : Type 0 where
  pub within : i ≤ length s
  pub wide : length s ≤ length m
  pub few : c + i ≤ length s
  pub count : c ≡ closers (slashed s i) (drop i s)
  pub marked : (j : ℕ) → i ≤ j → j < length s → get_or m j false ≡ unclosed_at s j

pub begins : (s : List ℕ) (m : List Bool) → length s ≤ length m → Filled s (length s) 0 m
unfolding closers
begins s m h =
    record {
      within = omega arith;
      wide = h;
      few = omega arith;
      count = rw (drop-length s);
      marked = λ j l k. let no : ⊥ = omega arith in absurd no;
    }

pub all_filled : (s : List ℕ) (i c : ℕ) (m : List Bool) → Filled s i c m → i ≤ 0 → Marks s 0 m
all_filled s i c m f h = record { marked = λ j z l. f.marked j (omega arith) l }

-- an unescaped parenthesis is one whether or not the backslashes are counted before other bytes
is_open : (b m : ℕ) → (m ≡ 40) → b ≡ m → parenthesis b ≡ true
is_open b m z e = rw (e, z)

is_close : (b : ℕ) → b ≡ 41 → parenthesis b ≡ true
is_close b e = rw e

same_open : (b : ℕ) (odd : Bool) → bare 40 b (odd && parenthesis b) ≡ bare 40 b odd
same_open b odd = bare_with 40 b odd (parenthesis b) (is_open b 40 refl)

same_close : (b : ℕ) (odd : Bool) → bare 41 b (odd && parenthesis b) ≡ bare 41 b odd
same_close b odd = bare_with 41 b odd (parenthesis b) (is_close b)

same_closers : (c b : ℕ) (odd : Bool) → closers_before c b (odd && parenthesis b) ≡ closers_before c b odd
unfolding closers_before
same_closers c b odd = rw (same_close b odd, same_open b odd)

one_more : (c b : ℕ) (odd : Bool) → closers_before c b odd ≤ c + 1
unfolding closers_before
one_more c b odd =
    by (control b) (λ e. simp e (omega arith))
    (λ e. by (bare 41 b odd) (λ k. simp (e, k) (omega arith))
    (λ k. by (bare 40 b odd) (λ o. simp (e, k, o) (omega arith)) (λ o. simp (e, k, o) (omega arith))))

-- what is counted, however it is marked
pub record Counted (s : List ℕ) (i c : ℕ) : Type 0 where
  pub within : i ≤ length s
  pub few : c + i ≤ length s
  pub count : c ≡ closers (slashed s i) (drop i s)

module _ (s : List ℕ) (j c : ℕ) (f : Counted s (suc j) c) {odd : Bool} (eo : odd ≡ (slashed s j && parenthesis (get_or s j 0))) where
  counted : {c' : ℕ} → c' ≡ closers_before c (get_or s j 0) odd → Counted s j c'
  unfolding closers slashed
  counted ec =
      record {
        within = omega (arith, f.within);
        few = omega (arith, f.few, one_more c (get_or s j 0) odd);
        count =
            ec ∙ ap (closers_before c (get_or s j 0)) eo ∙ same_closers c (get_or s j 0) (slashed s j)
            ∙ ap (λ (n : ℕ). closers_before n (get_or s j 0) (slashed s j)) f.count
            ∙ sym (ap (closers (slashed s j)) (drop-cons s j 0 (omega (arith, f.within))));
      }

  mark_here : unclosed c (get_or s j 0) odd ≡ unclosed_at s j
  mark_here =
      ap (λ (o : Bool). o && eqb c 0) (ap (bare 40 (get_or s j 0)) eo ∙ same_open (get_or s j 0) (slashed s j))
      ∙ ap (λ (n : ℕ). unclosed n (get_or s j 0) (slashed s j)) f.count

-- the same where the loop steps back before it reads
pub counting : (s : List ℕ) (i c : ℕ) → Counted s i c → 0 < i → {odd : Bool} {c' : ℕ} → odd ≡ (slashed s (i - 1) && parenthesis (get_or s (i - 1) 0))
    → c' ≡ closers_before c (get_or s (i - 1) 0) odd → Counted s (i - 1) c'
counting s zero c f h eo ec = let no : ⊥ = omega arith in absurd no
counting s (suc j) c f h eo ec = let q : suc j - 1 ≡ j = omega arith in rw q (counted s j c f (rw q at eo) (rw q at ec))

pub mark_at : (s : List ℕ) (i c : ℕ) → Counted s i c → 0 < i → {odd : Bool} → odd ≡ (slashed s (i - 1) && parenthesis (get_or s (i - 1) 0))
    → unclosed c (get_or s (i - 1) 0) odd ≡ unclosed_at s (i - 1)
mark_at s zero c f h eo = let no : ⊥ = omega arith in absurd no
mark_at s (suc j) c f h eo = let q : suc j - 1 ≡ j = omega arith in rw q (mark_here s j c f (rw q at eo))

-- one turn of the loop
pub turn : (s : List ℕ) (i c : ℕ) (m : List Bool) → Filled s i c m → 0 < i → {odd v : Bool} {c' : ℕ} → odd ≡ (slashed s (i - 1) && parenthesis (get_or s (i - 1) 0))
    → v ≡ unclosed c (get_or s (i - 1) 0) odd → c' ≡ closers_before c (get_or s (i - 1) 0) odd → Filled s (i - 1) c' (set m (i - 1) v)
turn s i c m f h {odd} {v} {c'} eo ev ec =
    let g : Counted s i c = record { within = f.within; few = f.few; count = f.count } in
    let n = counting s i c g h eo ec in
    record {
      within = n.within;
      wide = simp length-set f.wide;
      few = n.few;
      count = n.count;
      marked = λ k l x. by (ltb (i - 1) k)
          (λ e. let y = ltb-true (i - 1) k e in get_or-set_other m (i - 1) k v false (λ q. omega arith) ∙ f.marked k (omega arith) x)
          (λ e. let y : k ≡ i - 1 = omega (arith, ltb-false (i - 1) k e) in
          rw y (get_or-set_same m (i - 1) v false (omega (arith, f.within, f.wide)) ∙ ev ∙ mark_at s i c g h eo));
    }
