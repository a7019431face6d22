-- `space_run` is the length of the longest front that is space.
use Prim.Native.Nat.{ℕ, suc, ◌+◌, ◌≤◌}
use native.Mathlib.Omega.{arith}
use mathlib.Core.Path.{◌≡◌, refl, sym, ap, ◌∙◌}
use mathlib.Core.List.{List, [], ◌∷◌, ◌++◌}
use mathlib.Core.Bool.{Bool, true, false, true≢false, cond, ◌&&◌, ◌||◌}
use mathlib.Core.Logic.{◌↔◌}
use borrow.Author.Tests.{not-false}
use lib.ListN.{length, get_or, length-append}
use lib.Dec.{eqb}
use Rattle.scan.proofs.Test.{by, neither}
use Rattle.scan.specs.Byte.{blank}
use Rattle.scan.specs.Every.{Every, none, more}
use Rattle.target.specs.Target.{line_feeds, Space}
use Rattle.target.specs.Reading.{unspaced, space_from, space_run}

-- the front of s that is n long is space, and no longer one is
pub record LongestSpace (s : List ℕ) (n : ℕ) : Type 0 where
  pub front : List ℕ
  pub rest : List ℕ
  pub whole : s ≡ front ++ rest
  pub space : Space front
  pub size : length front ≡ n
  pub longest : (k after : List ℕ) → s ≡ k ++ after → Space k → length k ≤ n

goes_on : (line : Bool) (b : ℕ) (s : List ℕ) → unspaced line b ≡ false → space_from line (b ∷ s) ≡ suc (space_from (line || eqb b 10) s)
unfolding space_from
goes_on line b s e = rw (space_from, e)

stays : (line : Bool) (b : ℕ) (s : List ℕ) → unspaced line b ≡ true → space_from line (b ∷ s) ≡ 0
unfolding space_from
stays line b s e = rw (space_from, e)

-- how many LFs have been passed
abbrev passed : Bool → ℕ
passed line = cond line 1 0

-- at most one LF in all: what a next byte leaves room for
room : (line feed : Bool) (n : ℕ) → (passed line + (passed feed + n) ≤ 1) ↔ (((line && feed) ≡ false) × (passed (line || feed) + n ≤ 1))
room true true n = ((λ h. let no : ⊥ = omega arith in absurd no), λ (e, h). absurd (true≢false e))
room true false n = ((λ h. (refl, omega arith)), λ (e, h). omega arith)
room false true n = ((λ h. (refl, omega arith)), λ (e, h). omega arith)
room false false n = ((λ h. (refl, omega arith)), λ (e, h). omega arith)

-- space is passed over whole
over : (line : Bool) {l : List ℕ} (m : List ℕ) → Every blank l → passed line + line_feeds l ≤ 1 → (after : Bool) × (space_from line (l ++ m) ≡ length l + space_from after m)
unfolding line_feeds
over line m none h = (line, omega arith)
over line m (more {b} {l} e p) h =
    let (f, r) = (room line (eqb b 10) (line_feeds l)).0 h in
    let (after, q) = over (line || eqb b 10) m p r in
    (after, goes_on line b (l ++ m) (simp (e, f)) ∙ omega arith)

halted : (line : Bool) (m : List ℕ) → blank (get_or m 0 0) ≡ false → space_from line m ≡ 0
unfolding space_from
halted line [] h = refl
halted line (b ∷ m) h = stays line b m (simp h)

-- space that no blank byte follows is the longest front
pub space_exact : (s l m : List ℕ) → s ≡ l ++ m → Space l → blank (get_or m 0 0) ≡ false → length l ≡ space_run s
space_exact s l m w p h = let (after, q) = over false m p.blanks (omega (arith, p.line)) in rw w (omega (arith, halted after m h))

most : (line : Bool) → passed line + 0 ≤ 1
most true = omega arith
most false = omega arith

-- the front that is read is space
record Fronted (line : Bool) (s : List ℕ) : Type 0 where
  front : List ℕ
  rest : List ℕ
  whole : s ≡ front ++ rest
  blanks : Every blank front
  lines : passed line + line_feeds front ≤ 1
  size : length front ≡ space_from line s

fronted : (line : Bool) (s : List ℕ) → Fronted line s
unfolding line_feeds space_from
fronted line [] = record { front = []; rest = []; whole = refl; blanks = none; lines = most line; size = refl }
fronted line (b ∷ s) =
    by (unspaced line b) (λ e. record { front = []; rest = b ∷ s; whole = refl; blanks = none; lines = most line; size = sym (stays line b s e) })
    (λ e.
    let (ink, only) = neither _ _ e in
    let f = fronted (line || eqb b 10) s in
    record {
      front = b ∷ f.front;
      rest = f.rest;
      whole = ap (λ (x : List ℕ). b ∷ x) f.whole;
      blanks = more (not-false _ ink) f.blanks;
      lines = (room line (eqb b 10) (line_feeds f.front)).1 (only, f.lines);
      size = ap suc f.size ∙ sym (goes_on line b s e);
    })

-- no longer front is space
pub space_run_longest : (s k after : List ℕ) → s ≡ k ++ after → Space k → length k ≤ space_run s
space_run_longest s k after w p = let (line, q) = over false after p.blanks (omega (arith, p.line)) in rw w (omega arith)

longest_front : (s : List ℕ) → LongestSpace s (space_run s)
longest_front s =
    let f = fronted false s in
    record { front = f.front; rest = f.rest; whole = f.whole; space = record { blanks = f.blanks; line = omega (arith, f.lines) }; size = f.size; longest = space_run_longest s }

pub space_run_iff : (s : List ℕ) (n : ℕ) → (space_run s ≡ n) ↔ LongestSpace s n
space_run_iff s n = (
  (λ e. rw e at (longest_front s)),
  (λ m.
      let f = longest_front s in
      omega (arith, m.size, f.size, space_run_longest s m.front m.rest m.whole m.space, m.longest f.front f.rest f.whole f.space)),
)

pub space_run_fits : (s : List ℕ) → space_run s ≤ length s
space_run_fits s = let f = longest_front s in omega (arith, f.size, ap length f.whole, length-append f.front f.rest)
