-- `raw_run` ends where the longest admissible run ends, and tells how many parentheses it leaves open.
use Prim.Native.Nat.{ℕ, ◌+◌, ◌≤◌, ◌<◌}
use native.Mathlib.Nat.{add-zero}
use native.Mathlib.Omega.{arith}
use mathlib.Core.Path.{◌≡◌, refl, sym, ap, ◌∙◌}
use mathlib.Core.List.{List, [], ◌∷◌, ◌++◌}
use mathlib.Core.Logic.{◌↔◌}
use mathlib.Core.Bool.{Bool, true, false, true≢false, not, ◌&&◌}
use borrow.Author.Tests.{ne_eqb, eqb-true, eqb-false, ltb-true, lt-leb, not-true}
use lib.ListN.{length}
use lib.Dec.{ltb, eqb}
use Rattle.scan.proofs.Test.{by, and_false, neither}
use Rattle.scan.specs.Byte.{punctuation, escapes}
use Rattle.scan.specs.Every.{Every}
use Rattle.scan.specs.Every as every
use Rattle.scan.specs.Reading.{scan}
use Rattle.scan.proofs.Scan.{scan_cons}
use Rattle.scan.proofs.Closing.{slash}
use Rattle.target.specs.Target.{control, Longest}
use Rattle.target.specs.Reading.{Running, depth_after, halts, raw_from, raw_run}
use Rattle.target.specs.declared.Run.{Run}
use Rattle.target.proofs.Turns.{halted, passed}
use Rattle.target.proofs.Parentheses.{Counted, none, escape, opened, closed, byte, Leaves, leaves_iff, closes_only_opened_iff}

-- ---- the turns
abbrev state : ℕ → Bool → ℕ → Running
state at inside depth = record { at = at; inside = inside; depth = depth }

abbrev Clean : List ℕ → Type 0
Clean = Every (λ b. not (control b))

pass : (b : ℕ) (s : List ℕ) (at d : ℕ) (inside : Bool) {k : Bool} {e : ℕ} → halts d b inside ≡ false → (not inside && escapes (b ∷ s)) ≡ k → depth_after d b inside ≡ e
    → raw_from (b ∷ s) (state at inside d) ≡ raw_from s (state (at + 1) k e)
pass b s at d inside h k e = scan_cons _ _ b s _ (passed _ _ _ h refl refl) ∙ rw (k, e)

halt : (b : ℕ) (s : List ℕ) (at d : ℕ) (inside : Bool) → halts d b inside ≡ true → raw_from (b ∷ s) (state at inside d) ≡ record { end = at; depth = d }
halt b s at d inside h = scan_cons _ _ b s _ (halted _ _ _ h)

-- ---- a run goes on from where it is, and leaves the depth as it is where it stays
abbrev Reaches : ℕ → ℕ → Run → Type 0
Reaches at d r = (at ≤ r.end) × (r.end ≡ at → r.depth ≡ d)

reaches : (s : List ℕ) (at d : ℕ) (inside : Bool) → Reaches at d (raw_from s (state at inside d))
unfolding scan
reaches [] at d inside = (omega arith, λ z. refl)
reaches (b ∷ s) at d inside =
    by (halts d b inside)
    (λ h. rw (halt b s at d inside h) (omega arith, λ z. refl))
    (λ h.
    let (q, z) = reaches s (at + 1) (depth_after d b inside) (not inside && escapes (b ∷ s)) in
    rw (pass b s at d inside h refl refl) (omega arith, λ z. let no : ⊥ = omega arith in absurd no))

-- ---- complete: what is admissible is passed over
abbrev Over : ℕ → List ℕ → ℕ → Type 0
Over d l e = (more : List ℕ) (at : ℕ) → (k : Bool) × (raw_from (l ++ more) (state at false d) ≡ raw_from more (state (at + length l) k e))

nil : {d e : ℕ} → Counted d [] e → d ≡ e
nil none = refl

over_byte : (d b e : ℕ) (l : List ℕ) → halts d b false ≡ false → depth_after d b false ≡ d → escapes (b ∷ l) ≡ false → Counted d l e → Over d l e → Over d (b ∷ l) e
over_byte d b e [] h k x t f more at = (escapes (b ∷ more), pass b more at d false h refl (k ∙ nil t) ∙ ap (λ (i : ℕ). raw_from more (state i (escapes (b ∷ more)) e)) (omega arith))
over_byte d b e (c ∷ l) h k x t f more at =
    let (i, q) = f more (at + 1) in
    (i, pass b (c ∷ l ++ more) at d false h x k ∙ q ∙ ap (λ (j : ℕ). raw_from more (state j i e)) (omega arith))

over : {d e : ℕ} {l : List ℕ} → Counted d l e → Clean l → Over d l e
unfolding depth_after
over {d} none every.none more at = (false, ap (λ (i : ℕ). raw_from more (state i false d)) (sym (add-zero at)))
over {d} {e} (escape {p = p} {l = l} x t) (every.more c (every.more c' cs)) more at =
    let (i, q) = over t cs more (at + 1 + 1) in (
      i,
      pass 92 (p ∷ l ++ more) at d false refl x refl ∙ pass p (l ++ more) (at + 1) d true (simp (not-true (control p) c')) refl refl
          ∙ q ∙ ap (λ (j : ℕ). raw_from more (state j i e)) (omega arith),
    )
over {d} {e} (opened {l = l} t) (every.more c cs) more at =
    let (i, q) = over t cs more (at + 1) in
    (i, pass 40 (l ++ more) at d false refl refl refl ∙ q ∙ ap (λ (j : ℕ). raw_from more (state j i e)) (omega arith))
over {d} {e} (closed {l = l} h t) (every.more c cs) more at =
    let (i, q) = over t cs more (at + 1) in
    (i, pass 41 (l ++ more) at d false (ne_eqb d 0 (λ z. omega arith)) refl refl ∙ q ∙ ap (λ (j : ℕ). raw_from more (state j i e)) (omega arith))
over {d} {e} (byte {b = b} {l = l} n x t) (every.more c cs) more at =
    let (n40, n41) = neither (eqb b 40) (eqb b 41) n in
    over_byte d b e l (simp (not-true (control b) c, n41)) (simp (n41, n40)) x t (over t cs) more at

-- ---- sound: what is passed over is admissible
record Ran (s : List ℕ) (at d : ℕ) (r : Run) : Type 0 where
  l : List ℕ
  more : List ℕ
  whole : s ≡ l ++ more
  place : r.end ≡ at + length l
  clean : Clean l
  counted : Counted d l r.depth

here : (s : List ℕ) (at d : ℕ) → Ran s at d (record { end = at; depth = d })
here s at d = record { l = []; more = s; whole = refl; place = sym (add-zero at); clean = every.none; counted = none }

deep : {d : ℕ} → eqb d 0 ≡ false → 0 < d
deep {d} e = let n = eqb-false d 0 e in omega arith

counted_more : (d b : ℕ) {l : List ℕ} {e : ℕ} → halts d b false ≡ false → escapes (b ∷ l) ≡ false → Counted (depth_after d b false) l e → Counted d (b ∷ l) e
unfolding depth_after
counted_more d b {l} {e} h x t =
    by (eqb b 41)
    (λ k. rw (eqb-true b 41 k) (closed (deep (rw k at (neither (control b) (eqb b 41 && eqb d 0) h).1)) (rw k at t)))
    (λ k. by (eqb b 40)
    (λ o. rw (eqb-true b 40 o) (opened (rw (k, o) at t)))
    (λ o. byte (simp (o, k)) x (rw (k, o) at t)))

unescaped : (b : ℕ) (l more : List ℕ) → escapes (b ∷ (l ++ more)) ≡ false → escapes (b ∷ l) ≡ false
unescaped b [] more x = and_false (eqb b 92)
unescaped b (c ∷ l) more x = x

byte_more : (b : ℕ) (s : List ℕ) (at d : ℕ) {r : Run} → halts d b false ≡ false → escapes (b ∷ s) ≡ false → Ran s (at + 1) (depth_after d b false) r → Ran (b ∷ s) at d r
byte_more b s at d h x m =
    record {
      l = b ∷ m.l;
      more = m.more;
      whole = ap (λ (i : List ℕ). b ∷ i) m.whole;
      place = omega arith;
      clean = every.more {b = b} (simp (neither (control b) (eqb b 41 && eqb d 0) h).0) m.clean;
      counted = counted_more d b h (unescaped b m.l m.more (rw m.whole at x)) m.counted;
    }

escape_more : (p : ℕ) (s : List ℕ) (at d : ℕ) {r : Run} → punctuation p ≡ true → control p ≡ false → Ran s (at + 1 + 1) d r → Ran (92 ∷ p ∷ s) at d r
escape_more p s at d x c m =
    record {
      l = 92 ∷ p ∷ m.l;
      more = m.more;
      whole = ap (λ (i : List ℕ). 92 ∷ p ∷ i) m.whole;
      place = omega arith;
      clean = every.more refl (every.more {b = p} (simp c) m.clean);
      counted = escape x m.counted;
    }

-- ASCII punctuation is no control byte
low : (p : ℕ) → control p ≡ true → punctuation p ≡ false
low p c =
    by (ltb p 33)
    (λ h. let n = ltb-true p 33 h in simp (lt-leb 33 p (omega arith), lt-leb 58 p (omega arith), lt-leb 91 p (omega arith), lt-leb 123 p (omega arith)))
    (λ h. rw (eqb-true p 127 (rw h at c)))

ink : (p : ℕ) → punctuation p ≡ true → control p ≡ false
ink p e = by (control p) (λ c. absurd (true≢false (sym e ∙ low p c))) (λ c. c)

abbrev Sound : List ℕ → Type 0
Sound s = (at d : ℕ) → Ran s at d (raw_from s (state at false d))

-- over a byte that is no escape's
step : (b : ℕ) (s : List ℕ) → Sound s → (at d : ℕ) → halts d b false ≡ false → escapes (b ∷ s) ≡ false → Ran (b ∷ s) at d (raw_from (b ∷ s) (state at false d))
step b s f at d h x = rw (pass b s at d false h x refl) (byte_more b s at d h x (f (at + 1) (depth_after d b false)))

escaped : (p : ℕ) (s : List ℕ) → Sound s → (at d : ℕ) → punctuation p ≡ true → Ran (92 ∷ p ∷ s) at d (raw_from (92 ∷ p ∷ s) (state at false d))
unfolding depth_after
escaped p s g at d e =
    rw (pass 92 (p ∷ s) at d false refl e refl, pass p s (at + 1) d true (simp (ink p e)) refl refl)
    (escape_more p s at d e (ink p e) (g (at + 1 + 1) d))

sound_one : (b : ℕ) → Sound [] → Sound (b ∷ [])
sound_one b f at d = by (halts d b false) (λ h. rw (halt b [] at d false h) (here (b ∷ []) at d)) (λ h. step b [] f at d h (and_false (eqb b 92)))

sound_two : (b p : ℕ) (s : List ℕ) → Sound (p ∷ s) → Sound s → Sound (b ∷ p ∷ s)
sound_two b p s f g at d =
    by (halts d b false) (λ h. rw (halt b (p ∷ s) at d false h) (here (b ∷ p ∷ s) at d))
    (λ h. by (escapes (b ∷ p ∷ s))
    (λ x. let (eb, ep) = slash b p s x in rw eb (escaped p s g at d ep))
    (step b (p ∷ s) f at d h))

sound : (s : List ℕ) → Sound s
unfolding scan
sound [] = λ at d. here [] at d
sound (b ∷ []) = sound_one b (sound [])
sound (b ∷ p ∷ s) = sound_two b p s (sound (p ∷ s)) (sound s)

-- ---- the longest admissible run, and the parentheses that it leaves open
pub record RunAt (s : List ℕ) (at : ℕ) (r : Run) : Type 0 where
  pub run : List ℕ
  pub more : List ℕ
  pub longest : Longest s run more
  pub leaves : Leaves r.depth run
  pub place : r.end ≡ at + length run

-- an admissible front lies within the run
within : (s : List ℕ) (at : ℕ) (k rest : List ℕ) {e : ℕ} → s ≡ k ++ rest → Clean k → Leaves e k → Reaches (at + length k) e (raw_run s at)
unfolding raw_run
within s at k rest {e} w c p = let (inside, q) = over ((leaves_iff e k).0 p) c rest at in rw (w, q) (reaches rest (at + length k) e inside)

found : (s : List ℕ) (at : ℕ) → RunAt s at (raw_run s at)
unfolding raw_run
found s at =
    let m = sound s at 0 in
    let left = (leaves_iff _ m.l).1 m.counted in
    record {
      run = m.l;
      more = m.more;
      longest =
          record {
            whole = m.whole;
            admissible = record { clean = m.clean; parentheses = (closes_only_opened_iff m.l).1 (_, left) };
            longest = λ k rest w a. omega (arith, (within s at k rest w a.clean ((closes_only_opened_iff k).0 a.parentheses).1).0, m.place);
          };
      leaves = left;
      place = m.place;
    }

same : (s : List ℕ) (at : ℕ) (r : Run) → RunAt s at r → RunAt s at (raw_run s at) → raw_run s at ≡ r
same s at r m f =
    let (most, deep) = within s at m.run m.more m.longest.whole m.longest.admissible.clean m.leaves in
    let least = m.longest.longest f.run f.more f.longest.whole f.longest.admissible in
    let e : (raw_run s at).end ≡ r.end = omega (arith, m.place, f.place) in
    let d : (raw_run s at).depth ≡ r.depth = deep (e ∙ m.place) in
    λ i. record { end = e i; depth = d i }

pub raw_run_iff : (s : List ℕ) (at : ℕ) (r : Run) → (raw_run s at ≡ r) ↔ RunAt s at r
raw_run_iff s at r = ((λ e. rw e at (found s at)), (λ m. same s at r m (found s at)))
