-- `destination_of` finds exactly the destination that starts a text.
use Rattle.std.specs.Prelude.{None, Some}
use Prim.Native.Nat.{ℕ, ◌+◌, ◌≤◌, ◌<◌}
use native.Mathlib.Omega.{arith}
use mathlib.Core.Path.{◌≡◌, refl, sym, ap, ◌∙◌}
use mathlib.Core.List.{List, [], ◌++◌}
use mathlib.Core.Bool.{Bool, true, false, true≢false, not, ◌||◌}
use mathlib.Core.Logic.{◌↔◌}
use borrow.Author.Tests.{ne_eqb, eqb-true, eqb-false, not-true, not-false, ltb-false}
use lib.ListN.{length, get_or, drop}
use lib.Dec.{eqb}
use Rattle.scan.proofs.Test.{by, neither}
use Rattle.scan.specs.Byte.{punctuation, blank}
use Rattle.scan.specs.Every.{Every}
use Rattle.scan.specs.Every as every
use Rattle.scan.specs.Closing.{Units, none, escape, byte, inner}
use Rattle.target.specs.Target.{control, Raw, Between, Destination, angled, raw, DestinationAt}
use Rattle.target.specs.Reading.{raw_run, part, judged, destination_of}
use Rattle.target.specs.declared.Run.{Run}
use Rattle.target.proofs.Parentheses.{balanced_iff}
use Rattle.target.proofs.Raw.{RunAt, raw_run_iff}
use Rattle.target.proofs.Delimited.{span_eq, same_part, never, or_nothing, front, enclosed_iff, between_parts, Parts, Placed, placed, Within, placed_within}

-- ---- without angle brackets
record Judged (at : ℕ) (r : Run) (a e n : ℕ) : Type 0 where
  start : a ≡ at
  end : e ≡ r.end
  past : n ≡ r.end
  nonempty : r.end ≡ at → ⊥
  balanced : r.depth ≡ 0

judged_span : (at : ℕ) (r : Run) (a e n : ℕ) → judged at r ≡ Some (part a e n) → Judged at r a e n
unfolding judged
judged_span at r a e n q =
    by (eqb r.end at || not (eqb r.depth 0)) (λ t. absurd (never (rw t at q)))
    (λ f.
    let (ne, bal) = neither (eqb r.end at) (not (eqb r.depth 0)) f in
    let (start, end, past) = same_part (rw f at q) in
    record { start = sym start; end = sym end; past = sym past; nonempty = eqb-false r.end at ne; balanced = eqb-true r.depth 0 (not-false _ bal) })

raw_sound : (s : List ℕ) (at a e n : ℕ) (r : Run) → (get_or s 0 0 ≡ 60 → ⊥) → RunAt s at r → Judged at r a e n → DestinationAt s at a e n
raw_sound s at a e n r u m j =
    record {
      from = 0;
      content = m.run;
      more = m.more;
      destination = raw (record { run = m.longest; unangled = u; nonempty = omega (arith, j.nonempty, m.place); closed = (balanced_iff m.run).1 (rw j.balanced at m.leaves) });
      start = omega (arith, j.start);
      end = omega (arith, j.start, j.end, m.place);
      past = omega (arith, j.end, j.past);
    }

raw_complete : (s : List ℕ) (at : ℕ) {l more : List ℕ} → Raw s l more → destination_of s at ≡ Some (part at (at + length l) (at + length l))
unfolding destination_of judged
raw_complete s at {l} {more} r =
    let q = (raw_run_iff s at (record { end = at + length l; depth = 0 })).1 (record { run = l; more = more; longest = r.run; leaves = (balanced_iff l).0 r.closed; place = refl }) in
    simp (ne_eqb _ 60 r.unangled, q, ne_eqb (at + length l) at (λ z. omega (arith, r.nonempty)))

-- ---- both forms
sound : (s : List ℕ) (at a e n : ℕ) → destination_of s at ≡ Some (part a e n) → DestinationAt s at a e n
unfolding destination_of
sound s at a e n q =
    by (eqb (get_or s 0 0) 60)
    (λ h.
    let m = (enclosed_iff 62 60 10 refl (drop 1 s) (at + 1) a e n).0 (rw h at q) in
    record {
      from = 1;
      content = m.content;
      more = m.more;
      destination = angled (record { rest = drop 1 s; whole = front s 60 (eqb-true _ 60 h) (λ z. omega arith); inner = m.closed });
      start = m.start;
      end = m.end;
      past = m.past;
    })
    (λ h. raw_sound s at a e n (raw_run s at) (eqb-false _ 60 h) ((raw_run_iff s at (raw_run s at)).0 refl) (judged_span at (raw_run s at) a e n (rw h at q)))

complete : (s : List ℕ) (at : ℕ) {from : ℕ} {l more : List ℕ} → Destination s from l more
    → destination_of s at ≡ Some (part (at + from) (at + from + length l) (at + from + length l + from))
unfolding destination_of
complete s at (angled {l} {more} b) =
    rw b.whole
    ((enclosed_iff 62 60 10 refl b.rest (at + 1) _ _ _).1 (record { content = l; more = more; closed = b.inner; start = refl; end = refl; past = refl }))
complete s at (raw {l} {more} r) = raw_complete s at r ∙ span_eq (omega arith) (omega arith) (omega arith)

-- what is found is what the law says, with its places
pub destination_iff : (s : List ℕ) (at a e n : ℕ) → (destination_of s at ≡ Some (part a e n)) ↔ DestinationAt s at a e n
destination_iff s at a e n = (
  sound s at a e n,
  (λ m. complete s at m.destination ∙ span_eq (omega (arith, m.start)) (omega (arith, m.start, m.end)) (omega (arith, m.start, m.end, m.past))),
)

parts : {s : List ℕ} {from : ℕ} {l more : List ℕ} → Destination s from l more → Parts s l more from
parts (angled b) = between_parts b
parts (raw r) = record { before = []; after = []; whole = r.run.whole; opening = refl; closing_part = refl }

sized : {s : List ℕ} {from : ℕ} {l more : List ℕ} → Destination s from l more → 0 < from + length l
sized (angled b) = omega arith
sized (raw r) = omega (arith, r.nonempty)

-- at most one destination starts a text
pub destination_one : {s : List ℕ} {f f' : ℕ} {l l' m m' : List ℕ} → Destination s f l m → Destination s f' l' m' → (f ≡ f') × (l ≡ l') × (m ≡ m')
destination_one {s} {f} {f'} {l} {l'} d d' =
    let (ea, ee, en) = same_part (sym (complete s 0 d) ∙ complete s 0 d') in
    let p = placed 0 (0 + f) (0 + f + length l) (0 + f + length l + f) (parts d) refl refl refl (sized d) in
    let p' = placed 0 (0 + f') (0 + f' + length l') (0 + f' + length l' + f') (parts d') refl refl refl (sized d') in
    (omega arith, (cc), (cc))

-- none is found exactly where none starts
pub no_destination_iff : (s : List ℕ) (at : ℕ) → (destination_of s at ≡ None) ↔ ((from : ℕ) (l more : List ℕ) → Destination s from l more → ⊥)
no_destination_iff s at = (
  (λ q from l more d. never (sym q ∙ complete s at d)),
  (λ f. or_nothing (destination_of s at) (λ a e n q. let m = sound s at a e n q in f m.from m.content m.more m.destination)),
)

-- ---- where it stands
pub destination_placed : {s : List ℕ} {at a e n : ℕ} (m : DestinationAt s at a e n) → Placed s at a e n m.content m.more
destination_placed {s} {at} {a} {e} {n} m = placed at a e n (parts m.destination) m.start m.end m.past (sized m.destination)

-- where the destination is read from a place of a longer text
pub destination_within : (s : List ℕ) (at a e n : ℕ) → destination_of (drop at s) at ≡ Some (part a e n) → (l : List ℕ) × (more : List ℕ) × Within s at a e n l more
destination_within s at a e n q = let m = sound (drop at s) at a e n q in (m.content, m.more, placed_within (destination_placed m))

no_line : (t : ℕ → Bool) → t 10 ≡ false → (b : ℕ) → t b ≡ true → not (eqb b 10) ≡ true
no_line t z b h = by (eqb b 10) (λ e. absurd (true≢false (sym h ∙ ap t (eqb-true b 10 e) ∙ z))) (λ e. simp e)

one_line : {after l : List ℕ} → Units (inner 62 60 10) after l → Every (λ b. not (eqb b 10)) l
one_line none = every.none
one_line (escape {p} e t) = every.more refl (every.more {b = p} (no_line punctuation refl p e) (one_line t))
one_line (byte {b} a x t) = every.more {b = b} (no_line (inner 62 60 10) refl b a) (one_line t)

-- an LF stands nowhere in a destination between angle brackets, not even after a backslash
pub angled_line : {s l more : List ℕ} → Between 60 62 60 10 s l more → Every (λ b. not (eqb b 10)) l
angled_line b = one_line b.inner.text

-- ---- what it starts with is not blank
inked : (b : ℕ) → not (control b) ≡ true → blank b ≡ false
inked b c =
    let h : 33 ≤ b = ltb-false b 33 (neither _ _ (not-true (control b) c)).0 in
    simp (ne_eqb b 32 (λ z. omega arith), ne_eqb b 9 (λ z. omega arith), ne_eqb b 10 (λ z. omega arith))

raw_front : {l : List ℕ} (more : List ℕ) → Every (λ b. not (control b)) l → 0 < length l → blank (get_or (l ++ more) 0 0) ≡ false
raw_front more every.none h = let no : ⊥ = omega arith in absurd no
raw_front more (every.more {b} c p) h = inked b c

pub destination_front : {s : List ℕ} {from : ℕ} {l more : List ℕ} → Destination s from l more → blank (get_or s 0 0) ≡ false
destination_front (angled b) = rw b.whole
destination_front (raw {l} {more} r) = rw r.run.whole (raw_front more r.run.admissible.clean r.nonempty)
