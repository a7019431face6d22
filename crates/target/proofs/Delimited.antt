-- What lies between delimiters: `enclosed_of` finds exactly that.
use Rattle.std.specs.Prelude.{None, Option, Some}
use Prim.Native.Nat.{ℕ, ◌+◌, ◌-◌, ◌≤◌, ◌<◌}
use native.Mathlib.Omega.{arith}
use mathlib.Core.Path.{◌≡◌, refl, sym, ap, ◌∙◌}
use mathlib.Core.List.{List, [], ◌∷◌, ◌++◌, append_assoc}
use mathlib.Core.Bool.{true}
use mathlib.Core.Logic.{◌↔◌}
use lib.ListN.{length, get_or, take, drop, length-append, length-drop}
use lib.Seq.{take_at, drop_at, drop-drop}
use Rattle.scan.specs.Closing.{inner, Closed}
use Rattle.scan.specs.Reading.{closing}
use Rattle.scan.proofs.Closing.{closing_iff}
use Rattle.target.specs.Target.{Between}
use Rattle.target.specs.Reading.{part, up_to, enclosed_of}
use Rattle.target.specs.declared.Part.{Part}

pub span_eq : {a b c d e f : ℕ} → a ≡ b → c ≡ d → e ≡ f → Some (part a c e) ≡ Some (part b d f)
span_eq p q r = cc

pub same_part : {a b c d e f : ℕ} → Some (part a c e) ≡ Some (part b d f) → (a ≡ b) × (c ≡ d) × (e ≡ f)
same_part {a} {b} {c} {d} {e} {f} q =
    let p : part a c e ≡ part b d f = cc in
    (ap (λ (x : Part). x.start) p, ap (λ (x : Part). x.end) p, ap (λ (x : Part). x.next) p)

pub never : {a e n : ℕ} → None ≡ Some (part a e n) → ⊥
never q = let z : ◌≡◌ {A = ℕ} 0 1 = cc in omega arith

pub or_nothing : (p : Option Part) → ((a e n : ℕ) → p ≡ Some (part a e n) → ⊥) → p ≡ None
or_nothing (Some p) f = absurd (f p.start p.end p.next refl)
or_nothing None f = refl

-- the content at the front of s, which starts at place `at`
pub record EnclosedAt (close bar other : ℕ) (s : List ℕ) (at a e n : ℕ) : Type 0 where
  pub content : List ℕ
  pub more : List ℕ
  pub closed : Closed close bar other s content more
  pub start : a ≡ at
  pub end : e ≡ a + length content
  pub past : n ≡ e + 1

-- the backslash is no delimiter
module _ (close bar other : ℕ) (free : inner close bar other 92 ≡ true) where
  sound : (s : List ℕ) (at a e n : ℕ) (f : Option ℕ) → closing close bar other s at ≡ f → up_to at f ≡ Some (part a e n) → EnclosedAt close bar other s at a e n
  sound s at a e n (Some x) q r =
      let m = (closing_iff close bar other free s at x).0 q in
      let (ea, ex, en) = same_part r in
      record { content = m.text; more = m.more; closed = m.closed; start = sym ea; end = omega (arith, m.place); past = omega arith }
  sound s at a e n None q r = absurd (never r)

  pub enclosed_iff : (s : List ℕ) (at a e n : ℕ) → (enclosed_of close bar other s at ≡ Some (part a e n)) ↔ EnclosedAt close bar other s at a e n
  enclosed_iff s at a e n = (
    sound s at a e n (closing close bar other s at) refl,
    (λ m.
        let q = (closing_iff close bar other free s at e).1 (record { text = m.content; more = m.more; closed = m.closed; place = omega (arith, m.start, m.end) }) in
        rw q (span_eq (sym m.start) refl (sym m.past))),
  )

-- the byte at the front
pub front : (s : List ℕ) (q : ℕ) → get_or s 0 0 ≡ q → (q ≡ 0 → ⊥) → s ≡ q ∷ drop 1 s
front [] q e n = absurd (n (sym e))
front (b ∷ s) q e n = ap (λ (x : ℕ). x ∷ s) e

-- ---- places within the text
-- s is the content with `from` bytes on each side of it, and more
pub record Parts (s content more : List ℕ) (from : ℕ) : Type 0 where
  pub before : List ℕ
  pub after : List ℕ
  pub whole : s ≡ before ++ (content ++ (after ++ more))
  pub opening : length before ≡ from
  pub closing_part : length after ≡ from

pub between_parts : {opening close bar other : ℕ} {s l more : List ℕ} → Between opening close bar other s l more → Parts s l more 1
between_parts {opening} {close} b =
    record { before = opening ∷ []; after = close ∷ []; whole = b.whole ∙ ap (λ (x : List ℕ). opening ∷ x) b.inner.whole; opening = refl; closing_part = refl }

-- The places of a part of s, where s starts at place `at`, are in order and within s;
-- the bytes from a to e are the content, and from n on there is `more`.
pub record Placed (s : List ℕ) (at a e n : ℕ) (content more : List ℕ) : Type 0 where
  pub low : at ≤ a
  pub order : a ≤ e
  pub high : e ≤ n
  pub moves : at < n
  pub fits : n ≤ at + length s
  pub bytes : take (e - a) (drop (a - at) s) ≡ content
  pub rest : drop (n - at) s ≡ more

pub placed : {s l more : List ℕ} {from : ℕ} (at a e n : ℕ) → Parts s l more from → a ≡ at + from → e ≡ a + length l → n ≡ e + from → 0 < from + length l → Placed s at a e n l more
placed {s} {l} {more} {from} at a e n p ea ee en h =
    let b = p.before in
    let c = p.after in
    let q : s ≡ (b ++ l ++ c) ++ more = p.whole ∙ sym (simp append_assoc) in
    let k : length (b ++ l ++ c) ≡ n - at = simp length-append (omega (arith, p.opening, p.closing_part)) in
    record {
      low = omega arith;
      order = omega arith;
      high = omega arith;
      moves = omega arith;
      fits = omega (arith, ap length q, length-append (b ++ l ++ c) more, k);
      bytes = rw (p.whole, drop_at b (l ++ (c ++ more)) (a - at) (omega (arith, p.opening))) (take_at l (c ++ more) (e - a) (omega arith));
      rest = rw q (drop_at (b ++ l ++ c) more (n - at) k);
    }

-- the same where s is what is left of a longer text
pub record Within (s : List ℕ) (at a e n : ℕ) (content more : List ℕ) : Type 0 where
  pub low : at ≤ a
  pub order : a ≤ e
  pub high : e ≤ n
  pub moves : at < n
  pub fits : n ≤ length s
  pub bytes : take (e - a) (drop a s) ≡ content
  pub rest : drop n s ≡ more

-- what is left from place i on, read from an earlier place
later : (s : List ℕ) (at i : ℕ) → at ≤ i → drop i s ≡ drop (i - at) (drop at s)
later s at i h = let q : i ≡ at + (i - at) = omega arith in ap (λ (j : ℕ). drop j s) q ∙ sym (drop-drop (i - at) at s)

pub placed_within : {s l more : List ℕ} {at a e n : ℕ} → Placed (drop at s) at a e n l more → Within s at a e n l more
placed_within {s} {l} {more} {at} {a} {e} {n} p =
    record {
      low = p.low;
      order = p.order;
      high = p.high;
      moves = p.moves;
      fits = omega (arith, p.fits, p.moves, length-drop at s);
      bytes = rw (later s at a p.low) p.bytes;
      rest = rw (later s at n (omega (arith, p.moves))) p.rest;
    }
