-- `title_of` finds exactly the title that starts a text.
use Rattle.std.specs.Prelude.{None, Some}
use Prim.Native.Nat.{ℕ, ◌+◌}
use native.Mathlib.Omega.{arith}
use mathlib.Core.Path.{◌≡◌, refl, sym, ap, ◌∙◌}
use mathlib.Core.List.{List}
use mathlib.Core.Bool.{true, false, true≢false}
use mathlib.Core.Logic.{◌↔◌}
use borrow.Author.Tests.{eqb-true}
use lib.ListN.{length, get_or, drop}
use lib.Dec.{eqb}
use Rattle.scan.proofs.Test.{by}
use Rattle.scan.specs.Byte.{blank}
use Rattle.scan.specs.Closing.{inner}
use Rattle.target.specs.Target.{Between, Title, double, single, parentheses, TitleAt}
use Rattle.target.specs.Reading.{part, quotes, closer, title_of}
use Rattle.target.proofs.Delimited.{span_eq, same_part, never, or_nothing, front, enclosed_iff, between_parts, Placed, placed, Within, placed_within}

-- what holds of the three opening delimiters holds of each
for_quotes : (P : ℕ → Type 0) → P 34 → P 39 → P 40 → (q : ℕ) → quotes q ≡ true → P q
for_quotes P x y z q h =
    by (eqb q 34) (λ e. rw (eqb-true q 34 e) x)
    (λ n. by (eqb q 39) (λ e. rw (eqb-true q 39 e) y)
    (λ m. by (eqb q 40) (λ e. rw (eqb-true q 40 e) z)
    (λ k. absurd (true≢false (sym h ∙ simp (n, m, k))))))

-- the backslash is no delimiter
free : (q : ℕ) → quotes q ≡ true → inner (closer q) q q 92 ≡ true
unfolding closer
free = for_quotes (λ q. inner (closer q) q q 92 ≡ true) refl refl refl

as_title : {s l more : List ℕ} (q : ℕ) → quotes q ≡ true → Between q (closer q) q q s l more → Title s l more
unfolding closer
as_title {s} {l} {more} = for_quotes (λ q. Between q (closer q) q q s l more → Title s l more) double single parentheses

record Quoted (s l more : List ℕ) : Type 0 where
  q : ℕ
  quote : quotes q ≡ true
  between : Between q (closer q) q q s l more

as_quoted : {s l more : List ℕ} → Title s l more → Quoted s l more
unfolding closer
as_quoted (double b) = record { q = 34; quote = refl; between = b }
as_quoted (single b) = record { q = 39; quote = refl; between = b }
as_quoted (parentheses b) = record { q = 40; quote = refl; between = b }

sound : (s : List ℕ) (at a e n : ℕ) → title_of s at ≡ Some (part a e n) → TitleAt s at a e n
unfolding title_of
sound s at a e n r =
    by (quotes (get_or s 0 0))
    (λ h.
    let q = get_or s 0 0 in
    let m = (enclosed_iff (closer q) q q (free q h) (drop 1 s) (at + 1) a e n).0 (rw h at r) in
    record {
      content = m.content;
      more = m.more;
      title = as_title q h (record { rest = drop 1 s; whole = front s q refl (λ z. true≢false (sym h ∙ ap quotes z)); inner = m.closed });
      start = m.start;
      end = m.end;
      past = m.past;
    })
    (λ h. absurd (never (rw h at r)))

complete : (s : List ℕ) (at : ℕ) {l more : List ℕ} → Title s l more → title_of s at ≡ Some (part (at + 1) (at + 1 + length l) (at + 1 + length l + 1))
unfolding title_of
complete s at {l} {more} t =
    let k = as_quoted t in
    let b = k.between in
    rw (b.whole, k.quote)
    ((enclosed_iff (closer k.q) k.q k.q (free k.q k.quote) b.rest (at + 1) _ _ _).1
    (record { content = l; more = more; closed = b.inner; start = refl; end = refl; past = refl }))

-- what is found is what the law says, with its places
pub title_iff : (s : List ℕ) (at a e n : ℕ) → (title_of s at ≡ Some (part a e n)) ↔ TitleAt s at a e n
title_iff s at a e n = (
  sound s at a e n,
  (λ m. complete s at m.title ∙ span_eq (sym m.start) (omega (arith, m.start, m.end)) (omega (arith, m.start, m.end, m.past))),
)

-- at most one title starts a text
pub title_one : {s l l' m m' : List ℕ} → Title s l m → Title s l' m' → (l ≡ l') × (m ≡ m')
title_one {s} {l} {l'} t t' =
    let (ea, ee, en) = same_part (sym (complete s 0 t) ∙ complete s 0 t') in
    let p = placed 0 (0 + 1) (0 + 1 + length l) (0 + 1 + length l + 1) (between_parts (as_quoted t).between) refl refl refl (omega arith) in
    let p' = placed 0 (0 + 1) (0 + 1 + length l') (0 + 1 + length l' + 1) (between_parts (as_quoted t').between) refl refl refl (omega arith) in
    ((cc), (cc))

-- none is found exactly where none starts
pub no_title_iff : (s : List ℕ) (at : ℕ) → (title_of s at ≡ None) ↔ ((l more : List ℕ) → Title s l more → ⊥)
no_title_iff s at = (
  (λ q l more t. never (sym q ∙ complete s at t)),
  (λ f. or_nothing (title_of s at) (λ a e n q. let m = sound s at a e n q in f m.content m.more m.title)),
)

-- where it stands
pub title_placed : {s : List ℕ} {at a e n : ℕ} (m : TitleAt s at a e n) → Placed s at a e n m.content m.more
title_placed {s} {at} {a} {e} {n} m = placed at a e n (between_parts (as_quoted m.title).between) m.start m.end m.past (omega arith)

-- where the title is read from a place of a longer text
pub title_within : (s : List ℕ) (at a e n : ℕ) → title_of (drop at s) at ≡ Some (part a e n) → (l : List ℕ) × (more : List ℕ) × Within s at a e n l more
title_within s at a e n q = let m = sound (drop at s) at a e n q in (m.content, m.more, placed_within (title_placed m))

-- what it starts with is not blank
pub title_front : {s l more : List ℕ} → Title s l more → blank (get_or s 0 0) ≡ false
title_front t = let k = as_quoted t in rw k.between.whole (for_quotes (λ q. blank q ≡ false) refl refl refl k.q k.quote)
