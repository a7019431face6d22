-- What follows a destination: `title_after` finds exactly a title with its line's end, and `ending_after` exactly what ends a definition.
use Rattle.std.specs.Prelude.{None, Option, Some}
use Prim.Native.Nat.{ℕ, ◌+◌, ◌≤◌, ◌<◌}
use native.Mathlib.Omega.{arith}
use mathlib.Core.Path.{◌≡◌, refl, sym, ap, subst, ◌∙◌}
use mathlib.Core.List.{List, ◌++◌}
use mathlib.Core.Bool.{false}
use mathlib.Core.Logic.{◌↔◌, ◌⊎◌, inl, inr}
use borrow.Author.Tests.{eqb-false, ne_eqb}
use lib.ListN.{length, get_or, drop}
use lib.Dec.{eqb}
use Rattle.scan.proofs.Test.{by}
use Rattle.scan.specs.Byte.{blank}
use Rattle.target.specs.Target.{Space, Title, TitleAt}
use Rattle.target.specs.Reading.{space_run, part, title_of}
use Rattle.target.specs.declared.Part.{Part}
use Rattle.target.proofs.Space.{space_exact, space_run_iff}
use Rattle.target.proofs.Delimited.{span_eq, same_part, never, or_nothing, placed_within}
use Rattle.target.proofs.Titles.{title_iff, title_placed, title_front}
use Rattle.definition.specs.Definition.{LineEnd, Titled, Ending, titled, untitled}
use Rattle.definition.specs.Reading.{line_after, span_to, with_line, space_after, title_after, or_line, ending_after}
use Rattle.definition.proofs.Lines.{Left, left_after, LeftByLine, LineAt, line_after_iff, line_complete, line_place}

-- ---- space from place n on, and what follows it
pub record Spaced (s : List ℕ) (n : ℕ) : Type 0 where
  pub gap : List ℕ
  pub body : List ℕ
  pub whole : drop n s ≡ gap ++ body
  pub space : Space gap
  pub place : space_after s n ≡ n + length gap
  pub there : Left s (space_after s n) body

module _ (s : List ℕ) (n : ℕ) (h : n ≤ length s) where
  pub spaced : Spaced s n
  spaced =
      let m = (space_run_iff (drop n s) (space_run (drop n s))).0 refl in
      let e : n + space_run (drop n s) ≡ n + length m.front = omega (arith, m.size) in
      record {
        gap = m.front;
        body = m.rest;
        whole = m.whole;
        space = m.space;
        place = e;
        there = rw e (left_after s n m.front m.rest h m.whole);
      }

  -- space that no blank byte follows
  pub space_there : {gap body : List ℕ} → drop n s ≡ gap ++ body → Space gap → blank (get_or body 0 0) ≡ false
      → (space_after s n ≡ n + length gap) × Left s (space_after s n) body
  space_there {gap} {body} w p b =
      let e : n + space_run (drop n s) ≡ n + length gap = omega (arith, space_exact (drop n s) gap body w p b) in
      (e, rw e (left_after s n gap body h w))

-- ---- a title with its line's end
pub record TitledAt (s : List ℕ) (n a z k : ℕ) : Type 0 where
  pub before : ℕ
  pub content : List ℕ
  pub rest : List ℕ
  pub is_titled : Titled (drop n s) before content rest
  pub start : a ≡ n + before
  pub end : z ≡ a + length content
  pub place : Left s k rest
  pub low : n < a
  pub high : z < k

-- a title at place g, with its line's end
record LinedAt (s : List ℕ) (g a z k : ℕ) : Type 0 where
  m : ℕ
  is_title : TitleAt (drop g s) g a z m
  line : LineAt s m k

lined : (s : List ℕ) (g a z k : ℕ) (t : Option Part) → title_of (drop g s) g ≡ t → with_line s t ≡ Some (part a z k) → LinedAt s g a z k
lined s g a z k None q r = absurd (never r)
lined s g a z k (Some p) q r = go (line_after s p.next) refl r
  where
    go : (f : Option ℕ) → line_after s p.next ≡ f → span_to p.start p.end f ≡ Some (part a z k) → LinedAt s g a z k
    go None e r = absurd (never r)
    go (Some x) e r =
        let (eb, ey, ex) = same_part r in
        let i : TitleAt (drop g s) g a z p.next = rw (eb, ey) at ((title_iff (drop g s) g p.start p.end p.next).0 q) in
        record { m = p.next; is_title = i; line = (line_after_iff s p.next (placed_within (title_placed i)).fits k).0 (e ∙ ap Some ex) }

module _ (s : List ℕ) (n : ℕ) (h : n ≤ length s) where
  title_sound : (a z k : ℕ) → title_after s n ≡ Some (part a z k) → TitledAt s n a z k
  unfolding title_after
  title_sound a z k q =
      let g = space_after s n in
      by (eqb g n) (λ t. absurd (never (rw t at q)))
      (λ f.
      let p = spaced s n h in
      let m = lined s g a z k (title_of (drop g s) g) refl (rw f at q) in
      let t = m.is_title in
      record {
        before = length p.gap + 1;
        content = t.content;
        rest = m.line.rest;
        is_titled =
            record {
              gap = p.gap;
              body = p.body;
              after = t.more;
              whole = p.whole;
              spaced = p.space;
              apart = omega (arith, p.place, eqb-false g n f);
              title = subst (λ (x : List ℕ). Title x t.content t.more) p.there.rest t.title;
              place = refl;
              line = subst (λ (x : List ℕ). LineEnd x m.line.rest) (placed_within (title_placed t)).rest m.line.line;
            };
        start = omega (arith, t.start, p.place);
        end = t.end;
        place = m.line.place;
        low = omega (arith, t.start, p.place);
        high = omega (arith, t.past, m.line.onward);
      })

  -- a title that the law finds, by its place
  record FoundTitle (content after : List ℕ) (before : ℕ) : Type 0 where
    is_title : TitleAt (drop (space_after s n) s) (space_after s n) (n + before) (n + before + length content) (n + before + length content + 1)
    apart : space_after s n ≡ n → ⊥
    there : Left s (n + before + length content + 1) after

  find_title : {before : ℕ} {content rest : List ℕ} (t : Titled (drop n s) before content rest) → FoundTitle content t.after before
  find_title {before} {content} t =
      let (e, there) = space_there s n h t.whole t.spaced (title_front t.title) in
      let i : TitleAt (drop (space_after s n) s) (space_after s n) (n + before) (n + before + length content) (n + before + length content + 1)
      = record { content = content; more = t.after; title = rw there.rest t.title; start = omega (arith, t.place); end = refl; past = refl } in
      let w = placed_within (title_placed i) in
      record { is_title = i; apart = λ z. omega (arith, t.apart); there = record { fits = w.fits; rest = w.rest } }

  title_complete : (k : ℕ) {before : ℕ} {content rest : List ℕ} → Titled (drop n s) before content rest → Left s k rest
      → title_after s n ≡ Some (part (n + before) (n + before + length content) k)
  unfolding title_after
  title_complete k {before} {content} t w =
      let f = find_title t in
      let g = space_after s n in
      let l : line_after s (n + before + length content + 1) ≡ Some k = line_complete s _ f.there.fits k (rw f.there.rest t.line) w in
      rw (ne_eqb g n f.apart, (title_iff (drop g s) g _ _ _).1 f.is_title, l)

  titled_place : {before : ℕ} {content rest : List ℕ} → Titled (drop n s) before content rest → LeftByLine s rest
  titled_place t = let f = find_title t in line_place s _ f.there.fits (rw f.there.rest t.line)

  pub title_after_iff : (a z k : ℕ) → (title_after s n ≡ Some (part a z k)) ↔ TitledAt s n a z k
  title_after_iff a z k = (
    title_sound a z k,
    (λ m. title_complete k m.is_titled m.place ∙ span_eq (sym m.start) (omega (arith, m.start, m.end)) refl),
  )

  no_title : ((before : ℕ) (content left : List ℕ) → Titled (drop n s) before content left → ⊥) → title_after s n ≡ None
  no_title f = or_nothing (title_after s n) (λ a z k q. let m = title_sound a z k q in f m.before m.content m.rest m.is_titled)

-- ---- what ends a definition
-- the title's place: none, or between the destination and the definition's end
abbrev pub TitlePlace : ℕ → ℕ → ℕ → ℕ → Type 0
TitlePlace n t u k = ((t ≡ 0) × (u ≡ 0)) ⊎ ((n < t) × (t ≤ u) × (u < k))

pub record EndingAt (s : List ℕ) (n a z k : ℕ) : Type 0 where
  pub rest : List ℕ
  pub ending : Ending (drop n s) n a z rest
  pub place : Left s k rest
  pub onward : n ≤ k
  pub title_place : TitlePlace n a z k

module _ (s : List ℕ) (n : ℕ) (h : n ≤ length s) where
  with_title : (a z k : ℕ) → TitledAt s n a z k → EndingAt s n a z k
  with_title a z k m =
      let e : Ending (drop n s) n (n + m.before) (n + m.before + length m.content) m.rest = titled m.is_titled in
      let ez : n + m.before + length m.content ≡ z = omega (arith, m.start, m.end) in
      record {
        rest = m.rest;
        ending = subst (λ (x : ℕ). Ending (drop n s) n x z m.rest) (sym m.start) (subst (λ (x : ℕ). Ending (drop n s) n (n + m.before) x m.rest) ez e);
        place = m.place;
        onward = omega (arith, m.low, m.high, m.end);
        title_place = inr (m.low, omega (arith, m.end), m.high);
      }

  without : (k : ℕ) → title_after s n ≡ None → LineAt s n k → EndingAt s n 0 0 k
  without k q m =
      record {
        rest = m.rest;
        ending = untitled (λ b c r t. let p = titled_place s n h t in never (sym q ∙ title_complete s n h p.place t p.left)) m.line;
        place = m.place;
        onward = m.onward;
        title_place = inl (refl, refl);
      }

  ending_sound : (a z k : ℕ) → ending_after s n ≡ Some (part a z k) → EndingAt s n a z k
  unfolding ending_after
  ending_sound a z k q = go (title_after s n) refl q
    where
      line : (f : Option ℕ) → title_after s n ≡ None → line_after s n ≡ f → span_to 0 0 f ≡ Some (part a z k) → EndingAt s n a z k
      line None e l r = absurd (never r)
      line (Some x) e l r =
          let (ea, ez, ex) = same_part r in
          rw (← ea, ← ez) (without k e ((line_after_iff s n h k).0 (l ∙ ap Some ex)))

      go : (t : Option Part) → title_after s n ≡ t → or_line s n t ≡ Some (part a z k) → EndingAt s n a z k
      go None e r = line (line_after s n) e refl r
      go (Some p) e r = with_title a z k ((title_after_iff s n h a z k).0 (e ∙ r))

  pub ending_complete : (k : ℕ) {a z : ℕ} {rest : List ℕ} → Ending (drop n s) n a z rest → Left s k rest → ending_after s n ≡ Some (part a z k)
  unfolding ending_after
  ending_complete k (titled t) w = rw (title_complete s n h k t w)
  ending_complete k (untitled f l) w = rw (no_title s n h f, line_complete s n h k l w)

  pub ending_after_iff : (a z k : ℕ) → (ending_after s n ≡ Some (part a z k)) ↔ EndingAt s n a z k
  ending_after_iff a z k = (ending_sound a z k, λ m. ending_complete k m.ending m.place)

  pub ending_place : {a z : ℕ} {rest : List ℕ} → Ending (drop n s) n a z rest → LeftByLine s rest
  ending_place (titled t) = titled_place s n h t
  ending_place (untitled f l) = line_place s n h l
