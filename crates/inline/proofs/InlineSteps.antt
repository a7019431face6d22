-- The steps of `inline_of`, each by what stands there.
use Rattle.std.specs.Prelude.{None, Option as Found, Some}
use Prim.Native.Nat.{ℕ, ◌+◌, ◌<◌}
use native.Mathlib.Omega.{arith}
use mathlib.Core.Path.{◌≡◌, refl, sym, ◌∙◌}
use mathlib.Core.Option.{Option, none, some}
use mathlib.Core.List.{List, ◌∷◌, ◌++◌}
use mathlib.Core.Bool.{true≢false}
use borrow.Author.Tests.{eq-eqb, ne_eqb}
use lib.ListN.{get_or, drop}
use lib.Dec.{eqb}
use Rattle.scan.proofs.Test.{by}
use Rattle.scan.specs.Byte.{blank}
use Rattle.scan.specs.Reading.{scan}
use Rattle.scan.specs.Every.{Every, none, more}
use Rattle.target.specs.Reading.{raw_step, raw_run, part as content, judged, destination_of, title_of}
use Rattle.target.proofs.Destinations.{no_destination_iff, destination_front}
use Rattle.row.specs.declared.Range.{Range}
use Rattle.row.specs.Row.{range}
use Rattle.inline.specs.Tails.{inline, part as part_of}
use Rattle.inline.specs.ReadingTails.{parts, space_end, closed_at, after_destination, after_space, inline_of, moved}

-- ---- the reading's steps, by what stands there
module _ (s : List ℕ) where
  pub closed_yes : (h : ℕ) (d t : Found Range) → get_or s h 0 ≡ 41 → closed_at s h d t ≡ parts (h + 1) d t
  unfolding closed_at
  closed_yes h d t e = rw e

  pub after_alone : (n h : ℕ) (d : Range) → title_of (drop h s) h ≡ None → after_destination s n h d ≡ closed_at s h (Some d) None
  unfolding after_destination
  after_alone n h d e = by (eqb h n) (λ k. rw (k, after_destination)) (λ k. rw (k, after_destination, e))

  pub after_titled : (n h : ℕ) (d : Range) → (h ≡ n → ⊥) → {a e m : ℕ} → title_of (drop h s) h ≡ Some (content a e m) → after_destination s n h d ≡ closed_at s (space_end s m) (Some d) (Some (range a e))
  unfolding after_destination
  after_titled n h d k e = rw (ne_eqb h n k, after_destination, e)

  pub opened : get_or s 0 0 ≡ 40 → inline_of s ≡ after_space s (space_end s 1)
  unfolding inline_of
  opened e = rw (eq-eqb (get_or s 0 0) 40 e, inline_of)

-- ---- no title and no destination starts with `)`, and no destination with a blank
pub no_title : (rest : List ℕ) (h : ℕ) → title_of (41 ∷ rest) h ≡ None
unfolding title_of
no_title rest h = refl

pub no_destination : {gap : List ℕ} (rest : List ℕ) (g : ℕ) → Every blank gap → destination_of (gap ++ 41 ∷ rest) g ≡ None
unfolding destination_of scan raw_step raw_run judged
no_destination rest g none = rw (eq-eqb g g refl)
no_destination rest g (more {b} {l} e p) = (no_destination_iff (b ∷ (l ++ 41 ∷ rest)) g).1 (λ from k after d. true≢false (sym e ∙ destination_front d))

-- ---- ranges and tails by their numbers
pub moved_part : (at a e b l : ℕ) → at + a ≡ b → e ≡ a + l → moved at (Some (range a e)) ≡ some (part_of b l)
moved_part at a e b l p q =
    let r : at + e ≡ b + l = omega arith in
    λ i. some (record { start = p i; end = r i })

pub inline_path : {n m : ℕ} {d e t u : Option Range} → n ≡ m → d ≡ e → t ≡ u → inline n d t ≡ inline m e u
inline_path p q r = cc
