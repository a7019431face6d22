-- What is read as the tail of an inline link is one, by the law.
use Rattle.std.specs.Prelude.{None, Option, Some}
use Rattle.std.proofs.lemmas.Option.{none-some, cond_some}
use Prim.Native.Nat.{ℕ, ◌+◌}
use native.Mathlib.Omega.{arith}
use mathlib.Core.Path.{◌≡◌, refl, sym, ap, ◌∙◌, subst}
use mathlib.Core.Option.{some}
use mathlib.Core.List.{List, ◌∷◌}
use borrow.Author.Tests.{eqb-true, eqb-false}
use lib.ListN.{length, get_or, drop, length-drop}
use lib.Dec.{eqb}
use Rattle.scan.proofs.Test.{by}
use Rattle.scan.specs.Every.{more}
use Rattle.target.specs.Target.{DestinationAt, TitleAt}
use Rattle.target.specs.Reading.{destination_of, title_of}
use Rattle.target.specs.declared.Part.{Part}
use Rattle.target.proofs.Delimited.{front as front_byte, Within, placed_within}
use Rattle.target.proofs.Destinations.{destination_iff, destination_placed}
use Rattle.target.proofs.Titles.{title_iff, title_placed}
use Rattle.row.specs.declared.Range.{Range}
use Rattle.row.specs.Row.{range}
use Rattle.inline.specs.Tails.{part as part_of, place_of, Opens, Apart, Closes, InlineFollows, empty, untitled, titled as with_title}
use Rattle.inline.specs.ReadingTails.{space_end, closed_at, titled, after_destination, body_of, inline_of, moved, moved_parts}
use Rattle.inline.specs.declared.InlineParts.{InlineParts}
use Rattle.inline.proofs.InlineSteps.{moved_part, inline_path}
use Rattle.inline.proofs.Gaps.{gap_at, closes_from, closed_size}

closed_inv : (s : List ℕ) (h : ℕ) (d t : Option Range) (q : InlineParts) → closed_at s h d t ≡ Some q → (get_or s h 0 ≡ 41) × (record { size = h + 1; destination = d; title = t } ≡ q)
unfolding closed_at
closed_inv s h d t q r = let (e, k) = cond_some _ _ _ r in (eqb-true (get_or s h 0) 41 e, k)

module _ (s : List ℕ) (at : ℕ) (e40 : get_or s 0 0 ≡ 40) where
  abbrev inner : ℕ
  inner = space_end s 1

  opens : Opens s (drop inner s)
  opens =
      let g = gap_at s 1 in
      record { gap = g.gap; whole = front_byte s 40 e40 (λ z. omega arith) ∙ ap (λ (x : List ℕ). 40 ∷ x) g.whole; spaced = g.spaced }

  sound_empty : (q : InlineParts) → closed_at s (space_end s inner) None None ≡ Some q → InlineFollows s at (moved_parts at q)
  sound_empty q r =
      let h = space_end s inner in
      let (e, k) = closed_inv s h None None q r in
      subst (InlineFollows s at) (inline_path (closed_size s h e) refl refl ∙ ap (moved_parts at) k) (empty (drop inner s) (drop (h + 1) s) opens (closes_from s inner e))

  module _ (a e n : ℕ) (m : DestinationAt (drop inner s) inner a e n) (w : Within s inner a e n m.content m.more) where
    abbrev outer : ℕ
    outer = space_end s n

    destination_is : some (part_of (place_of at s (drop inner s) + m.from) (length m.content)) ≡ moved at (Some (range a e))
    destination_is =
        sym (moved_part at a e (place_of at s (drop inner s) + m.from) (length m.content) (omega (arith, m.start, length-drop inner s, w.fits, w.moves)) m.end)

    sound_untitled : (q : InlineParts) → closed_at s outer (Some (range a e)) None ≡ Some q → InlineFollows s at (moved_parts at q)
    sound_untitled q r =
        let (b, k) = closed_inv s outer (Some (range a e)) None q r in
        let c : Closes m.more (drop (outer + 1) s) = subst (λ (x : List ℕ). Closes x (drop (outer + 1) s)) w.rest (closes_from s n b) in
        subst (InlineFollows s at) (inline_path (closed_size s outer b) destination_is refl ∙ ap (moved_parts at) k)
        (untitled (drop inner s) m.content m.more (drop (outer + 1) s) m.from opens m.destination c)

    apart : (outer ≡ n → ⊥) → Apart m.more (drop outer s)
    apart ne =
        let g = gap_at s n in
        record { gap = g.gap; whole = sym w.rest ∙ g.whole; spaced = g.spaced; some_space = omega (arith, g.size, ne) }

    sound_titled : (outer ≡ n → ⊥) → (a' e' n' : ℕ) (m' : TitleAt (drop outer s) outer a' e' n') → Within s outer a' e' n' m'.content m'.more
        → (q : InlineParts) → closed_at s (space_end s n') (Some (range a e)) (Some (range a' e')) ≡ Some q → InlineFollows s at (moved_parts at q)
    sound_titled ne a' e' n' m' w' q r =
        let h = space_end s n' in
        let (b, k) = closed_inv s h (Some (range a e)) (Some (range a' e')) q r in
        let c : Closes m'.more (drop (h + 1) s) = subst (λ (x : List ℕ). Closes x (drop (h + 1) s)) w'.rest (closes_from s n' b) in
        let title_is = sym (moved_part at a' e' (place_of at s (drop outer s) + 1) (length m'.content) (omega (arith, m'.start, length-drop outer s, w'.fits, w'.moves)) m'.end) in
        subst (InlineFollows s at) (inline_path (closed_size s h b) destination_is title_is ∙ ap (moved_parts at) k)
        (with_title (drop inner s) m.content m.more (drop outer s) m'.content m'.more (drop (h + 1) s) m.from opens m.destination (apart ne) m'.title c)

    by_title : (outer ≡ n → ⊥) → (t : Option Part) → title_of (drop outer s) outer ≡ t → (q : InlineParts) → titled s outer (range a e) t ≡ Some q → InlineFollows s at (moved_parts at q)
    by_title ne (Some t) et q r =
        let m' = (title_iff (drop outer s) outer t.start t.end t.next).0 et in
        sound_titled ne t.start t.end t.next m' (placed_within (title_placed m')) q r
    by_title ne None et q r = sound_untitled q r

    sound_after : (q : InlineParts) → after_destination s n outer (range a e) ≡ Some q → InlineFollows s at (moved_parts at q)
    unfolding after_destination
    sound_after q r =
        by (eqb outer n) (λ k. sound_untitled q (rw (k, after_destination) at r))
        (λ k. by_title (eqb-false outer n k) (title_of (drop outer s) outer) refl q (rw (k, after_destination) at r))

  sound_body : (d : Option Part) → destination_of (drop inner s) inner ≡ d → (q : InlineParts) → body_of s inner d ≡ Some q → InlineFollows s at (moved_parts at q)
  sound_body (Some d) ed q r =
      let m = (destination_iff (drop inner s) inner d.start d.end d.next).0 ed in
      sound_after d.start d.end d.next m (placed_within (destination_placed m)) q r
  sound_body None ed q r = sound_empty q r

pub inline_sound : (s : List ℕ) (at : ℕ) (q : InlineParts) → inline_of s ≡ Some q → InlineFollows s at (moved_parts at q)
unfolding inline_of
inline_sound s at q r =
    by (eqb (get_or s 0 0) 40)
    (λ e. sound_body s at (eqb-true (get_or s 0 0) 40 e) (destination_of (drop (space_end s 1) s) (space_end s 1)) refl q (rw (e, inline_of) at r))
    (λ e. absurd (none-some q (rw (e, inline_of) at r)))
