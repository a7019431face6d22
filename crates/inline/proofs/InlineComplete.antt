-- Every tail of an inline link, by the law, is read.
use Rattle.std.specs.Prelude.{None, Some}
use Prim.Native.Nat.{ℕ, ◌+◌, ◌-◌}
use native.Mathlib.Omega.{arith}
use mathlib.Core.Path.{◌≡◌, refl, sym, ap, ◌∙◌}
use mathlib.Core.Option.{none, some}
use mathlib.Core.List.{List, ◌++◌}
use lib.ListN.{length, get_or, drop, length-drop}
use Rattle.scan.specs.Every.{none, more}
use Rattle.target.specs.Target.{Destination, Title, DestinationAt, TitleAt}
use Rattle.target.specs.Reading.{destination_of, title_of}
use Rattle.target.proofs.Delimited.{Within, placed_within}
use Rattle.target.proofs.Destinations.{destination_iff, destination_placed, destination_front}
use Rattle.target.proofs.Titles.{title_iff, title_placed, title_front}
use Rattle.row.specs.Row.{range}
use Rattle.inline.specs.Tails.{Tail, inline, part as part_of, place_of, Opens, Apart, Closes, InlineFollows, empty, untitled, titled as with_title}
use Rattle.inline.specs.ReadingTails.{space_end, after_destination, body_of, inline_of, moved, moved_parts}
use Rattle.inline.specs.declared.InlineParts.{InlineParts}
use Rattle.inline.proofs.InlineSteps.{closed_yes, after_alone, after_titled, opened, no_title, no_destination, moved_part, inline_path}
use Rattle.inline.proofs.Gaps.{gap_size, past_gap, closes_at, second_gap}

-- ---- complete: a tail by the law is read
pub record ReadAs (s : List ℕ) (at : ℕ) (t : Tail) : Type 0 where
  pub found : InlineParts
  pub reads : inline_of s ≡ Some found
  pub is : moved_parts at found ≡ t

module _ (s : List ℕ) (at : ℕ) where
  abbrev inner : ℕ
  inner = space_end s 1

  module _ {body : List ℕ} (o : Opens s body) where
    front : get_or s 0 0 ≡ 40
    front = ap (λ (x : List ℕ). get_or x 0 0) o.whole

    after : drop 1 s ≡ o.gap ++ body
    after = ap (drop 1) o.whole

    empty_read : {rest : List ℕ} → Closes body rest → ReadAs s at (inline (length s - length rest) none none)
    empty_read {rest} c =
        let c' : Closes (drop inner s) rest = second_gap s 1 o.gap body after o.spaced c in
        let k = closes_at s inner c' in
        let h = space_end s inner in
        let none_there : destination_of (drop inner s) inner ≡ None = ap (λ (x : List ℕ). destination_of x inner) c'.whole ∙ no_destination rest inner c'.spaced.blanks in
        record {
          found = record { size = h + 1; destination = None; title = None };
          reads = opened s front ∙ ap (body_of s inner) none_there ∙ closed_yes s h None None k.byte;
          is = inline_path (sym k.size) refl refl;
        }

    module _ {from : ℕ} {content more : List ℕ} (d : Destination body from content more) where
      abbrev first : ℕ
      first = inner + from

      abbrev last : ℕ
      last = first + length content

      abbrev past : ℕ
      past = last + from

      body_is : body ≡ drop inner s
      body_is = past_gap s 1 o.gap body after o.spaced (destination_front d)

      at_inner : DestinationAt (drop inner s) inner first last past
      at_inner = record { from = from; content = content; more = more; destination = rw body_is at d; start = refl; end = refl; past = refl }

      within : Within s inner first last past content more
      unfolding at_inner
      within = placed_within (destination_placed at_inner)

      to_destination : inline_of s ≡ after_destination s past (space_end s past) (range first last)
      to_destination = opened s front ∙ ap (body_of s inner) ((destination_iff (drop inner s) inner first last past).1 at_inner)

      destination_is : moved at (Some (range first last)) ≡ some (part_of (place_of at s body + from) (length content))
      destination_is =
          moved_part at first last (place_of at s body + from) (length content)
          (omega (arith, ap length body_is, length-drop inner s, within.fits, within.moves)) refl

      untitled_read : {rest : List ℕ} → Closes more rest → ReadAs s at (inline (length s - length rest) (some (part_of (place_of at s body + from) (length content))) none)
      untitled_read {rest} c =
          let h = space_end s past in
          let c' : Closes (drop past s) rest = rw within.rest c in
          let k = closes_at s past c' in
          record {
            found = record { size = h + 1; destination = Some (range first last); title = None };
            reads = to_destination
                ∙ after_alone s past h (range first last) (ap (λ (x : List ℕ). title_of x h) k.front ∙ no_title rest h)
                ∙ closed_yes s h (Some (range first last)) None k.byte;
            is = inline_path (sym k.size) destination_is refl;
          }

      module _ {quoted content' more' : List ℕ} (x : Apart more quoted) (t : Title quoted content' more') where
        abbrev outer : ℕ
        outer = space_end s past

        gap_is : drop past s ≡ x.gap ++ quoted
        gap_is = within.rest ∙ x.whole

        quoted_is : quoted ≡ drop outer s
        quoted_is = past_gap s past x.gap quoted gap_is x.spaced (title_front t)

        spaced : outer ≡ past → ⊥
        spaced e = omega (arith, gap_size s past x.gap quoted gap_is x.spaced (title_front t), x.some_space)

        abbrev last' : ℕ
        last' = outer + 1 + length content'

        at_outer : TitleAt (drop outer s) outer (outer + 1) last' (last' + 1)
        at_outer = record { content = content'; more = more'; title = rw quoted_is at t; start = refl; end = refl; past = refl }

        within' : Within s outer (outer + 1) last' (last' + 1) content' more'
        unfolding at_outer
        within' = placed_within (title_placed at_outer)

        title_is : moved at (Some (range (outer + 1) last')) ≡ some (part_of (place_of at s quoted + 1) (length content'))
        title_is =
            moved_part at (outer + 1) last' (place_of at s quoted + 1) (length content')
            (omega (arith, ap length quoted_is, length-drop outer s, within'.fits, within'.moves)) refl

        titled_read : {rest : List ℕ} → Closes more' rest
            → ReadAs s at (inline (length s - length rest) (some (part_of (place_of at s body + from) (length content))) (some (part_of (place_of at s quoted + 1) (length content'))))
        titled_read {rest} c =
            let h = space_end s (last' + 1) in
            let c' : Closes (drop (last' + 1) s) rest = rw within'.rest c in
            let k = closes_at s (last' + 1) c' in
            record {
              found = record { size = h + 1; destination = Some (range first last); title = Some (range (outer + 1) last') };
              reads = to_destination
                  ∙ after_titled s past outer (range first last) spaced ((title_iff (drop outer s) outer (outer + 1) last' (last' + 1)).1 at_outer)
                  ∙ closed_yes s h (Some (range first last)) (Some (range (outer + 1) last')) k.byte;
              is = inline_path (sym k.size) destination_is title_is;
            }

  pub inline_read : {t : Tail} → InlineFollows s at t → ReadAs s at t
  inline_read (empty body rest o c) = empty_read o c
  inline_read (untitled body l m rest from o d c) = untitled_read o d c
  inline_read (with_title body l m quoted l' m' rest from o d x t c) = titled_read o d x t c
