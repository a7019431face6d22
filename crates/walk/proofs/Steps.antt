-- What a step over blocks, definitions or paragraphs meets: a blank line, a block, a definition, what a block leaves.
use Rattle.std.specs.Prelude.{None, Option, Some}
use Prim.Native.Nat.{ℕ, ◌+◌, ◌-◌, ◌≤◌, ◌<◌}
use native.Mathlib.Omega.{arith}
use mathlib.Core.Path.{◌≡◌, sym, ap, ◌∙◌}
use mathlib.Core.List.{List, [], ◌++◌}
use mathlib.Core.Bool.{Bool, true, false, not}
use borrow.Author.Tests.{not-true, not-false, le-leb, lt-leb}
use lib.Dec.{eqb}
use lib.ListN.{length, get_or, take, drop, length-drop, length-take}
use lib.Seq.{length-take-le, take-take, take-add, drop_at}
use Rattle.scan.proofs.Test.{by}
use Rattle.scan.proofs.Leap.{leap_end}
use Rattle.block.specs.Block.{Placed}
use Rattle.block.specs.Reading.{blank_line, line_length, block_length, part_length, block_here}
use Rattle.block.proofs.Places as places
use Rattle.row.specs.declared.Definition.{Definition}
use Rattle.definition.specs.declared.Entry.{Entry}
use Rattle.definition.specs.Reading.{entry, definition_at, Taking, definitions_from, paragraph_end, paragraph_from, up_to_end, definitions_of, paragraph_of, definitions_in, paragraphs_in}
use Rattle.definition.proofs.Places.{definition_places, definition_onward}
use Rattle.definition.proofs.Takings.{turn_over, turn_taken, taking_takes}
use Rattle.walk.specs.declared.Cursor.{Cursor}
use Rattle.walk.specs.Reading.{placed_between, blocks_from, paragraphs_from, definitions_after, paragraphs_after}
use Rattle.walk.specs.Promise.{FirstBlock, FirstDefinition, FirstParagraph}
use Rattle.walk.proofs.Ends.{block_lined, block_room}

-- ---- blocks: what is left from place i on are all of them from place `at` on
module _ (s : List ℕ) (at i : ℕ) (inv : blocks_from s i ≡ blocks_from s at) where
  pub no_block : length s ≤ i → blocks_from s at ≡ []
  unfolding blocks_from
  no_block h = sym inv ∙ leap_end part_length block_here s i i h

  pub past_blank : {p : Bool} {n : ℕ} → i < length s → p ≡ blank_line (drop i s) → not p ≡ false → n ≡ i + line_length (drop i s) → blocks_from s n ≡ blocks_from s at
  unfolding blocks_from
  past_blank {p} h e k f = rw f (sym (places.turn_blank s i h (sym e ∙ not-false p k)) ∙ inv)

  pub block_here_lem : {p : Bool} {n : ℕ} → at ≤ i → p ≡ blank_line (drop i s) → not p ≡ true → n ≡ i + block_length (drop i s) → FirstBlock s at i n
  unfolding blocks_from
  block_here_lem {p} {n} h e k f =
      let other : blank_line (drop i s) ≡ false = sym e ∙ not-true p k in
      let size : n - i ≡ block_length (drop i s) = omega arith in
      record {
        first = sym inv ∙ places.turn_block s i other ∙ rw (size, f);
        low = h;
        nonempty = omega (arith, places.block_advances s i other);
        inside = omega (arith, places.block_inside s i other);
        lined = rw f (block_lined s i other);
        room = rw f (block_room s i other);
      }

pub line_less : (s : List ℕ) (i : ℕ) {n : ℕ} → i < length s → n ≡ i + line_length (drop i s) → length s - n < length s - i
line_less s i h e = omega (arith, places.line_advances s i h)

-- ---- a block from place a up to place e
module _ (s : List ℕ) (a e : ℕ) (ordered : a ≤ e) (inside : e ≤ length s) where
  ends_there : up_to_end s (placed_between s a e) ≡ take e s
  ends_there =
      let size : a + length (take (e - a) (drop a s)) ≡ e = omega (arith, length-take-le (e - a) (drop a s) (omega (arith, length-drop a s))) in
      ap (λ (n : ℕ). take n s) size

  pub its_taking : definitions_of s (placed_between s a e) ≡ definitions_from (take e s) a
  unfolding definitions_of
  its_taking = rw ends_there

  pub its_paragraph : paragraph_of s (placed_between s a e) ≡ paragraph_from (take e s) (definitions_from (take e s) a).after
  unfolding paragraph_of
  its_paragraph = rw (ends_there, its_taking)

  -- from place a on, up to place n before the end
  pub cut : (n : ℕ) → n ≤ e → take (n - a) (drop a (take e s)) ≡ take (n - a) (drop a s)
  cut n h =
      let size : e ≡ a + (e - a) = omega arith in
      let parts : take e s ≡ take a s ++ take (e - a) (drop a s) = ap (λ (m : ℕ). take m s) size ∙ take-add a (e - a) s in
      ap (λ (x : List ℕ). take (n - a) (drop a x)) parts
      ∙ ap (take (n - a)) (drop_at (take a s) (take (e - a) (drop a s)) a (length-take-le a s (omega arith)))
      ∙ take-take (n - a) (e - a) (drop a s) (omega arith)

-- ---- definitions of a text that ends with the block
module _ (s : List ℕ) (i : ℕ) {x : Option Entry} (entry_is : x ≡ definition_at s i) where
  pub rest_less : {e : Entry} → x ≡ Some e → length s - e.next < length s - i
  rest_less {e} q = let (on, fits) = definition_onward s i e.definition e.next (sym entry_is ∙ q) in omega arith

  pub rest_stop : {r : ℕ} → (definitions_from s i).after ≡ r → x ≡ None → i ≡ r
  rest_stop inv e = sym (ap (λ (t : Taking). t.after) (turn_over s i (sym entry_is ∙ e))) ∙ inv

  pub rest_on : {r : ℕ} {e : Entry} → (definitions_from s i).after ≡ r → x ≡ Some e → (definitions_from s e.next).after ≡ r
  rest_on {e = e} inv q = sym (ap (λ (t : Taking). t.after) (turn_taken s i e.definition e.next (sym entry_is ∙ q))) ∙ inv

-- ---- what is left where a block was found: what is left at its start
abbrev pub cursor : ℕ → ℕ → Cursor
cursor at end = record { at = at; end = end }

module _ (s : List ℕ) (i : ℕ) {a z : ℕ} (f : FirstBlock s i a z) where
  pub found_definitions : definitions_in s (blocks_from s i) ≡ definitions_after s (cursor a z)
  unfolding definitions_in definitions_after
  found_definitions =
      ap (definitions_in s) f.first
      ∙ ap (λ (t : Taking). t.definitions ++ definitions_in s (blocks_from s z)) (its_taking s a z (omega (arith, f.nonempty)) f.inside)

  pub found_paragraphs : paragraphs_from s i ≡ paragraphs_after s (cursor a z)
  unfolding paragraphs_from paragraphs_in paragraphs_after
  found_paragraphs =
      ap (paragraphs_in s) f.first
      ∙ ap (λ (l : List Placed). l ++ paragraphs_in s (blocks_from s z)) (its_paragraph s a z (omega (arith, f.nonempty)) f.inside)

-- ---- definitions: what is left at place `at` of the block that ends at `end` is what c has before it
module _ (s : List ℕ) (c : Cursor) (at end : ℕ) (inv : definitions_after s (cursor at end) ≡ definitions_after s c) {x : Option Entry} (entry_is : x ≡ definition_at (take end s) at) where
  pub definition_here : {e : Entry} → c.at ≤ at → end ≤ length s → x ≡ Some e → FirstDefinition s c e.definition (cursor e.next end)
  unfolding definitions_after
  definition_here {e} low h f =
      let q = turn_taken (take end s) at e.definition e.next (sym entry_is ∙ f) in
      let p = definition_places (take end s) at e.definition e.next (sym entry_is ∙ f) in
      record {
        first = sym inv ∙ ap (λ (t : Taking). t.definitions ++ definitions_in s (blocks_from s end)) q;
        within = record { ordered = omega (arith, length-take-le end s h, p.inside); inside = h };
        starts = omega (arith, p.low);
        onward = omega (arith, p.label, p.apart, p.destination, p.ends);
      }

  module _ (none : x ≡ None) where
    -- no more of this block
    block_over : definitions_in s (blocks_from s end) ≡ definitions_after s c
    unfolding definitions_after
    block_over = sym (ap (λ (t : Taking). t.definitions ++ definitions_in s (blocks_from s end)) (turn_over (take end s) at (sym entry_is ∙ none))) ∙ inv

    pub no_definition : blocks_from s end ≡ [] → definitions_after s c ≡ []
    unfolding definitions_in
    no_definition l = sym (rw l at block_over)

    pub next_block : {a z : ℕ} → FirstBlock s end a z → definitions_after s (cursor a z) ≡ definitions_after s c
    next_block f = sym (found_definitions s end f) ∙ block_over

-- ---- paragraphs: what is left from place i on are all of them from place `at` on
pub end_within : (s : List ℕ) → (paragraph_end s ≤ length s) × (length s ≤ paragraph_end s + 1)
unfolding paragraph_end
end_within s = by (eqb (get_or s (length s - 1) 0) 10) (λ e. rw e (omega arith, omega arith)) (λ e. rw e (omega arith, omega arith))

module _ (s : List ℕ) (at i : ℕ) (inv : paragraphs_from s i ≡ paragraphs_from s at) where
  pub no_paragraph : blocks_from s i ≡ [] → paragraphs_from s at ≡ []
  unfolding paragraphs_from paragraphs_in
  no_paragraph l = sym inv ∙ ap (paragraphs_in s) l

  module _ {a z : ℕ} (f : FirstBlock s i a z) {r : ℕ} (rest : r ≡ (definitions_from (take z s) a).after) where
    this_and_others : paragraphs_from s at ≡ paragraph_from (take z s) r ++ paragraphs_from s z
    unfolding paragraphs_after
    this_and_others = sym inv ∙ found_paragraphs s i f ∙ ap (λ (n : ℕ). paragraph_from (take z s) n ++ paragraphs_from s z) (sym rest)

    pub all_taken : z ≤ r → paragraphs_from s z ≡ paragraphs_from s at
    unfolding paragraph_from
    all_taken h = sym (rw (le-leb (length (take z s)) r (omega (arith, length-take z s))) at this_and_others)

    pub paragraph_here : {n : ℕ} → at ≤ i → r < z → n ≡ paragraph_end (take z s) → FirstParagraph s at r n z
    unfolding paragraph_from
    paragraph_here {n} low h p =
        let size : length (take z s) ≡ z = length-take-le z s f.inside in
        let w = end_within (take z s) in
        let t = taking_takes (take z s) a (omega (arith, f.nonempty)) in
        record {
          first = rw (lt-leb (length (take z s)) r (omega arith), ← p, cut s r z (omega arith) f.inside n (omega arith)) at this_and_others;
          low = omega (arith, f.low, t.low);
          ordered = omega arith;
          ends = omega arith;
          inside = f.inside;
          onward = omega (arith, f.low, f.nonempty);
        }
