-- What a step meets that goes over definitions and paragraphs in one pass.
use Rattle.std.specs.Prelude.{None, Option, Some}
use Prim.Native.Nat.{ℕ, ◌-◌, ◌≤◌, ◌<◌}
use native.Mathlib.Omega.{arith}
use mathlib.Core.Path.{◌≡◌, refl, sym, ap, ◌∙◌}
use mathlib.Core.List.{List, [], ◌∷◌, ◌++◌}
use borrow.Author.Tests.{le-leb, lt-leb}
use lib.ListN.{length, take, drop, length-take}
use lib.Seq.{length-take-le}
use Rattle.block.specs.Block.{Placed}
use Rattle.row.specs.declared.Definition.{Definition}
use Rattle.definition.specs.declared.Entry.{Entry}
use Rattle.definition.specs.Reading.{entry, definition_at, Taking, definitions_from, definitions_in, paragraph_end, paragraph_from, paragraphs_in}
use Rattle.definition.proofs.Places.{definition_onward}
use Rattle.definition.proofs.Takings.{none_from, by_entry, turn_over, turn_taken}
use Rattle.walk.specs.declared.Cursor.{Cursor}
use Rattle.walk.specs.declared.Item.{Item}
use Rattle.walk.specs.declared.Item.TheVariants as item
use Rattle.walk.specs.Reading.{blocks_from, paragraphs_from, definitions_after, paragraphs_after, next_of}
use Rattle.walk.specs.Promise.{FirstBlock, Standing, LineEnds, ItemDefinition, ItemParagraph, NoItem, IsItem}
use Rattle.walk.proofs.Ends.{ends_next}
use Rattle.walk.proofs.Steps.{cursor, cut, end_within, definition_here, found_definitions, found_paragraphs}

-- past the end no definition is taken
none_taken : (s : List ℕ) (at : ℕ) → length s ≤ at → definitions_from s at ≡ none_from at
none_taken s at h = by_entry (definition_at s at) (turn_over s at) (λ d n e. let no : ⊥ = omega (arith, definition_onward s at d n e) in absurd no)

-- ---- between blocks only those after it are left
module _ (s : List ℕ) (c : Cursor) (between : c.end ≤ c.at) where
  none_left : definitions_from (take c.end s) c.at ≡ none_from c.at
  none_left = none_taken (take c.end s) c.at (omega (arith, length-take c.end s))

  pub definitions_between : definitions_after s c ≡ definitions_in s (blocks_from s c.end)
  unfolding definitions_after
  definitions_between = ap (λ (t : Taking). t.definitions ++ definitions_in s (blocks_from s c.end)) none_left

  pub paragraphs_between : paragraphs_after s c ≡ paragraphs_from s c.end
  unfolding paragraphs_after paragraph_from
  paragraphs_between =
      ap (λ (t : Taking). paragraph_from (take c.end s) t.after ++ paragraphs_from s c.end) none_left
      ∙ rw (le-leb (length (take c.end s)) c.at (omega (arith, length-take c.end s)))

-- ---- inside a block
module _ (s : List ℕ) (c : Cursor) (stands : Standing s c) (lined : LineEnds s c.end) (before : c.at < c.end) {x : Option Entry} (entry_is : x ≡ definition_at (take c.end s) c.at) where
  pub item_definition : {e : Entry} → x ≡ Some e → ItemDefinition s c e.definition (cursor e.next c.end)
  unfolding paragraphs_after
  item_definition {e} q = record {
    here = definition_here s c c.at c.end refl entry_is (omega arith) stands.inside q;
    left =
        ap (λ (t : Taking). paragraph_from (take c.end s) t.after ++ paragraphs_from s c.end) (turn_taken (take c.end s) c.at e.definition e.next (sym entry_is ∙ q));
    lined = lined;
  }

  pub item_paragraph : {n : ℕ} → x ≡ None → n ≡ paragraph_end (take c.end s) → ItemParagraph s c c.at n (cursor c.end c.end)
  unfolding definitions_after paragraphs_after paragraph_from
  item_paragraph {n} e p =
      let z = c.end in
      let over = turn_over (take z s) c.at (sym entry_is ∙ e) in
      let size : length (take z s) ≡ z = length-take-le z s stands.inside in
      let w = end_within (take z s) in
      let here : paragraph_from (take z s) c.at ≡ record { at = c.at; bytes = take (n - c.at) (drop c.at s) } ∷ [] =
      rw (lt-leb (length (take z s)) c.at (omega arith), ← p, cut s c.at z (omega arith) stands.inside n (omega arith)) in
      record {
        first =
            ap (λ (t : Taking). paragraph_from (take z s) t.after ++ paragraphs_from s z) over ∙ ap (λ (l : List Placed). l ++ paragraphs_from s z) here
            ∙ ap (λ (l : List Placed). record { at = c.at; bytes = take (n - c.at) (drop c.at s) } ∷ l) (sym (paragraphs_between s (cursor z z) (omega arith)));
        left = ap (λ (t : Taking). t.definitions ++ definitions_in s (blocks_from s z)) over ∙ sym (definitions_between s (cursor z z) (omega arith));
        within = record { ordered = omega arith; inside = stands.inside };
        lined = lined;
        over = refl;
        low = omega arith;
        ordered = omega arith;
        ends = ap (next_of s) p ∙ ends_next s z (omega arith) stands.inside lined;
        onward = before;
        rest = λ h. refl;
        room = λ h l. omega arith;
      }

-- ---- between blocks: the next one is found, or none
module _ (s : List ℕ) (c : Cursor) (stands : Standing s c) (between : c.end ≤ c.at) where
  pub no_item : blocks_from s c.end ≡ [] → NoItem s c
  unfolding definitions_in paragraphs_in paragraphs_from
  no_item none = record {
    definitions = definitions_between s c between ∙ ap (definitions_in s) none;
    paragraphs = paragraphs_between s c between ∙ ap (paragraphs_in s) none;
  }

  module _ {a z : ℕ} (found : FirstBlock s c.end a z) where
    pub found_stands : Standing s (cursor a z)
    found_stands = record { ordered = omega (arith, found.nonempty); inside = found.inside }

    same_definitions : definitions_after s c ≡ definitions_after s (cursor a z)
    same_definitions = definitions_between s c between ∙ found_definitions s c.end found

    same_paragraphs : paragraphs_after s c ≡ paragraphs_after s (cursor a z)
    same_paragraphs = paragraphs_between s c between ∙ found_paragraphs s c.end found

    -- what is met in the block found is met from c on
    pub found_item : (x : Item) → IsItem s (cursor a z) (Some x) → IsItem s c (Some x)
    found_item (item.Definition d c') i = record {
      here = record {
        first = same_definitions ∙ i.here.first;
        within = i.here.within;
        starts = omega (arith, stands.ordered, between, found.low, i.here.starts);
        onward = i.here.onward;
      };
      left = same_paragraphs ∙ i.left;
      lined = i.lined;
    }
    found_item (item.Paragraph m n c') i = record {
      first = same_paragraphs ∙ i.first;
      left = same_definitions ∙ i.left;
      within = i.within;
      lined = i.lined;
      over = i.over;
      low = omega (arith, stands.ordered, between, found.low, i.low);
      ordered = i.ordered;
      ends = i.ends;
      onward = i.onward;
      rest = λ h. let no : ⊥ = omega arith in absurd no;
      room = λ h l. let q = i.rest found.nonempty in omega (arith, stands.ordered, found.low, found.room (omega arith), q);
    }
