-- The turns of a loop that stores a text's definitions and remembers its paragraphs one after the other.
use Rattle.std.specs.Prelude.{Some}
use Prim.Native.Nat.{ℕ, ◌+◌, ◌-◌, ◌*◌, ◌≤◌, ◌<◌, ◌^◌}
use native.Mathlib.Omega.{arith}
use mathlib.Core.Path.{◌≡◌, refl, sym, ap, ap₂, ◌∙◌}
use mathlib.Core.List.Memᴰ
use mathlib.Core.List.{List, [], ◌∷◌, ◌++◌, append_assoc, append-nil, Memᴰ}
use borrow.Author.Tests.{lt-ltb}
use lib.Dec.{ltb}
use lib.ListN.{length, set, length-append, length-set}
use Rattle.line.specs.Promise.{none, line_if, Before}
use Rattle.line.specs.declared.Line.{Line}
use Rattle.line.proofs.Lines.{none_before, later, counted_on, number_there}
use Rattle.rows.specs.Rows
use Rattle.rows.proofs.Storing.{stored_more, length_stored_all}
use Rattle.row.specs.declared.Definition.{Definition}
use Rattle.row.specs.Row.{width, Small, opening, numbers_in, whole_rows, stored_on, stored, stored_all}
use Rattle.row.proofs.Put.{stored_line}
use Rattle.text.specs.Utf8.{note_limit}
use Rattle.definition.specs.Reading.{definitions}
use Rattle.walk.specs.declared.Cursor.{Cursor}
use Rattle.walk.specs.declared.Item.{Item}
use Rattle.walk.specs.declared.Item.TheVariants as item
use Rattle.walk.specs.Reading.{definitions_after, remembered}
use Rattle.walk.specs.Promise.{Standing, LineEnds, FirstDefinition, ItemDefinition, ItemParagraph, NoItem, IsItem, Remembers}
use Rattle.walk.proofs.Steps.{cursor}
use Rattle.walk.proofs.Whole.{all_definitions}
use Rattle.walk.proofs.Places.{definitions_small}
use Rattle.walk.proofs.Listing.{Listing, Room, end_inside, none_listed, none_passed, listed_still, room_still, listed_more, room_more, room_there, all_listed}

-- Reading of the text s, whose number is `text`, stands at c; the next row is row k, and l is the last line that was asked for; the table t₀, whose
-- rows are stored from row `from` on, has become t. n paragraphs were passed, and the list p₀ has become p.
pub record Filling (s : List ℕ) (text : ℕ) (t₀ : List ℕ) (from : ℕ) (p₀ t p : List ℕ) (k n : ℕ) (c : Cursor) (l : Line) : Type 0 where
  pub passed : List Definition
  pub whole : definitions s ≡ passed ++ definitions_after s c
  pub counted : k ≡ from + length passed
  pub table : t ≡ stored_all text s t₀ from passed
  pub within : Standing s c
  pub lined : LineEnds s c.end
  pub bound : k ≤ from + c.at
  pub line : Before s l c.at
  pub size : length p ≡ length p₀
  pub listed : length s < length p₀ → Listing s p n c
  pub room : Room s n c

module _ (s : List ℕ) (text : ℕ) (t₀ : List ℕ) (from : ℕ) (p₀ : List ℕ) where
  pub starts : {l : Line} → l ≡ none → Filling s text t₀ from p₀ t₀ p₀ from 0 (cursor 0 0) l
  unfolding Rows.stored_all
  starts e = record {
    passed = [];
    whole = sym (all_definitions s);
    counted = omega arith;
    table = refl;
    within = record { ordered = omega arith; inside = omega arith };
    lined = λ h. let no : ⊥ = omega arith in absurd no;
    bound = omega arith;
    line = rw e (none_before s);
    size = refl;
    listed = λ h. none_listed s p₀;
    room = none_passed s;
  }

  module _ {t p : List ℕ} {k n : ℕ} {c : Cursor} {l : Line} (f : Filling s text t₀ from p₀ t p k n c l) where
    pub stands_there : Standing s c
    stands_there = f.within

    pub line_there : LineEnds s c.end
    line_there = f.lined

    pub same_size : length t ≡ length t₀
    same_size = ap length f.table ∙ length_stored_all width (numbers_in text s) (λ d. refl) f.passed t₀ from

    pub same_list : length p ≡ length p₀
    same_list = f.size

    module _ (over : NoItem s c) where
      all_passed : f.passed ≡ definitions s
      all_passed = sym (f.whole ∙ ap (λ (l : List Definition). f.passed ++ l) over.definitions ∙ append-nil f.passed)

      pub all_counted : k ≡ from + length (definitions s)
      all_counted = f.counted ∙ ap (λ (l : List Definition). from + length l) all_passed

      pub all_stored : t ≡ stored_all text s t₀ from (definitions s)
      all_stored = f.table ∙ ap (stored_all text s t₀ from) all_passed

      pub all_remembered : length s < length p₀ → Remembers s p n
      all_remembered h = all_listed s (f.listed h) over.paragraphs

    -- ---- past a definition
    module _ {x : Item} (i : IsItem s c (Some x)) {d : Definition} {c' : Cursor} (e : x ≡ item.Definition d c') where
      met : ItemDefinition s c d c'
      met = rw e at i

      abbrev here : FirstDefinition s c d c'
      here = met.here

      in_text : Memᴰ d (definitions s)
      in_text = rw (f.whole, here.first) (Memᴰ.append_right f.passed (Memᴰ.head refl))

      pub small : length s ≤ note_limit → Small d
      small h = definitions_small s (omega arith) d in_text

      pub number_fits : k < from + length s
      number_fits = omega (arith, f.bound, here.starts, here.onward, here.within.ordered, here.within.inside)

      pub less : length s - c'.at < length s - c.at
      less = omega (arith, here.starts, here.onward, here.within.ordered, here.within.inside)

      -- the line of the label's opening bracket
      pub bracket_there : 1 ≤ d.label.start
      bracket_there = omega (arith, here.starts)

      pub line_before : Before s l (opening d)
      line_before = later f.line (omega (arith, here.starts)) (omega (arith, here.onward, here.within.ordered, here.within.inside))

      pub bracket_inside : opening d < length s
      bracket_inside = omega (arith, here.starts, here.onward, here.within.ordered, here.within.inside)

      module _ {l' : Line} (q : l' ≡ line_if (ltb k (whole_rows t)) s l (opening d)) where
        pub line_small : length s ≤ note_limit → l'.number < 2 ^ 32
        line_small h = omega (arith, (counted_on (ltb k (whole_rows t)) line_before q).few, here.starts, here.onward, here.within.ordered, here.within.inside)

        one_more : stored text s t k d ≡ stored_all text s t₀ from (f.passed ++ d ∷ [])
        one_more = ap₂ (λ (u : List ℕ) (n : ℕ). stored text s u n d) f.table f.counted ∙ sym (stored_more width (numbers_in text s) f.passed d t₀ from)

        pub further : {t' : List ℕ} → t' ≡ stored_on text l'.number t k d → Filling s text t₀ from p₀ t' p (k + 1) n c' l'
        further w = record {
          passed = f.passed ++ d ∷ [];
          whole = f.whole ∙ ap (λ (l : List Definition). f.passed ++ l) here.first ∙ sym (append_assoc f.passed (d ∷ []) (definitions_after s c'));
          counted = omega (arith, f.counted, length-append f.passed (d ∷ []));
          table = w ∙ stored_line text s t k d (λ h. number_there (ltb k (whole_rows t)) line_before q (lt-ltb k (whole_rows t) h)) ∙ one_more;
          within = here.within;
          lined = met.lined;
          bound = omega (arith, f.bound, here.starts, here.onward);
          line = later (counted_on (ltb k (whole_rows t)) line_before q) (omega (arith, here.onward)) (omega (arith, here.within.ordered, here.within.inside));
          size = f.size;
          listed = λ h. listed_still s met (f.listed h);
          room = room_still s met f.room;
        }

    -- ---- past a paragraph
    module _ {x : Item} (i : IsItem s c (Some x)) {a e : ℕ} {c' : Cursor} (q : x ≡ item.Paragraph a e c') where
      passing : ItemParagraph s c a e c'
      passing = rw q at i

      pub paragraph_small : length s ≤ note_limit → (n < 2 ^ 32) × ((a < 2 ^ 16) × (e < 2 ^ 16))
      paragraph_small h =
          let places = end_inside s passing in
          let onward = passing.onward in
          (omega (arith, f.room.few (omega (arith, passing.low)), passing.low), (omega arith, omega arith))

      pub paragraph_less : length s - c'.at < length s - c.at
      paragraph_less = omega (arith, passing.low, passing.onward, end_inside s passing)

      pub past_paragraph : {p' : List ℕ} → p' ≡ remembered p n a e → Filling s text t₀ from p₀ t p' k (n + 1) c' l
      past_paragraph w = record {
        passed = f.passed;
        whole = f.whole ∙ ap (λ (l : List Definition). f.passed ++ l) passing.left;
        counted = f.counted;
        table = f.table;
        within = passing.within;
        lined = passing.lined;
        bound = omega (arith, f.bound, passing.low, passing.onward);
        line = later f.line (omega (arith, passing.low, passing.onward)) (omega (arith, end_inside s passing));
        size = ap length w ∙ length-set (set p (2 * n) a) (2 * n + 1) e ∙ length-set p (2 * n) a ∙ f.size;
        listed = λ h. rw w (listed_more s passing (room_there s passing p f.room (omega (arith, f.size))) (f.listed h));
        room = room_more s passing f.room;
      }
