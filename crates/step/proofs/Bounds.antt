-- What a tail names lies within the paragraph and the definitions, so that the numbers of its row are 32-bit numbers.
use Rattle.std.specs.Prelude.{None, Option as Found, Some}
use Prim.Native.Nat.{ℕ, zero, suc, ◌+◌, ◌-◌, ◌≤◌, ◌<◌, ◌^◌}
use native.Mathlib.Omega.{arith}
use mathlib.Core.Path.{◌≡◌, refl, sym, ap, ◌∙◌, subst}
use mathlib.Core.Bool.{Bool, true, false}
use mathlib.Core.Option.{Option, none, some}
use mathlib.Core.List.{List}
use lib.Dec.{eqb}
use lib.ListN.{length, get_or, take, drop, length-drop, length-map}
use Rattle.scan.proofs.Test.{by}
use Rattle.label.specs.Reading.{is_label}
use Rattle.marking.specs.Marking.{role, Piece}
use Rattle.texts.specs.Texts.{Texts, text_of}
use Rattle.row.specs.declared.Range.{Range}
use Rattle.row.specs.declared.Definition.{Definition}
use Rattle.row.specs.Row.{SmallPart, whole_rows}
use Rattle.row.specs.First.{bytes_of}
use Rattle.row.specs.Reading.{listed_from, definitions_from, first_match, Fit}
use Rattle.row.proofs.First.{first_equal}
use Rattle.span.specs.Row.{Small}
use Rattle.inline.specs.Tails.{Tail, inline, full, collapsed, shortcut, length_of}
use Rattle.inline.specs.ReadingTails.{inline_of, label_after, empty_after, full_by, short_by, text_tail, reference_by, moved, tail_by, tail_of}
use Rattle.inline.proofs.TailBounds.{PartIn, InlineWithin, inline_of_within}
use Rattle.inline.specs.declared.InlineParts.{InlineParts}
use Rattle.inline.specs.Rows.{from_note?}
use Rattle.inline.specs.Reading.{tail_at}
use Rattle.inline.proofs.Computing.{tail_within}
use Rattle.parens.proofs.Parts.{part_whole}
use Rattle.tail.specs.declared.Way.{Way}
use Rattle.tail.specs.declared.Way.TheVariants as ways
use Rattle.tail.specs.declared.ReadTail.{ReadTail}
use Rattle.tail.specs.Ending.{labels_in, shown_by, shown, shown?}
use Rattle.link.specs.Reading.{text_from, pair_row, Names}
use Rattle.step.specs.Promise.{is_image, open_end, Pair, Bounds}
use Rattle.step.specs.declared.Walk.{Walk}
use Rattle.link.proofs.PairRows.{definition_in}
use Rattle.inline.proofs.Pieces.{at_close}
use Rattle.step.proofs.Openings.{text_after}

abbrev pub PartTo : ℕ → Option Range → Type 0
PartTo n none = Unit {0}
PartTo n (some r) = (r.start ≤ n) × (r.end ≤ n)

-- the parts end at place n at most, and the definition is one of m
abbrev pub Bounded : ℕ → ℕ → Tail → Type 0
Bounded m n (inline size d t) = PartTo n d × PartTo n t
Bounded m n (full size k) = k < m
Bounded m n (collapsed k) = k < m
Bounded m n (shortcut k) = k < m

abbrev Bounded? : ℕ → ℕ → Option Tail → Type 0
Bounded? m n none = Unit {0}
Bounded? m n (some t) = Bounded m n t

-- ---- an inline tail
moved_in : (n m at : ℕ) (r : Found Range) → PartIn r n → n ≤ m → PartTo (at + m) (moved at r)
moved_in n m at (Some r) i h = (omega (arith, i.ordered, i.inside), omega (arith, i.inside))
moved_in n m at None i h = tt

parts_in : (s : List ℕ) (q : InlineParts) (at : ℕ) → InlineWithin s q → PartTo (at + length s) (moved at q.destination) × PartTo (at + length s) (moved at q.title)
parts_in s q at w = (moved_in q.size (length s) at q.destination w.destination w.size, moved_in q.size (length s) at q.title w.title w.size)

-- ---- references
module _ (labels : List (List ℕ)) (n : ℕ) where
  match_in : (label : List ℕ) (k : ℕ) → first_match labels label ≡ Some k → k < length labels
  match_in label k e = ((first_equal labels label k).0 e).within

  full_in : (size : ℕ) (label : List ℕ) (f : Found ℕ) → first_match labels label ≡ f → Bounded? (length labels) n (full_by size f)
  full_in size label (Some k) e = match_in label k e
  full_in size label None e = tt

  short_in : (empty : Bool) (label : List ℕ) (f : Found ℕ) → first_match labels label ≡ f → Bounded? (length labels) n (short_by empty f)
  short_in true label (Some k) e = match_in label k e
  short_in false label (Some k) e = match_in label k e
  short_in empty label None e = tt

  text_in : (text s : List ℕ) → Bounded? (length labels) n (text_tail labels text s)
  unfolding text_tail
  text_in text s = by (is_label text) (λ e. rw (e, text_tail) (short_in (empty_after s) text (first_match labels text) refl)) (λ e. rw (e, text_tail) tt)

  reference_in : (text s : List ℕ) (f : Found ℕ) → Bounded? (length labels) n (reference_by labels text s f)
  reference_in text s (Some e) = full_in (e + 1) (take (e - 1) (drop 1 s)) (first_match labels (take (e - 1) (drop 1 s))) refl
  reference_in text s None = text_in text s

tail_in : (labels : List (List ℕ)) (text s : List ℕ) (at : ℕ) (f : Found InlineParts) → inline_of s ≡ f → Bounded? (length labels) (at + length s) (tail_by labels text s at f)
tail_in labels text s at (Some q) e = parts_in s q at (inline_of_within s q e)
tail_in labels text s at None e = reference_in labels (at + length s) text s (label_after s)

pub tail_bounded : (labels : List (List ℕ)) (text s : List ℕ) (at : ℕ) (t : Tail) → tail_of labels text s at ≡ some t → Bounded (length labels) (at + length s) t
unfolding tail_of
tail_bounded labels text s at t e = subst (Bounded? (length labels) (at + length s)) e (tail_in labels text s at (inline_of s) refl)

-- ---- the row
length_listed : (t : List ℕ) (k n : ℕ) → length (listed_from t k n) ≡ n
unfolding listed_from
length_listed t k zero = refl
length_listed t k (suc n) = ap suc (length_listed t (k + 1) n)

pub length_labels : (T : Texts) (t : List ℕ) (count : ℕ) → length (labels_in T t count) ≡ count
length_labels T t count = length-map (listed_from t 0 count) (λ j. bytes_of (text_of T j.text) j.definition.label) ∙ length_listed t 0 count

module _ (start n : ℕ) (h : start + n < 2 ^ 32) where
  part_small : (r : Option Range) → PartTo n r → SmallPart (from_note? start r)
  part_small none i = record { start = omega arith; end = omega arith }
  part_small (some r) (i, j) = record { start = omega arith; end = omega arith }

  module _ (t : List ℕ) (count : ℕ) (few : count < 2 ^ 32) (small : (i : ℕ) → get_or t i 0 < 2 ^ 32) (i : Bool) (o c : ℕ) (a : text_from i o ≤ c) (b : c < n) where
    abbrev definitions : List Definition
    definitions = definitions_from t 0 count

    abbrev Parted : Definition → Type 0
    Parted d = SmallPart d.destination × SmallPart d.title

    defined_small : (k : ℕ) (d : Definition) → k < count → Parted (get_or definitions k d)
    defined_small k d l =
        rw (definition_in t 0 count k d l) (record { start = small _; end = small _ }, record { start = small _; end = small _ })

    pub pair_small : (x : Tail) → Bounded count n x → c + 1 + length_of x ≤ n → Small (pair_row start definitions i o c x)
    pair_small (inline size d t') (l, m) e =
        record {
          whole = record { start = omega (arith, text_after i o); end = omega arith };
          text = record { start = omega arith; end = omega arith };
          definition = omega arith;
          destination = part_small d l;
          title = part_small t' m;
        }
    pair_small (full size k) l e =
        record {
          whole = record { start = omega (arith, text_after i o); end = omega arith };
          text = record { start = omega arith; end = omega arith };
          definition = omega arith;
          destination = (defined_small k _ l).0;
          title = (defined_small k _ l).1;
        }
    pair_small (collapsed k) l e =
        record {
          whole = record { start = omega (arith, text_after i o); end = omega arith };
          text = record { start = omega arith; end = omega arith };
          definition = omega arith;
          destination = (defined_small k _ l).0;
          title = (defined_small k _ l).1;
        }
    pair_small (shortcut k) l e =
        record {
          whole = record { start = omega (arith, text_after i o); end = omega arith };
          text = record { start = omega arith; end = omega arith };
          definition = omega arith;
          destination = (defined_small k _ l).0;
          title = (defined_small k _ l).1;
        }

names_by : (count : ℕ) (table : List ℕ) (n at size : ℕ) (w : Way) → Bounded count n (shown_by at size w) → count ≤ whole_rows table → Names count table w
names_by count table n at size (ways.Parts d t) b h = tt
names_by count table n at size (ways.Full k) b h = (b, h)
names_by count table n at size (ways.Collapsed k) b h = (b, h)
names_by count table n at size (ways.Shortcut k) b h = (b, h)

-- ---- at a pair with a tail
-- what follows the closing bracket at place c is the part of p from place c + 1 to its end
pub tail_here : (p : List ℕ) (labels : List (List ℕ)) (o c : ℕ) → tail_of labels (take (c - o) (drop o p)) (take (length p - (c + 1)) (drop (c + 1) p)) (c + 1) ≡ tail_at p labels o c
tail_here p labels o c = ap (λ (l : List ℕ). tail_of labels (take (c - o) (drop o p)) l (c + 1)) (part_whole p (c + 1))

-- what the tail reader answered, r, is x
pub told_of : (p : List ℕ) (labels : List (List ℕ)) (o c : ℕ) {from : ℕ} → from ≡ open_end p o → {r x : Found ReadTail} → r ≡ x → shown? (c + 1) r ≡ tail_at p labels from c
    → shown? (c + 1) x ≡ tail_at p labels (open_end p o) c
told_of p labels o c ef e told = sym (ap (shown? (c + 1)) e) ∙ told ∙ ap (λ (n : ℕ). tail_at p labels n c) ef

-- the bracket stands within the paragraph
pub opening_before : (p : List ℕ) (o c : ℕ) → Pair p o c → (o < c) × (o + 2 ≤ length p)
opening_before p o c pair = omega (arith, text_after (is_image p o) o, pair.text.ordered, pair.text.inside)

module _ (p : List ℕ) (T : Texts) (table : List ℕ) (start count o : ℕ) (w : Walk) (pair : Pair p o w.at) (bounds : Bounds start p count w) (fit : Fit T table count) (t : ReadTail)
    (e : some (shown (w.at + 1) t) ≡ tail_at p (labels_in T table count) (open_end p o) w.at) where
  bounded : Bounded count (length p) (shown (w.at + 1) t)
  bounded =
      let n : w.at + 1 + length (drop (w.at + 1) p) ≡ length p = rw length-drop (omega (arith, pair.text.inside)) in
      rw (← n, ← length_labels T table count)
      (tail_bounded (labels_in T table count) (take (w.at - open_end p o) (drop (open_end p o) p)) (drop (w.at + 1) p) (w.at + 1) (shown (w.at + 1) t) (sym e))

  pub tail_end : w.at + 1 + length_of (shown (w.at + 1) t) ≤ length p
  tail_end =
      let q = at_close p w.at pair.text.close_at in
      rw q at (tail_within p (labels_in T table count) (open_end p o) w.at (shown (w.at + 1) t) pair.text.inside (ap (λ (x : Piece). role x.kind) q) (sym e))

  pub row_names : Names count table t.way
  row_names = names_by count table (length p) (w.at + 1) t.length t.way bounded fit.room

  pub row_small : ((i : ℕ) → get_or table i 0 < 2 ^ 32) → Small (pair_row start (definitions_from table 0 count) (is_image p o) o w.at (shown (w.at + 1) t))
  row_small small =
      pair_small start (length p) bounds.places table count bounds.definitions small (is_image p o) o w.at pair.text.ordered pair.text.inside (shown (w.at + 1) t) bounded tail_end
