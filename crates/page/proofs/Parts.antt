-- A row's destination and title are in order: neither ends before it starts.
use Prim.Native.Nat.{ℕ, zero, suc, ◌+◌, ◌≤◌, ◌<◌}
use native.Mathlib.Omega.{arith}
use mathlib.Core.Path.{sym, subst}
use mathlib.Core.Option.{Option, none, some}
use mathlib.Core.List.Memᴰ
use mathlib.Core.List.{List, [], ◌∷◌, Memᴰ}
use mathlib.Core.Logic.{inl, inr, ⊎_elim}
use lib.ListN.{length, length-map}
use Rattle.marking.specs.Marking.{Marking}
use Rattle.scan.specs.Member.{In}
use Rattle.marking.specs.Spans.{Span, code_span, pair_span, SpanOf}
use Rattle.texts.specs.Texts.{Texts, text_of}
use Rattle.block.specs.Block.{Placed}
use Rattle.row.specs.declared.Range.{Range}
use Rattle.row.specs.declared.Definition.{Definition}
use Rattle.row.specs.Row.{Listed, definitions_of}
use Rattle.row.specs.First.{bytes_of, labels_of}
use Rattle.definition.specs.Reading.{definition_at, taking_from, definitions_from, up_to_end, definitions_in, definitions}
use Rattle.definition.specs.Reading as reading
use Rattle.definition.proofs.Endings.{TitlePlace}
use Rattle.definition.proofs.Places.{definition_places}
use Rattle.definition.proofs.Takings.{by_entry, from_none, from_one}
use Rattle.joined.specs.Reading.{joined}
use Rattle.joined.proofs.Places.{entry_at}
use Rattle.inline.specs.Tails.{Tail, inline, full, collapsed, shortcut}
use Rattle.inline.specs.Rows.{Target, defined, target_of, from_note?}
use Rattle.inline.specs.Claims.{PartBetween}
use Rattle.inline.proofs.SpanBounds.{inline_parts_within, number_defined}
use Rattle.note.specs.Note.{MarkingOf}
use Rattle.note.specs.Reading.{span_rows}
use Rattle.note.proofs.Named.{defined_at}
use Rattle.note.proofs.Placing.{from_span}
use Rattle.page.specs.Reading.{destination, title}

abbrev InOrder : Range → Type 0
InOrder r = r.start ≤ r.end

-- a destination and a title
record BothInOrder (d t : Range) : Type 0 where
  destination : InOrder d
  title : InOrder t

-- ---- of a definition
abbrev Each : List Definition → Type 0
Each ds = (d : Definition) → Memᴰ d ds → BothInOrder d.destination d.title

each_cons : (c : Definition) (ds : List Definition) → BothInOrder c.destination c.title → Each ds → Each (c ∷ ds)
each_cons c ds p f d (Memᴰ.head e) = rw e p
each_cons c ds p f d (Memᴰ.tail m) = f d m

title_ordered : {z t u n : ℕ} → TitlePlace z t u n → t ≤ u
title_ordered (inl (x, y)) = omega arith
title_ordered (inr (x, y, z)) = y

taken_in_order : (s : List ℕ) (k at : ℕ) → Each (taking_from k s at).definitions
unfolding taking_from
taken_in_order s zero at = λ d m. absurd (Memᴰ.not-nil m)
taken_in_order s (suc k) at =
    by_entry (definition_at s at)
    (λ e. rw (from_none s (suc k) at e) (λ d m. absurd (Memᴰ.not-nil m)))
    (λ c n e.
    let p = definition_places s at c n e in
    rw (from_one s k at c n e)
    (each_cons c (taking_from k s n).definitions (record { destination = p.destination; title = title_ordered p.title }) (taken_in_order s k n)))

read_in_order : (s : List ℕ) (bs : List Placed) → Each (definitions_in s bs)
unfolding definitions_in reading.definitions_of definitions_from
read_in_order s [] d m = absurd (Memᴰ.not-nil m)
read_in_order s (b ∷ bs) d m =
    ⊎_elim (λ x. taken_in_order (up_to_end s b) (length (up_to_end s b)) b.at d x) (λ y. read_in_order s bs d y)
    (Memᴰ.append_cases (definitions_from (up_to_end s b) b.at).definitions m)

definitions_in_order : (s : List ℕ) → Each (definitions s)
unfolding definitions
definitions_in_order s = read_in_order s _

-- ---- of a row
part_in_order : (offset lo hi : ℕ) (r : Option Range) → PartBetween lo hi r → InOrder (from_note? offset r)
part_in_order offset lo hi none p = omega arith
part_in_order offset lo hi (some r) p = omega (arith, p.1)

module _ (T : Texts) where
  abbrev TargetInOrder : Target → Type 0
  TargetInOrder t = BothInOrder t.destination t.title

  defined_in_order : (k : ℕ) → k + 1 ≤ length (labels_of T (joined T)) → TargetInOrder (defined (definitions_of (joined T)) k)
  defined_in_order k f =
      let h : k < length (joined T) = omega (arith, length-map (joined T) (λ (j : Listed). bytes_of (text_of T j.text) j.definition.label)) in
      subst TargetInOrder (sym (defined_at (joined T) k)) (entry_at T (λ s d. BothInOrder d.destination d.title) definitions_in_order k h)

  module _ (q : Placed) (m : Marking Tail) (c : MarkingOf T (joined T) q m) where
    abbrev numbered : (x : Span Tail) → SpanOf m x → (target_of q.at (definitions_of (joined T)) x).number ≤ length (labels_of T (joined T))
    numbered = number_defined q.bytes (labels_of T (joined T)) m c q.at (definitions_of (joined T))

    target_in_order : (x : Span Tail) → SpanOf m x → TargetInOrder (target_of q.at (definitions_of (joined T)) x)
    target_in_order (code_span p) y = record { destination = omega arith; title = omega arith }
    target_in_order (pair_span x o d (inline n a b)) y =
        let (l, t) = inline_parts_within q.bytes (labels_of T (joined T)) m c x o d n a b y in
        record { destination = part_in_order q.at d.end (d.end + n) a l; title = part_in_order q.at d.end (d.end + n) b t }
    target_in_order (pair_span x o d (full n k)) y = defined_in_order k (numbered (pair_span x o d (full n k)) y)
    target_in_order (pair_span x o d (collapsed k)) y = defined_in_order k (numbered (pair_span x o d (collapsed k)) y)
    target_in_order (pair_span x o d (shortcut k)) y = defined_in_order k (numbered (pair_span x o d (shortcut k)) y)

  -- neither the destination nor the title of a row ends before it starts
  pub parts_in_order : (row : List ℕ) → In row (span_rows T) → InOrder (destination row) × InOrder (title row)
  parts_in_order row i =
      let f = from_span T row i in
      let b = target_in_order f.paragraph f.marking f.meets f.span f.of_marking in
      subst (λ (r : List ℕ). InOrder (destination r) × InOrder (title r)) f.row_is (b.destination, b.title)
