-- The row of a link or an image, from the parts that the code makes.
use Prim.Native.Nat.{ℕ, zero, suc, ◌+◌, ◌<◌}
use native.Mathlib.Nat.{add-zero, zero-add}
use native.Mathlib.Omega.{arith}
use mathlib.Core.Path.{◌≡◌, refl, sym, ap, ◌∙◌, subst}
use mathlib.Core.List.{List}
use mathlib.Core.Bool.{Bool}
use lib.ListN.{get_or}
use Rattle.marking.specs.Marking.{Sort, link, image, opens, closes}
use Rattle.marking.specs.Spans as marked
use Rattle.marking.specs.Spans.{pair_span}
use Rattle.row.specs.declared.Range.{Range}
use Rattle.row.specs.declared.Definition.{Definition}
use Rattle.row.specs.Row.{range}
use Rattle.row.specs.Reading.{definition_at, listed_from, definitions_from}
use Rattle.span.specs.declared.Span.{Span}
use Rattle.span.specs.Row.{span, definition_number}
use Rattle.inline.specs.Tails.{Tail, full, collapsed, shortcut, length_of}
use Rattle.inline.specs.ReadingPieces.{piece}
use Rattle.inline.specs.Rows.{Target, defined, target_of, full_row_of, collapsed_row_of, shortcut_row_of}
use Rattle.inline.specs.ReadingRows.{tail_kind, kind_number}
use Rattle.tail.specs.declared.Way.{Way}
use Rattle.tail.specs.declared.ReadTail.{ReadTail}
use Rattle.tail.specs.Ending.{shown_by, shown, Sized}
use Rattle.link.specs.Reading.{sort_by, text_from, pair_row, Names}

-- ---- the definition in a row
pub definition_in : (t : List ℕ) (k n i : ℕ) (d : Definition) → i < n → get_or (definitions_from t k n) i d ≡ definition_at t (k + i)
unfolding listed_from
definition_in t k zero i d h = absurd (omega arith)
definition_in t k (suc n) zero d h = ap (definition_at t) (sym (add-zero k))
definition_in t k (suc n) (suc i) d h = definition_in t (k + 1) n i d (omega arith) ∙ ap (definition_at t) (omega arith)

-- ---- the rows of references of either sort, by the number of their kind
module _ (whole text d t : Range) where
  pub full_kind : (x : Sort) (k n : ℕ) → full_row_of x whole text k d t ≡ span (tail_kind x (full n k)) whole text (definition_number k) d t
  full_kind link k n = refl
  full_kind image k n = refl

  pub collapsed_kind : (x : Sort) (k : ℕ) → collapsed_row_of x whole text k d t ≡ span (tail_kind x (collapsed k)) whole text (definition_number k) d t
  collapsed_kind link k = refl
  collapsed_kind image k = refl

  pub shortcut_kind : (x : Sort) (k : ℕ) → shortcut_row_of x whole text k d t ≡ span (tail_kind x (shortcut k)) whole text (definition_number k) d t
  shortcut_kind link k = refl
  shortcut_kind image k = refl

module _ (start : ℕ) (b : Bool) (o c : ℕ) (table : List ℕ) (count : ℕ) where
  abbrev definitions : List Definition
  definitions = definitions_from table 0 count

  abbrev span_by : Tail → marked.Span Tail
  span_by = pair_span (sort_by b) (piece (opens (sort_by b)) o (text_from b o)) (piece closes c (c + 1))

  abbrev target : Tail → Target
  target x = target_of start definitions (span_by x)

  abbrev row_by : Tail → Range → Range → Target → Span
  row_by x whole text g = span (kind_number (span_by x)) whole text g.number g.destination g.title

  row_by_lem : {x y : Tail} {whole text : Range} {n : ℕ} (g : Target) → y ≡ x → whole ≡ range (start + o) (start + (c + 1 + n)) → n ≡ length_of x → text ≡ range (start + text_from b o) (start + c)
      → target x ≡ g → row_by x whole text g ≡ pair_row start definitions b o c y
  row_by_lem g e ew en ex eg = rw (e, ew, en, ex, ← eg)

  pub pair_row_lem : (t : ReadTail) {u : Way} {whole text : Range} {f : ℕ} (g : Target) → t.way ≡ u → Sized t → whole ≡ range (start + o) (start + (c + 1 + t.length))
      → f ≡ text_from b o → text ≡ range (start + f) (start + c) → target (shown_by (c + 1) t.length u) ≡ g
      → row_by (shown_by (c + 1) t.length u) whole text g ≡ pair_row start definitions b o c (shown (c + 1) t)
  pair_row_lem t g e s ew ef ex eg =
      let q = ap (shown_by (c + 1) t.length) e in
      row_by_lem g q ew (s (c + 1) ∙ ap length_of q) (ex ∙ ap (λ (n : ℕ). range (start + n) (start + c)) ef) eg

  pub defined_by : {k : ℕ} {d : Definition} → k < count → d ≡ definition_at table k → defined definitions k ≡ record { number = k + 1; destination = d.destination; title = d.title }
  defined_by {k} h e = rw (definition_in table 0 count k _ h, zero-add, e)

pub names_as : (count : ℕ) (table : List ℕ) {v u : Way} → v ≡ u → Names count table v → Names count table u
names_as count table e = subst (Names count table) e
