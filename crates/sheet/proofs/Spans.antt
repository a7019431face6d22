-- Where each label of the sheet has an equal one in the note, the span rows and the first bracket too many are those of the note alone.
use Rattle.std.specs.Prelude.{None, Option as Place, Some}
use Prim.Native.Nat.{ℕ, ◌+◌, ◌≤◌, ◌<◌}
use native.Mathlib.Omega.{arith}
use mathlib.Core.Path.{◌≡◌, refl, ap, ap₂, fun_ext, ◌∙◌}
use mathlib.Core.Option.{Option}
use mathlib.Core.List.{List, [], ◌∷◌, ◌++◌, map}
use mathlib.Core.Bool.{Bool, true, false}
use lib.ListN.{length, length-map, get_or-append}
use Rattle.scan.specs.Member.{In}
use Rattle.texts.specs.Texts.{Texts}
use Rattle.block.specs.Block.{Placed}
use Rattle.label.specs.Reading.{is_label}
use Rattle.marking.specs.ReadingRules.{Grammar}
use Rattle.marking.specs.Spans.{Span, code_span, pair_span}
use Rattle.marking.specs.ReadingSpans.{spans, over}
use Rattle.row.specs.declared.Definition.{Definition}
use Rattle.row.specs.Row.{absent, definition}
use Rattle.row.specs.First.{bytes_of}
use Rattle.row.specs.Reading.{first_match}
use Rattle.definition.specs.Reading.{definitions, paragraphs}
use Rattle.inline.specs.Tails.{Tail, inline, full, collapsed, shortcut, length_of}
use Rattle.inline.specs.Rows.{defined, target_of}
use Rattle.inline.specs.ReadingPieces.{piece_from}
use Rattle.inline.specs.ReadingTails.{inline_of, label_after, empty_after, full_by, short_by, text_tail, reference_by, tail_by, tail_of}
use Rattle.inline.specs.declared.InlineParts.{InlineParts}
use Rattle.inline.specs.Reading.{tail_at, grammar}
use Rattle.inline.specs.ReadingRows as paragraph
use Rattle.inline.specs.ReadingRows.{span_row}
use Rattle.inline.proofs.Demand3.{the_marking, the_marking_meets, its_spans_are_read}
use Rattle.inline.proofs.SpanBounds.{number_defined}
use Rattle.note.specs.Note.{depth_limit}
use Rattle.note.specs.Reading.{place_or, rows_in, deep_in}
use Rattle.note.specs.Reading as both
use Rattle.enquiry.proofs.Lookup.{joined_labels}
use Rattle.sheet.specs.Alone.{labels, span_rows, first_deep}
use Rattle.sheet.specs.Claims.{EachThere}
use Rattle.sheet.proofs.Lists.{definitions_joined, map_same}
use Rattle.sheet.proofs.Lookup.{same_found}

-- ---- a paragraph's grammar depends on the labels by what each finds alone
module _ (ls ks : List (List ℕ)) (same : (label : List ℕ) → first_match ls label ≡ first_match ks label) where
  text_same : (text s : List ℕ) (b : Bool) → is_label text ≡ b → text_tail ls text s ≡ text_tail ks text s
  unfolding text_tail
  text_same text s true e = rw (e, text_tail) (ap (short_by (empty_after s)) (same text))
  text_same text s false e = rw (e, text_tail) refl

  reference_same : (text s : List ℕ) (f : Place ℕ) → reference_by ls text s f ≡ reference_by ks text s f
  reference_same text s (Some e) = ap (full_by (e + 1)) (same _)
  reference_same text s None = text_same text s (is_label text) refl

  by_inline : (text s : List ℕ) (at : ℕ) (i : Place InlineParts) → tail_by ls text s at i ≡ tail_by ks text s at i
  by_inline text s at (Some q) = refl
  by_inline text s at None = reference_same text s (label_after s)

  tail_same : (text s : List ℕ) (at : ℕ) → tail_of ls text s at ≡ tail_of ks text s at
  unfolding tail_of
  tail_same text s at = by_inline text s at (inline_of s)

  pub grammar_same : (p : List ℕ) → grammar p ls ≡ grammar p ks
  grammar_same p =
      ap (λ (f : ℕ → ℕ → Option Tail). record { size = length p; kind_at = λ a. (piece_from p a).kind; end_at = λ a. (piece_from p a).end; tail_at = f; length_of = length_of })
      (fun_ext (λ o. fun_ext (λ c. tail_same _ _ (c + 1))))

-- ---- a span's row, where its definition is one of those in front
defined_front : (ds es : List Definition) (k : ℕ) → k < length ds → defined (ds ++ es) k ≡ defined ds k
defined_front ds es k h = rw (get_or-append ds es (definition absent absent absent) k h) refl

target_front : (offset : ℕ) (ds es : List Definition) (x : Span Tail) → (target_of offset ds x).number ≤ length ds → target_of offset (ds ++ es) x ≡ target_of offset ds x
target_front offset ds es (code_span q) h = refl
target_front offset ds es (pair_span y o c (inline n d t)) h = refl
target_front offset ds es (pair_span y o c (full n k)) h = defined_front ds es k (omega arith)
target_front offset ds es (pair_span y o c (collapsed k)) h = defined_front ds es k (omega arith)
target_front offset ds es (pair_span y o c (shortcut k)) h = defined_front ds es k (omega arith)

module _ (s : List ℕ) (more : List (List ℕ)) (es : List Definition) (there : EachThere (labels s) more) where
  abbrev ls : List (List ℕ)
  ls = labels s

  abbrev ds : List Definition
  ds = definitions s

  same : (p : List ℕ) → grammar p (ls ++ more) ≡ grammar p ls
  same = grammar_same (ls ++ more) ls (λ label. same_found ls more label there)

  row_same : (q : Placed) (x : Span Tail) → In x (spans (grammar q.bytes ls)) → span_row s q.at q.bytes (ds ++ es) x ≡ span_row s q.at q.bytes ds x
  row_same q x i =
      let m = the_marking q.bytes ls in
      let c = the_marking_meets q.bytes ls in
      let h = number_defined q.bytes ls m c q.at ds x ((its_spans_are_read q.bytes ls m c).no_others x i) in
      rw (target_front q.at ds es x (omega (arith, h, length-map ds (λ (d : Definition). bytes_of s d.label)))) refl

  paragraph_same : (q : Placed) → paragraph.span_rows s q.at q.bytes (ls ++ more) (ds ++ es) ≡ paragraph.span_rows s q.at q.bytes ls ds
  paragraph_same q =
      ap (λ (g : Grammar Tail). map (span_row s q.at q.bytes (ds ++ es)) (spans g)) (same q.bytes)
      ∙ map_same (span_row s q.at q.bytes (ds ++ es)) (span_row s q.at q.bytes ds) (spans (grammar q.bytes ls)) (row_same q)

  pub rows_same : (ps : List Placed) → rows_in s (ls ++ more) (ds ++ es) ps ≡ rows_in s ls ds ps
  unfolding rows_in
  rows_same [] = refl
  rows_same (q ∷ ps) = ap₂ {A = List (List ℕ)} {B = List (List ℕ)} {C = List (List ℕ)} ◌++◌ (paragraph_same q) (rows_same ps)

  pub deep_same : (ps : List Placed) → deep_in (ls ++ more) ps ≡ deep_in ls ps
  unfolding deep_in
  deep_same [] = refl
  deep_same (q ∷ ps) = ap₂ (place_or q.at) (ap (over depth_limit) (same q.bytes)) (deep_same ps)

-- ---- the whole note
module _ (T : Texts) (there : EachThere (labels T.note) (labels T.sheet)) where
  pub span_rows_alone : both.span_rows T ≡ span_rows T.note
  unfolding both.span_rows both.labels span_rows
  span_rows_alone = rw (joined_labels T, definitions_joined T) (rows_same T.note (labels T.sheet) (definitions T.sheet) there (paragraphs T.note))

  pub first_deep_alone : both.first_deep T ≡ first_deep T.note
  unfolding both.first_deep both.labels first_deep
  first_deep_alone = rw (joined_labels T) (deep_same T.note (labels T.sheet) (definitions T.sheet) there (paragraphs T.note))
