-- Where each label of the sheet has an equal one in the note, the page is that of the note alone.
use Prim.Native.Nat.{ℕ, zero, suc, ◌+◌, ◌-◌, ◌≤◌}
use native.Mathlib.Omega.{arith}
use mathlib.Core.Path.{◌≡◌, refl, sym, ap, ap₂, ◌∙◌, subst}
use mathlib.Core.Option.{Option, none, some}
use mathlib.Core.List.{List, [], ◌∷◌, ◌++◌, flat_map}
use mathlib.Core.Bool.{Bool, cond}
use lib.ListN.{length, get_or, length-map}
use Rattle.scan.specs.Member.{In}
use Rattle.texts.specs.Texts.{Texts, texts}
use Rattle.block.specs.Block.{Placed}
use Rattle.row.specs.declared.Definition.{Definition}
use Rattle.row.specs.Row.{Listed}
use Rattle.row.specs.First.{bytes_of}
use Rattle.scan.specs.Reading.{leap}
use Rattle.block.specs.Reading.{blocks}
use Rattle.definition.specs.Reading.{definitions_in, definitions, paragraphs}
use Rattle.joined.specs.Reading.{joined}
use Rattle.joined.proofs.Places.{length_joined}
use Rattle.inline.specs.Rows.{row_end}
use Rattle.note.proofs.Fits.{rows_fit}
use Rattle.code.specs.Reading.{code_element}
use Rattle.html.specs.Tags.{paragraph_open, paragraph_close}
use Rattle.page.specs.Page.{tag_if}
use Rattle.page.specs.Reading.{is_code, row_start, text_start, text_end, text, first_row, starts, closes, tagged, target_text, Written}
use Rattle.page.specs.Reading as page
use Rattle.page.proofs.Found.{found_in}
use Rattle.sheet.specs.Alone.{labels, span_rows, open_tag, close_tag, started, closed, written_by, written_at, content_from, paragraph_page, page_of}
use Rattle.sheet.specs.Claims.{EachThere}
use Rattle.sheet.proofs.Lists.{named_note}
use Rattle.sheet.proofs.Spans.{span_rows_alone}

-- ---- where each row's destination and title lie in the note
module _ (T : Texts) (js : List Listed) (rows : List (List ℕ)) (own : (r : List ℕ) → In r rows → target_text T js r ≡ T.note) where
  started_same : (tags : Bool) (r : List ℕ) → In r rows → page.started T js tags r ≡ started T.note tags r
  started_same tags r i =
      ap
      (λ (s : List ℕ).
      cond (is_code r) (record { size = row_end r - row_start r; bytes = code_element tags (bytes_of T.note (text r)) })
      (record { size = text_start r - row_start r; bytes = tag_if tags (open_tag s r) }))
      (own r i)

  closed_same : (tags : Bool) (r : List ℕ) → In r rows → page.closed T js tags r ≡ closed T.note tags r
  closed_same tags r i = ap (λ (s : List ℕ). record { size = row_end r - text_end r; bytes = tag_if tags (close_tag s r) }) (own r i)

  written_by_lem : (a c : Option (List ℕ)) (l : List ℕ) → ((r : List ℕ) → a ≡ some r → In r rows) → ((r : List ℕ) → c ≡ some r → In r rows)
      → page.written_by T js rows a c l ≡ written_by T.note rows a c l
  unfolding page.written_by written_by
  written_by_lem (some r) c l i k = started_same (tagged rows r) r (i r refl)
  written_by_lem none (some r) l i k = closed_same (tagged rows r) r (k r refl)
  written_by_lem none none l i k = refl

  written_same : (l : List ℕ) (at : ℕ) → page.written_at T js rows l at ≡ written_at T.note rows l at
  written_same l at =
      written_by_lem (first_row (starts at) rows) (first_row (closes at) rows) l (λ r e. (found_in (starts at) rows r e).0) (λ r e. (found_in (closes at) rows r e).0)

  content_same : (k : ℕ) (l : List ℕ) (at : ℕ) → page.content_from T js rows k l at ≡ content_from T.note rows k l at
  unfolding page.content_from content_from
  content_same k [] at = refl
  content_same zero (b ∷ l) at =
      let x = written_at T.note rows (b ∷ l) at in
      ap (λ (y : Written). y.bytes ++ page.content_from T js rows (y.size - 1) l (at + 1)) (written_same (b ∷ l) at)
      ∙ ap (λ (w : List ℕ). x.bytes ++ w) (content_same (x.size - 1) l (at + 1))
  content_same (suc k) (b ∷ l) at = content_same k l (at + 1)

  paragraphs_same : (ps : List Placed) → flat_map (page.paragraph_page T js rows) ps ≡ flat_map (paragraph_page T.note rows) ps
  unfolding page.paragraph_page paragraph_page flat_map
  paragraphs_same [] = refl
  paragraphs_same (q ∷ ps) =
      ap₂ {A = List ℕ} {B = List ℕ} {C = List ℕ} (λ (w v : List ℕ). (paragraph_open ++ w ++ paragraph_close) ++ v) (content_same 0 q.bytes q.at) (paragraphs_same ps)

-- ---- the empty sheet has no definition and no label
pub no_definitions : length (definitions []) ≡ 0
unfolding definitions definitions_in blocks leap
no_definitions = refl

pub none_there : (s : List ℕ) → EachThere (labels s) (labels [])
none_there s i h = absurd (omega (arith, length-map (definitions []) (λ (d : Definition). bytes_of [] d.label), no_definitions))

module _ (T : Texts) (there : EachThere (labels T.note) (labels T.sheet)) where
  -- a row names one of the note's definitions, or none
  number_few : (r : List ℕ) → In r (span_rows T.note) → get_or r 5 0 ≤ length (definitions T.note)
  number_few r i =
      let S = texts T.note [] in
      let f = rows_fit S r (subst (In r) (sym (span_rows_alone S (none_there T.note))) i) in
      omega (arith, f.number, length_joined S, no_definitions)

  pub page_alone : page.page_of T ≡ page_of T.note
  unfolding page.page_of page.page_by page_of
  page_alone =
      rw (span_rows_alone T there)
      (paragraphs_same T (joined T) (span_rows T.note) (λ r i. named_note T (get_or r 5 0) (number_few r i)) (paragraphs T.note))
