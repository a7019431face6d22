-- The page that the rows call for is the page of the markings, and there is one.
use Prim.Native.Nat.{ℕ, suc}
use mathlib.Core.Path.{◌≡◌, refl, ap, ◌∙◌, subst}
use mathlib.Core.Logic.{◌↔◌}
use mathlib.Core.Option.{some}
use mathlib.Core.List.Forall₂
use mathlib.Core.List.{List, ◌++◌, flat_map}
use lib.ListN.{get_elem?}
use Rattle.marking.specs.Marking.{Marking}
use Rattle.texts.specs.Texts.{Texts}
use Rattle.block.specs.Block.{Placed}
use Rattle.row.specs.Row.{Listed}
use Rattle.joined.proofs.Joined.{joined_one}
use Rattle.inline.specs.Tails.{Tail}
use Rattle.note.specs.Note.{MarkingsAre, Marked}
use Rattle.note.specs.Reading.{span_rows}
use Rattle.note.proofs.Markings.{marked}
use Rattle.note.proofs.Placing.{each_inside}
use Rattle.page.specs.Page.{ParagraphIs, PageIn, none, more, PageIs}
use Rattle.page.specs.Reading.{paragraph_page, page_by, page_of}
use Rattle.page.proofs.Content.{paragraph_iff}
use Rattle.page.proofs.Here.{in_order, marking_of, rows_here}

-- the paragraph q with the marking m has one page, and it is read by these rows
abbrev Read : Texts → List Listed → List (List ℕ) → Placed → Marking Tail → Type 0
Read T js rows q m = (v : List ℕ) → (paragraph_page T js rows q ≡ v) ↔ ParagraphIs T js q m v

-- so has each of these
abbrev EachRead : Texts → List Listed → List (List ℕ) → List Placed → List (Marking Tail) → Type 0
EachRead T js rows ps ms = (k : ℕ) (q : Placed) (m : Marking Tail) → get_elem? ps k ≡ some q → get_elem? ms k ≡ some m → Read T js rows q m

module _ (T : Texts) (js : List Listed) (rows : List (List ℕ)) where
  page_in : {ps : List Placed} {ms : List (Marking Tail)} → MarkingsAre T js ps ms → EachRead T js rows ps ms → PageIn T js ps ms (flat_map (paragraph_page T js rows) ps)
  unfolding flat_map
  page_in Forall₂.nil f = none
  page_in (Forall₂.cons {a = q} {b = m} c t) f = more ((f 0 q m refl refl (paragraph_page T js rows q)).0 refl) (page_in t (λ k. f (suc k)))

  page_only : {ps : List Placed} {ms : List (Marking Tail)} {w : List ℕ} → EachRead T js rows ps ms → PageIn T js ps ms w → flat_map (paragraph_page T js rows) ps ≡ w
  unfolding flat_map
  page_only f none = refl
  page_only f (more {q = q} {ps = ps} {m = m} {w = w} {v = v} p t) =
      ap (λ (y : List ℕ). y ++ flat_map (paragraph_page T js rows) ps) ((f 0 q m refl refl w).1 p) ∙ ap (λ (y : List ℕ). w ++ y) (page_only (λ k. f (suc k)) t)

module _ (T : Texts) where
  each_read : (n : Marked T) → EachRead T n.list (span_rows T) n.paragraphs n.markings
  each_read n k q m e d = paragraph_iff T n.list q m (marking_of T n k q m e d) (each_inside (in_order T n) k q e) (span_rows T) (rows_here T n k q m e d)

  page_is : PageIs T (page_of T)
  unfolding page_of page_by
  page_is = record { marked = marked T; page = page_in T (marked T).list (span_rows T) (marked T).each (each_read (marked T)) }

  no_other_page : {w : List ℕ} → PageIs T w → page_of T ≡ w
  unfolding page_of page_by
  no_other_page r =
      let n = r.marked in
      let (d, p) = joined_one T n.joined in
      rw (d, p) (page_only T n.list (span_rows T) (each_read n) r.page)

  -- the page read from the paragraphs and the span rows is the page by the law
  pub page_iff : (w : List ℕ) → (page_of T ≡ w) ↔ PageIs T w
  page_iff w = ((λ e. subst (PageIs T) e page_is), no_other_page)
