-- The samples on the bench by the law: their definitions and their span rows are those of document 01. And the most brackets that
-- may be open.
use Prim.Native.Nat.{ℕ}
use mathlib.Core.Path.{◌≡◌, refl, sym, ap, ◌∙◌}
use mathlib.Core.Option.{some-injective}
use mathlib.Core.List.{List, [], ◌∷◌, map}
use lib.ListN.{get_elem?}
use Rattle.scan.specs.Ascii.{ascii}
use Rattle.scan.specs.Member.{In}
use Rattle.block.specs.Block.{Placed}
use Rattle.texts.specs.Texts.{Texts, texts}
use Rattle.row.specs.Row.{Listed, numbers}
use Rattle.definition.specs.Reading.{paragraphs}
use Rattle.joined.specs.Joined.{JoinedIs}
use Rattle.joined.specs.Reading.{joined}
use Rattle.joined.proofs.Joined.{joined_some}
use Rattle.note.specs.Note.{EachRowOnce, FirstDeep, NeverDeep}
use Rattle.note.specs.Reading.{labels, rows_in, span_rows, deep_in, first_deep}
use Rattle.note.specs.Samples.{Sample, samples, with_sheet, with_images, texts_of, read_one, brackets, openings, two, openers, pictures, by_turns, one_more, alone, parts_of, holds, Edges}
use Rattle.note.proofs.Members.{mapped_at}
use Rattle.note.proofs.EachRow.{each_row_iff}
use Rattle.note.proofs.Depth.{first_deep_iff, never_deep_iff}
use Rattle.note.proofs.Openings.{deep_opened, rows_opened, deep_openings, rows_openings}

-- the sample's rows are those that the law gives its note
pub record ByLaw (x : Sample) : Type 0 where
  pub list : List Listed
  pub paragraphs : List Placed
  pub joins : JoinedIs (texts_of x) list paragraphs
  pub definition_rows_are : map (numbers (texts_of x)) list ≡ x.definition_rows
  pub span_rows_are : EachRowOnce (texts_of x) x.rows_of_spans

by_law : (l : List Sample) → map read_one l ≡ l → (x : Sample) → In x l → ByLaw x
by_law l h x (k, e) =
    let same : read_one x ≡ x = some-injective (read_one x) x (sym (mapped_at read_one l k x e) ∙ ap (λ (m : List Sample). get_elem? m k) h ∙ e) in
    record {
      list = joined (texts_of x);
      paragraphs = paragraphs (ascii x.note);
      joins = joined_some (texts_of x);
      definition_rows_are = ap (λ (y : Sample). y.definition_rows) same;
      span_rows_are = (each_row_iff (texts_of x) x.rows_of_spans).0 (ap (λ (y : Sample). y.rows_of_spans) same);
    }

pub samples_by_law : (x : Sample) → In x samples → ByLaw x
samples_by_law = by_law samples holds.bench

pub sheets_by_law : (x : Sample) → In x with_sheet → ByLaw x
sheets_by_law = by_law with_sheet holds.sheets

pub images_by_law : (x : Sample) → In x with_images → ByLaw x
images_by_law = by_law with_images holds.images

-- ---- brackets open: the paragraphs are computed, what is read of each is known
module _ (T : Texts) {ps : List Placed} (j : joined T ≡ []) (p : paragraphs T.note ≡ ps) where
  deep_by : first_deep T ≡ deep_in [] ps
  unfolding first_deep labels
  deep_by = rw (j, p) refl

  rows_by : span_rows T ≡ rows_in T.note [] [] ps
  unfolding span_rows labels
  rows_by = rw (j, p) refl

module _ (s : List ℕ) {ps : List Placed} (e : parts_of s ≡ ([], ps)) where
  abbrev none_listed : joined (alone s) ≡ []
  none_listed = ap (λ (x : List Listed × List Placed). x.0) e

  abbrev paragraphs_are : paragraphs s ≡ ps
  paragraphs_are = ap (λ (x : List Listed × List Placed). x.1) e

  deep_alone : first_deep (alone s) ≡ deep_in [] ps
  deep_alone = deep_by (alone s) none_listed paragraphs_are

  rows_alone : span_rows (alone s) ≡ rows_in s [] [] ps
  rows_alone = rows_by (alone s) none_listed paragraphs_are

pub edges : Edges
unfolding deep_in rows_in
edges =
    record {
      shallow = deep_alone (brackets 1024) holds.parts_1024 ∙ deep_openings [] 0 1024 [];
      deep = deep_alone (brackets 1025) holds.parts_1025 ∙ deep_openings [] 0 1025 [];
      afresh = deep_alone (two 1024 1024) holds.parts_two ∙ deep_openings [] 0 1024 (openings 1026 1024 ∷ []) ∙ deep_openings [] 1026 1024 [];
      deep_later = deep_alone (two 5 1025) holds.parts_later ∙ deep_openings [] 0 5 (openings 7 1025 ∷ []) ∙ deep_openings [] 7 1025 [];
      no_span = rows_alone (brackets 1024) holds.parts_1024 ∙ rows_openings [] 0 1024 [] (brackets 1024) [];
      deep_sheet =
          deep_by (texts (brackets 1024) (brackets 1025)) holds.deep_sheet (ap (λ (x : List Listed × List Placed). x.1) holds.parts_1024)
          ∙ deep_openings [] 0 1024 [];
      shallow_images = deep_alone (openers (pictures 1024)) holds.parts_images ∙ deep_opened [] 0 [] (pictures 1024);
      deep_images = deep_alone (openers (pictures 1025)) holds.parts_deep_images ∙ deep_opened [] 0 [] (pictures 1025);
      shallow_turns = deep_alone (openers (by_turns 512)) holds.parts_turns ∙ deep_opened [] 0 [] (by_turns 512);
      deep_turns = deep_alone (openers (one_more 512)) holds.parts_deep_turns ∙ deep_opened [] 0 [] (one_more 512);
      no_image = rows_alone (openers (by_turns 512)) holds.parts_turns ∙ rows_opened [] 0 [] (by_turns 512) (openers (by_turns 512)) [];
    }

-- and by the law
pub edges_by_law : NeverDeep (alone (brackets 1024)) × FirstDeep (alone (brackets 1025)) 1024 × FirstDeep (alone (openers (pictures 1025))) 2049
edges_by_law = (
  (never_deep_iff (alone (brackets 1024))).0 edges.shallow,
  (first_deep_iff (alone (brackets 1025)) 1024).0 edges.deep,
  (first_deep_iff (alone (openers (pictures 1025))) 2049).0 edges.deep_images,
)
