-- Demand 3: every note has exactly one list of markings, one for each paragraph.
use Prim.Native.Nat.{ℕ}
use mathlib.Core.Path.{◌≡◌, refl, sym, ap₂, ◌∙◌}
use mathlib.Core.List.Forall₂
use mathlib.Core.List.{List, [], ◌∷◌, map}
use Rattle.marking.specs.Marking.{Marking}
use Rattle.texts.specs.Texts.{Texts}
use Rattle.block.specs.Block.{Placed}
use Rattle.row.specs.Row.{Listed}
use Rattle.row.specs.First.{labels_of}
use Rattle.definition.specs.Reading.{paragraphs}
use Rattle.joined.specs.Reading.{joined}
use Rattle.joined.proofs.Joined.{joined_some, joined_one}
use Rattle.inline.specs.Tails.{Tail}
use Rattle.inline.proofs.Demand3.{exactly_one_marking, the_marking, the_marking_meets, no_other_marking}
use Rattle.note.specs.Note.{MarkingsAre, Marked}
use Rattle.note.specs.Claims.{OneMarkingEach}

abbrev pub markings_in : List (List ℕ) → List Placed → List (Marking Tail)
markings_in ls = map (λ q. the_marking q.bytes ls)

module _ (T : Texts) (js : List Listed) where
  pub markings_meet : (ps : List Placed) → MarkingsAre T js ps (markings_in (labels_of T js) ps)
  markings_meet [] = Forall₂.nil
  markings_meet (q ∷ ps) = Forall₂.cons (the_marking_meets q.bytes (labels_of T js)) (markings_meet ps)

  pub no_other_markings : {ps : List Placed} {ms : List (Marking Tail)} → MarkingsAre T js ps ms → ms ≡ markings_in (labels_of T js) ps
  no_other_markings Forall₂.nil = refl
  no_other_markings (Forall₂.cons {a = q} {b = m} h t) = ap₂ {A = Marking Tail} {B = List (Marking Tail)} {C = List (Marking Tail)} ◌∷◌ (no_other_marking q.bytes (labels_of T js) m h) (no_other_markings t)

module _ (T : Texts) where
  abbrev pub marked : Marked T
  marked =
      record {
        list = joined T;
        paragraphs = paragraphs T.note;
        markings = markings_in (labels_of T (joined T)) (paragraphs T.note);
        joined = joined_some T;
        each = markings_meet T (joined T) (paragraphs T.note);
      }

  -- the joined list of any marked note is the one that is read
  pub list_is_read : (n : Marked T) → joined T ≡ n.list
  list_is_read n = (joined_one T n.joined).0

  -- exactly one marking of each paragraph meets the conditions, for every two lists of bytes, so for every note and sheet, refused or not
  pub one_marking_each : OneMarkingEach T
  one_marking_each =
      record {
        the_markings = marked;
        no_others = λ n.
            let (d, p) = joined_one T n.joined in
            (sym d, sym p, no_other_markings T n.list n.each ∙ rw (d, p) refl);
        each = λ q h. exactly_one_marking q.bytes (labels_of T (joined T));
      }
