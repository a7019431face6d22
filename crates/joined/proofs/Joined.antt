-- `joined` is exactly the joined list: everything that the rules admit, nothing else, in order.
use mathlib.Core.Path.{◌≡◌, refl, sym}
use mathlib.Core.Logic.{◌↔◌}
use mathlib.Core.List.{List}
use Rattle.texts.specs.Texts.{Texts}
use Rattle.block.specs.Block.{Placed}
use Rattle.row.specs.Row.{Listed}
use Rattle.definition.specs.Reading.{definitions, paragraphs}
use Rattle.definition.proofs.Notes.{note_iff, note_some}
use Rattle.joined.specs.Joined.{JoinedIs}
use Rattle.joined.specs.Reading.{joined}

module _ (T : Texts) where
  pub joined_some : JoinedIs T (joined T) (paragraphs T.note)
  unfolding joined
  joined_some =
      record {
        note_definitions = definitions T.note;
        note_is = note_some T.note;
        sheet_definitions = definitions T.sheet;
        sheet_paragraphs = paragraphs T.sheet;
        sheet_is = note_some T.sheet;
        joins = refl;
      }

  pub joined_one : {js : List Listed} {ps : List Placed} → JoinedIs T js ps → (joined T ≡ js) × (paragraphs T.note ≡ ps)
  unfolding joined
  joined_one {js} {ps} j =
      let (a, p) = (note_iff T.note j.note_definitions ps).1 j.note_is in
      let (b, q) = (note_iff T.sheet j.sheet_definitions j.sheet_paragraphs).1 j.sheet_is in
      (rw (a, b) (sym j.joins), p)

  pub joined_iff : (js : List Listed) (ps : List Placed) → ((joined T ≡ js) × (paragraphs T.note ≡ ps)) ↔ JoinedIs T js ps
  joined_iff js ps = ((λ (e, f). rw (e, f) at joined_some), joined_one)
