-- The first bracket too many is a bracket of the note.
use Prim.Native.Nat.{ℕ, ◌+◌, ◌<◌}
use native.Mathlib.Omega.{arith}
use mathlib.Core.Path.{◌≡◌, sym, ap, ◌∙◌, subst}
use mathlib.Core.Option.{some}
use mathlib.Core.List.{List}
use lib.ListN.{length, get_or, drop, get_elem?}
use lib.Seq.{get_or-take, get_or-drop}
use Rattle.scan.proofs.Scan.{peek_inside}
use Rattle.marking.proofs.Roles.{opening≢trailing}
use Rattle.texts.specs.Texts.{Texts}
use Rattle.block.specs.Block.{Placed}
use Rattle.definition.specs.Reading.{paragraphs}
use Rattle.joined.proofs.Joined.{joined_one}
use Rattle.definition.proofs.NotePlaces.{Inside, paragraphs_in_order}
use Rattle.note.specs.Note.{MarkingOf}
use Rattle.note.specs.Reading.{first_deep}
use Rattle.note.proofs.Members.{pair_at}
use Rattle.note.proofs.Spans.{bracket_byte}
use Rattle.note.proofs.Placing.{each_inside}
use Rattle.note.proofs.Depth.{first_deep_iff}

-- a byte of the paragraph q, as a byte of the note
byte_there : (s : List ℕ) (q : Placed) → Inside s q → (i : ℕ) → i < length q.bytes → get_or s (q.at + i) 0 ≡ get_or q.bytes i 0
byte_there s q w i h =
    sym (get_or-drop q.at s i 0) ∙ sym (get_or-take (length q.bytes) (drop q.at s) i 0 h) ∙ ap (λ (l : List ℕ). get_or l i 0) (sym w.bytes_there)

pub first_deep_bracket : (T : Texts) (place : ℕ) → first_deep T ≡ some place → (place < length T.note) × (get_or T.note place 0 ≡ 91)
first_deep_bracket T place e =
    let n = ((first_deep_iff T place).0 e).marked in
    let f = ((first_deep_iff T place).0 e).first in
    let q = f.paragraph in
    let (d, p) = joined_one T n.joined in
    let there : get_elem? (paragraphs T.note) f.index ≡ some q = ap (λ (l : List Placed). get_elem? l f.index) p ∙ f.paragraph_at in
    let w : Inside T.note q = each_inside (paragraphs_in_order T.note) f.index q there in
    let c : MarkingOf T n.list q f.marking = pair_at n.each f.index q f.marking f.paragraph_at f.marking_at in
    let b = f.too_many.bracket in
    let here : get_or q.bytes f.within 0 ≡ 91 =
    bracket_byte (c.kinds f.too_many.index b.piece b.at (λ t. opening≢trailing (sym b.as_role ∙ t))) b.as_role f.within f.too_many.place_is in
    let h : f.within < length q.bytes = peek_inside q.bytes f.within (λ z. omega arith) in
    (omega (arith, f.place_is, w.inside), subst (λ (k : ℕ). get_or T.note k 0 ≡ 91) f.place_is (byte_there T.note q w f.within h ∙ here))
