-- `definitions` and `paragraphs` are exactly those of a note: everything that the rules admit, nothing else, each once, in order.
use Prim.Native.Nat.{ℕ, ◌+◌, ◌≤◌}
use native.Mathlib.Omega.{arith}
use mathlib.Core.Path.{◌≡◌, refl, sym, ap, subst, ◌∙◌}
use mathlib.Core.List.{List}
use mathlib.Core.Logic.{◌↔◌}
use lib.ListN.{length, take, drop}
use lib.Seq.{length-take-le, take-add, drop_at}
use Rattle.block.specs.Block.{Placed}
use Rattle.block.specs.Reading.{blocks}
use Rattle.block.proofs.Blocks.{blocks_iff}
use Rattle.block.proofs.Places as places
use Rattle.row.specs.declared.Definition.{Definition}
use Rattle.definition.specs.Definition.{Taken}
use Rattle.definition.specs.Note.{Paragraph, Read, NoteIs}
use Rattle.definition.specs.Note as note
use Rattle.definition.specs.Reading.{Taking, up_to_end, definitions_of, paragraph_of, definitions_in, paragraphs_in, definitions, paragraphs}
use Rattle.definition.proofs.Takings.{taking_takes, taken_left}
use Rattle.definition.proofs.Paragraphs.{paragraph_iff}

-- ---- a block of s: its bytes are what is left, at its place, of the note up to its end
module _ (s : List ℕ) (b : Placed) (w : places.Within s b) where
  pub end_length : length (up_to_end s b) ≡ b.at + length b.bytes
  end_length = length-take-le (b.at + length b.bytes) s w.inside

  its_bytes : drop b.at (up_to_end s b) ≡ b.bytes
  its_bytes =
      ap (drop b.at) (take-add b.at (length b.bytes) s)
      ∙ drop_at (take b.at s) (take (length b.bytes) (drop b.at s)) b.at (length-take-le b.at s (omega (arith, w.inside)))
      ∙ sym w.bytes_there

  pub starts : b.at ≤ length (up_to_end s b)
  starts = omega (arith, end_length)

  block_taken : Taken b.bytes b.at (definitions_of s b).definitions (drop (definitions_of s b).after (up_to_end s b)) (definitions_of s b).after
  unfolding definitions_of
  block_taken = rw its_bytes at (taking_takes (up_to_end s b) b.at starts).by_law

  block_left : Paragraph (drop (definitions_of s b).after (up_to_end s b)) (definitions_of s b).after (paragraph_of s b)
  unfolding paragraph_of
  block_left = (paragraph_iff (up_to_end s b) (definitions_of s b).after (paragraph_of s b)).0 refl

  block_one : {ds : List Definition} {left : List ℕ} {after : ℕ} {ps : List Placed} → Taken b.bytes b.at ds left after → Paragraph left after ps
      → ((definitions_of s b).definitions ≡ ds) × (paragraph_of s b ≡ ps)
  unfolding definitions_of paragraph_of
  block_one {ds} {left} {after} {ps} t p =
      let (q, l) = taken_left (up_to_end s b) {at = b.at} {after = after} {ds = ds} {left = left} starts (rw its_bytes t) in
      (ap (λ (x : Taking). x.definitions) q, rw q ((paragraph_iff (up_to_end s b) after ps).1 (rw l at p)))

-- ---- all of them
module _ (s : List ℕ) where
  read_sound : {from : ℕ} {bs : List Placed} → places.InOrder s from bs → Read bs (definitions_in s bs) (paragraphs_in s bs)
  unfolding definitions_in paragraphs_in
  read_sound places.done = note.none
  read_sound (places.next {b = b} h w o) = note.block (block_taken s b w) (block_left s b w) (read_sound o)

  read_complete : {bs ps : List Placed} {ds : List Definition} → Read bs ds ps → {from : ℕ} → places.InOrder s from bs → (definitions_in s bs ≡ ds) × (paragraphs_in s bs ≡ ps)
  unfolding definitions_in paragraphs_in
  read_complete note.none places.done = (refl, refl)
  read_complete (note.block {b = b} t p r) (places.next h w o) =
      let (d, q) = block_one s b w t p in
      let (ds, qs) = read_complete r o in
      (rw (d, ds) refl, rw (q, qs) refl)

  pub note_iff : (ds : List Definition) (ps : List Placed) → ((definitions s ≡ ds) × (paragraphs s ≡ ps)) ↔ NoteIs s ds ps
  unfolding definitions paragraphs
  note_iff ds ps = (
    (λ (d, p). record { blocks = blocks s; are_blocks = (blocks_iff s (blocks s)).0 refl; read = rw (d, p) at (read_sound (places.blocks_in_order s)) }),
    (λ m.
        let e : blocks s ≡ m.blocks = (blocks_iff s m.blocks).1 m.are_blocks in
        read_complete (subst (λ (x : List Placed). Read x ds ps) (sym e) m.read) (places.blocks_in_order s)),
  )

  -- every note has one list of definitions and one of paragraphs
  pub note_some : NoteIs s (definitions s) (paragraphs s)
  note_some = (note_iff (definitions s) (paragraphs s)).0 (refl, refl)

  pub note_one : {ds es : List Definition} {ps qs : List Placed} → NoteIs s ds ps → NoteIs s es qs → (ds ≡ es) × (ps ≡ qs)
  note_one {ds} {es} {ps} {qs} m n =
      let (d, p) = (note_iff ds ps).1 m in
      let (e, q) = (note_iff es qs).1 n in
      (sym d ∙ e, sym p ∙ q)
