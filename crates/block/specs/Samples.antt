-- Samples by computation.
use Rattle.std.specs.Prelude.{ℕ, ◌≡◌, refl, List, [], ◌∷◌}
use Prim.Native.String.{String}
use Rattle.scan.specs.Ascii.{ascii}
use Rattle.scan.specs.Reading.{run, leap}
use Rattle.block.specs.Block.{Placed}
use Rattle.block.specs.Reading.{blank_line, line_length, block_rest, block_length, part_length, block_here, blocks}

abbrev in_note : String → List Placed
in_note t = blocks (ascii t)

abbrev placed : ℕ → String → Placed
placed at t = record { at = at; bytes = ascii t }

without_blocks : (in_note "" ≡ []) × (in_note "\n\n\n" ≡ []) × (in_note " \t" ≡ []) × (in_note "\t \n\n  " ≡ [])
unfolding run leap blank_line line_length block_rest block_length part_length block_here blocks
without_blocks = (refl, refl, refl, refl)

one_block : (in_note "ab" ≡ placed 0 "ab" ∷ [])
    × (in_note "ab\n" ≡ placed 0 "ab\n" ∷ [])
    × (in_note "a\n b\n\tc" ≡ placed 0 "a\n b\n\tc" ∷ [])
    × (in_note "\n \n\ta \nb\n\n\t\n" ≡ placed 3 "\ta \nb\n" ∷ [])
unfolding run leap blank_line line_length block_rest block_length part_length block_here blocks
one_block = (refl, refl, refl, refl)

two_blocks : (in_note "a\nb\n \t \nc\n" ≡ placed 0 "a\nb\n" ∷ placed 8 "c\n" ∷ [])
    × (in_note "[max]: /q2/max \"June\"\n\nUse [max].\n" ≡ placed 0 "[max]: /q2/max \"June\"\n" ∷ placed 23 "Use [max].\n" ∷ [])
unfolding run leap blank_line line_length block_rest block_length part_length block_here blocks
two_blocks = (refl, refl)
