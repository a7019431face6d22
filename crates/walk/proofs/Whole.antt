-- From the note's start the steps go over all its blocks, definitions and paragraphs.
use Prim.Native.Nat.{ℕ}
use mathlib.Core.Path.{◌≡◌, refl}
use mathlib.Core.List.{List}
use Rattle.block.specs.Reading.{blocks}
use Rattle.definition.specs.Reading.{taking_from, definitions_from, definitions, paragraphs}
use Rattle.walk.specs.Reading.{blocks_from, definitions_after, paragraphs_from}
use Rattle.walk.proofs.Steps.{cursor}

module _ (s : List ℕ) where
  pub all_blocks : blocks_from s 0 ≡ blocks s
  unfolding blocks_from blocks
  all_blocks = refl

  pub all_definitions : definitions_after s (cursor 0 0) ≡ definitions s
  unfolding definitions_after definitions definitions_from taking_from blocks_from blocks
  all_definitions = refl

  pub all_paragraphs : paragraphs_from s 0 ≡ paragraphs s
  unfolding paragraphs_from paragraphs blocks_from blocks
  all_paragraphs = refl
