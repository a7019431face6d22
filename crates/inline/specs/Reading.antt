-- The grammar of a paragraph, from its bytes and the labels of the definitions: it computes `rules`.
use Rattle.std.specs.Prelude.{ℕ, ◌+◌, ◌-◌, List, length, take, drop}
use Rattle.std.proofs.Math.Option.{Option}
use Rattle.marking.specs.ReadingRules.{Grammar}
use Rattle.inline.specs.Tails.{Tail, length_of}
use Rattle.inline.specs.ReadingPieces.{piece_from}
use Rattle.inline.specs.ReadingTails.{tail_of}

module _ (p : List ℕ) (labels : List (List ℕ)) where
  -- the text from place o to the closing bracket at place c, and what follows the bracket
  abbrev pub tail_at : ℕ → ℕ → Option Tail
  tail_at o c = tail_of labels (take (c - o) (drop o p)) (drop (c + 1) p) (c + 1)

  abbrev pub grammar : Grammar Tail
  grammar = record { size = length p; kind_at = λ a. (piece_from p a).kind; end_at = λ a. (piece_from p a).end; tail_at = tail_at; length_of = length_of }
