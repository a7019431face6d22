-- The rules of a paragraph, from its bytes and the labels of the definitions.
use Rattle.std.specs.Prelude.{ℕ, ◌+◌, ◌-◌, List, length, take, drop}
use Rattle.marking.specs.Marking.{Rules}
use Rattle.inline.specs.Pieces.{Starts}
use Rattle.inline.specs.Tails.{Tail, TailOf, length_of}

-- "what follows the closing bracket is read on its own, to the paragraph's end at most": the text from place o to the closing bracket at place c
abbrev pub rules : List ℕ → List (List ℕ) → Rules Tail
rules p labels =
    record {
      size = length p;
      Starts = Starts p;
      TailAt = λ o c t. TailOf labels (take (c - o) (drop o p)) (drop (c + 1) p) (c + 1) t;
      length_of = length_of;
    }
