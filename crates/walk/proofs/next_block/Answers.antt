use Rattle.std.proofs.Common.{rules}
use Rattle.walk.proofs.Steps.{block_here_lem}
use Rattle.walk.proofs.next_block.Goals as goal

pub returns-then-not-blank_line : goal.returns-then-not-blank_line
returns-then-not-blank_line c = search (block_here_lem, rules)
