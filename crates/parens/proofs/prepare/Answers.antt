-- The mark past the text's tells that they are made.
use Rattle.parens.proofs.Parts.{told, still_marks}
use borrow.Author.Rules.{rules}
use Rattle.parens.proofs.prepare.Goals as goal

pub returns : goal.returns
returns c = search (told, still_marks, rules)
