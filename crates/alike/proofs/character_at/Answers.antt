-- The two ways through are the two shapes of a character: two bytes of the table, or one byte.
use borrow.Author.Rules.{rules}
use mathlib.Core.Path.{refl}
use Rattle.alike.proofs.Opening.{opens_one, opens_pair}
use Rattle.alike.proofs.character_at.Goals as goal

pub returns-in-Some-clause-opens : goal.returns-in-Some-clause-opens
returns-in-Some-clause-opens c = opens_pair _ _ c.requires.p_in_bounds c.requires.p_value refl c.peek.ensures c.in-Some.ensures.value c.word_of-word.ensures (search rules)

pub returns-in-None-clause-opens : goal.returns-in-None-clause-opens
returns-in-None-clause-opens c = opens_one _ _ c.requires.p_in_bounds c.requires.p_value refl c.peek.ensures c.in-None.ensures.value c.lowered.ensures
