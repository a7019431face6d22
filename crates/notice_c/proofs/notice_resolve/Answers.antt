-- The number is a 32-bit number, and the part ends within its text; what is stored and returned are the numbers of the enquiry's answer.
use borrow.Author.Rules.{rules}
use Rattle.notice_c.proofs.Resolve.{number_small, end_within, resolve_kept}
use Rattle.notice_c.proofs.notice_resolve.Goals as goal

pub overflow_add-end : goal.overflow_add-end
overflow_add-end c = record { fits = end_within _ _ c.resolve-part.ensures c.part_start-start.ensures (search rules) (search rules) }

pub overflow_cast-result : goal.overflow_cast-result
overflow_cast-result c = record { fits = number_small _ _ c.resolve-part.ensures }

pub returns : goal.returns
returns c = resolve_kept _ _ c.resolve-part.ensures c.part_start-start.ensures
