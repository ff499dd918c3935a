-- The handlers are those that the notes tell.
use Rattle.context_laws.proofs.Following.{each_stack_is_told}
use Rattle.context_laws.proofs.laws.each_stack_is_told.Goals as goal

pub returns : goal.returns
returns c = record { handlers = each_stack_is_told }
