-- What is kept where the handler of the event stands, and none where it stands nowhere.
use Rattle.std.proofs.Common.{arith}
use Rattle.std.proofs.lemmas.Grind.{common_steps}
use Rattle.hart_ctx.proofs.Places.{reads_kept, reads_none}
use Rattle.hart_ctx.proofs.contexts.Contexts.saved.Goals as goal

pub returns-then-i-len : goal.returns-then-i-len
returns-then-i-len c = λ attr. grind (arith, common_steps, reads_kept attr)

pub returns-else-i-len : goal.returns-else-i-len
returns-else-i-len c = λ attr. grind (arith, common_steps, reads_none attr)
