-- What is found at an address stands there.
use Rattle.std.proofs.Common.{◌∙◌}
use Rattle.board_ops.proofs.index.Tree.get.Goals as goal

pub returns : goal.returns
returns c = λ ops h. c.get.ensures.value ∙ h.finds c.args.pc
