-- Other steps leave what a hart runs.
use Rattle.event_laws.proofs.Depths.{each_step_leaves_others}
use Rattle.event_laws.proofs.laws.each_step_leaves_others.Goals as goal

pub returns : goal.returns
returns c = each_step_leaves_others
