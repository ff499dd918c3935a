-- What is chosen comes before the next op.
use Rattle.event_laws.proofs.Prompt.{each_step_is_prompt}
use Rattle.event_laws.proofs.laws.each_step_is_prompt.Goals as goal

pub returns : goal.returns
returns c = each_step_is_prompt
