-- What is picked of the first in line.
use Rattle.std.proofs.Common.{◌∙◌}
use Rattle.sse_target.proofs.targets.Targets.chosen.Goals as goal

pub returns-clause-chosen : goal.returns-clause-chosen
returns-clause-chosen c = λ t held. c.picked.ensures ∙ c.first.ensures.chosen t held c.args.top
