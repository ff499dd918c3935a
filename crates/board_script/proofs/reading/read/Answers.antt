-- Goals of `read` that the tactics leave open.
use Rattle.std.proofs.Common.{rules}
use Rattle.board_plan.specs.Script.{script}
use Rattle.board_script.proofs.Boards.{answered_plan, answered_reports, answered_entries, answered_gathers}
use Rattle.board_script.proofs.reading.read.Goals as goal

pub returns-clause-is_plan : goal.returns-clause-is_plan
unfolding script
returns-clause-is_plan c = answered_plan c.args.text.now _ (search rules)

pub returns-clause-reports : goal.returns-clause-reports
unfolding script
returns-clause-reports c = answered_reports c.args.text.now _ (search rules)

pub returns-clause-entries : goal.returns-clause-entries
unfolding script
returns-clause-entries c = answered_entries c.args.text.now _ (search rules)

pub returns-clause-gathers : goal.returns-clause-gathers
unfolding script
returns-clause-gathers c = answered_gathers c.args.text.now _ (search rules)
