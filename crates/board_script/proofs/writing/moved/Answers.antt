-- The goal of `moved` that the tactics leave open.
use Rattle.std.proofs.Common.{rules}
use Rattle.board_script.proofs.Canonicals.{moved_again}
use Rattle.board_script.proofs.writing.moved.Goals as goal

pub returns-clause-again : goal.returns-clause-again
returns-clause-again c = λ text e. moved_again c.args.plan.now _ text (search rules) e
