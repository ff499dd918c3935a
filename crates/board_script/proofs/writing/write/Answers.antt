-- The goal of `write` that the tactics leave open.
use Rattle.board_script.proofs.Canonicals.{canonical_again}
use Rattle.board_script.proofs.writing.write.Goals as goal

pub returns-clause-again : goal.returns-clause-again
returns-clause-again g c = canonical_again c.args.plan.now
