-- Every run is safe.
use Rattle.board_laws.proofs.Safe.{each_run_is_safe}
use Rattle.board_laws.proofs.laws.each_run_is_safe.Goals as goal

pub returns : goal.returns
returns c = each_run_is_safe
