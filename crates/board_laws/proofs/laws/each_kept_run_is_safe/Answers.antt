-- One run is safe.
use Rattle.board_laws.proofs.Safe.{run_is_safe}
use Rattle.board_laws.proofs.laws.each_kept_run_is_safe.Goals as goal

pub returns : goal.returns
returns c = run_is_safe
