-- The run of the steps is safe.
use Rattle.std.proofs.Common.{subst}
use Rattle.board_core.specs.Inside.{played}
use Rattle.board_core.specs.Played.{IsSafe}
use Rattle.board_core.proofs.Safe.{is_safe}
use Rattle.board_core.proofs.brief.Brief.steps.Goals as goal

pub returns-clause-safe : goal.returns-clause-safe
returns-clause-safe c = subst IsSafe c.self.view_is (is_safe (played c.self.inside) c.self.invariant.keeps.played)
