-- The reporters so far, each with no acts.
use Rattle.std.proofs.Common.{take}
use Rattle.board_core.specs.OwnActs.{IsNew, Paired}
use Rattle.board_core.proofs.making.no_acts.Given as goal

abbrev pub invariant-loop-reporter : goal.invariant-loop-reporter
invariant-loop-reporter l = Paired IsNew (take l.reporter-index l.reporters) l.acts
