-- After some reporters.
use Rattle.std.proofs.Common.{◌≡◌, map}
use Rattle.std.specs.List.{range_with_len}
use Rattle.board_plan.specs.declared.notes.Step.TheVariants.{Reporter}
use Rattle.board_play.specs.Tried.{Goes, Tells, lefts}
use Rattle.board_play.proofs.tries.try_reporters.Given as goal

abbrev pub invariant-loop-reporter : goal.invariant-loop-reporter
invariant-loop-reporter g l = record {
  goes : Goes l.fn.board (lefts g.D.ErrorDevice.left l.fn.devices) (map Reporter (range_with_len 0 l.reporter)) l.made
      l.board (lefts g.D.ErrorDevice.left l.devices);
  tells : Tells g.W.Watch.told l.fn.board l.board l.fn.watch l.watch;
  plan : l.board.plan ≡ l.fn.board.plan;
}
