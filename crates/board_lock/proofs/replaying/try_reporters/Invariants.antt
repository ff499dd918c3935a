-- After some reporters.
use Rattle.std.proofs.Common.{map}
use Rattle.std.specs.List.{range_with_len}
use Rattle.board_plan.specs.declared.notes.Step.TheVariants.{Reporter}
use Rattle.board_lock.specs.Trying.{Went}
use Rattle.board_lock.specs.Workers.{hand_of}
use Rattle.board_lock.proofs.replaying.try_reporters.Given as goal

abbrev pub invariant-loop-reporter : goal.invariant-loop-reporter
invariant-loop-reporter g l = record {
  went : Went (g.B.Lent.played l.fn.board) (map (hand_of g.D.ErrorDevice.left) l.fn.workers)
      (map Reporter (range_with_len 0 l.reporter)) l.made (g.B.Lent.played l.board)
      (map (hand_of g.D.ErrorDevice.left) l.workers);
}
