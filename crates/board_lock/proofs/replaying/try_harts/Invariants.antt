-- After some harts.
use Rattle.std.proofs.Common.{map}
use Rattle.std.specs.List.{range_with_len}
use Rattle.board_plan.specs.declared.notes.Step.TheVariants.{Hart}
use Rattle.board_lock.specs.Trying.{Went}
use Rattle.board_lock.specs.Workers.{hand_of}
use Rattle.board_lock.proofs.replaying.try_harts.Given as goal

abbrev pub invariant-loop-hart : goal.invariant-loop-hart
invariant-loop-hart g l = record {
  went : Went (g.B.Lent.played l.fn.board) (map (hand_of g.D.ErrorDevice.left) l.fn.workers)
      (map Hart (range_with_len 0 l.hart)) l.made
      (g.B.Lent.played l.board) (map (hand_of g.D.ErrorDevice.left) l.workers);
}
