-- After some harts.
use Rattle.std.proofs.Common.{◌≡◌, List, map}
use Rattle.std.specs.List.{range_with_len}
use Rattle.ras_device.specs.declared.act.Act.{Act}
use Rattle.board_plan.specs.declared.notes.Step.TheVariants.{Hart}
use Rattle.board_play.specs.Tried.{Goes, Tells}
use Rattle.board_play.proofs.tries.try_harts.Given as goal

abbrev pub invariant-loop-hart : goal.invariant-loop-hart
invariant-loop-hart g l = record {
  goes : (left : List (List Act))
      → Goes l.fn.board left (map Hart (range_with_len 0 l.hart)) l.made l.board left;
  tells : Tells g.W.Watch.told l.fn.board l.board l.fn.watch l.watch;
  plan : l.board.plan ≡ l.fn.board.plan;
}
