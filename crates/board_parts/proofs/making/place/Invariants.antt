-- No start so far names the hart.
use Rattle.std.proofs.Common.{◌≡◌, drop}
use Rattle.board_plan.specs.State.{start_of}
use Rattle.board_parts.proofs.making.place.Given as goal

abbrev pub invariant-loop-start : goal.invariant-loop-start
invariant-loop-start l = start_of l.hart l.starts ≡ start_of l.hart (drop l.start-index l.starts)
