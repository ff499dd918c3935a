-- One hart more.
use Rattle.board_lock.specs.Workers.{hand_of}
use Rattle.board_lock.proofs.Staying.{harts_more}
use Rattle.board_lock.proofs.hiring.hire_harts.Goals as goal

pub loop-hart-preserved : goal.loop-hart-preserved
loop-hart-preserved g c =
    harts_more (hand_of g.D.ErrorDevice.left) c.loop-hart.workers c.push.new.self c.hart.result c.loop-hart.hart
    c.loop-hart.invariant c.hart.ensures c.in_ok-push.ensures.ok
