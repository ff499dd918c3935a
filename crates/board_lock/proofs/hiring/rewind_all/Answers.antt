-- One worker more, and all of them.
use Rattle.std.proofs.Common.{arith}
use Rattle.board_lock.specs.Workers.{hand_of}
use Rattle.board_lock.proofs.Staying.{rewound_ends, rewound_more}
use Rattle.board_lock.proofs.hiring.rewind_all.Goals as goal

pub loop-place-preserved : goal.loop-place-preserved
loop-place-preserved g c =
    rewound_more (hand_of g.D.ErrorDevice.left) c.args.workers.now c.loop-place.workers c.loop-place.place
    c.index-workers-place.result c.rewind.new.self c.loop-place-test.true c.loop-place.invariant c.rewind.ensures

pub returns : goal.returns
returns g c =
    rewound_ends (hand_of g.D.ErrorDevice.left) c.args.workers.now c.loop-place.workers c.loop-place.place
    (omega (arith, c.loop-place-test.false)) c.loop-place.invariant
