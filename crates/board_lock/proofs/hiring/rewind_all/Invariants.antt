-- Some were rewound.
use Rattle.std.proofs.Common.{◌≡◌, map}
use Rattle.board_lock.specs.Workers.{hand_of}
use Rattle.board_lock.proofs.Staying.{rewound_front}
use Rattle.board_lock.proofs.hiring.rewind_all.Given as goal

abbrev pub invariant-loop-place : goal.invariant-loop-place
invariant-loop-place g l =
    map (hand_of g.D.ErrorDevice.left) l.workers
    ≡ rewound_front l.place (map (hand_of g.D.ErrorDevice.left) l.fn.workers)
