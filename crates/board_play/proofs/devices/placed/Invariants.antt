-- The devices so far.
use Rattle.std.proofs.Common.{◌≡◌, map}
use Rattle.board_play.specs.Tried.{lefts}
use Rattle.board_play.proofs.devices.placed.Given as goal

abbrev pub invariant-loop-device : goal.invariant-loop-device
invariant-loop-device g l = record {
  placed : lefts g.D.ErrorDevice.left l.places ≡ map (λ d. (g.D.ErrorDevice.left d).acts) l.yielded;
}
