-- A round more, and the idle one.
use Rattle.board_lock.proofs.Rounding.{went_busy, went_over}
use Rattle.board_lock.proofs.replaying.try_rounds.Goals as goal

pub loop-preserved : goal.loop-preserved
loop-preserved g c =
    record { busy = went_busy _ _ _ _ _ _ _ c.loop-test.true c.loop.invariant.busy c.try_round.ensures.went }

pub returns : goal.returns
returns g c = went_over _ _ _ _ _ _ _ c.loop-test.false c.loop.invariant.busy c.try_round.ensures.went
