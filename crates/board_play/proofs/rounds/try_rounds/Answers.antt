-- A round more, and the idle one.
use Rattle.board_play.specs.Tried.{lefts}
use Rattle.board_play.proofs.Playing.{follow-start, follow-more, follow-end}
use Rattle.board_play.proofs.Telling.{tells-nil, tells-then}
use Rattle.board_play.proofs.rounds.try_rounds.Goals as goal

pub loop-init : goal.loop-init
loop-init g c =
    record {
      followed = follow-start c.args.board.now (lefts g.D.ErrorDevice.left c.args.devices.now);
      tells = tells-nil g.W.Watch.told c.args.board.now c.args.watch.now;
    }

pub loop-preserved : goal.loop-preserved
loop-preserved g c =
    record {
      followed = follow-more _ _ _ _ _ _ _ c.loop-test.true c.loop.invariant.followed c.try_round.ensures.goes;
      tells = tells-then g.W.Watch.told _ _ _ _ _ _ c.loop.invariant.tells c.try_round.ensures.tells;
    }

pub returns-clause-rounds : goal.returns-clause-rounds
returns-clause-rounds g c given fits has =
    follow-end _ _ _ _ _ _ _ c.loop-test.false c.loop.invariant.followed c.try_round.ensures.goes given fits has

pub returns-clause-tells : goal.returns-clause-tells
returns-clause-tells g c =
    tells-then g.W.Watch.told _ _ _ _ _ _ c.loop.invariant.tells c.try_round.ensures.tells
