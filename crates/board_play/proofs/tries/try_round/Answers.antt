-- Harts, then reporters.
use Rattle.std.proofs.Common.{Bool, ◌||◌, sym, ap, ◌∙◌}
use Rattle.board_play.proofs.Playing.{goes-round}
use Rattle.board_play.proofs.Telling.{tells-then}
use Rattle.board_play.specs.Tried.{lefts}
use Rattle.board_play.proofs.tries.try_round.Goals as goal

pub returns-then-harts-clause-goes : goal.returns-then-harts-clause-goes
returns-then-harts-clause-goes g c =
    goes-round _ _ _ _ _ _ c.try_harts-harts.result c.try_reporters-reporters.result c.try_harts-harts.result
    (c.try_harts-harts.ensures.goes (lefts g.D.ErrorDevice.left c.args.devices.now))
    c.try_reporters-reporters.ensures.goes
    (ap (λ (b : Bool). b || c.try_reporters-reporters.result) c.if-harts.true ∙ sym c.if-harts.true)

pub returns-else-harts-clause-goes : goal.returns-else-harts-clause-goes
returns-else-harts-clause-goes g c =
    goes-round _ _ _ _ _ _ c.try_harts-harts.result c.try_reporters-reporters.result c.try_reporters-reporters.result
    (c.try_harts-harts.ensures.goes (lefts g.D.ErrorDevice.left c.args.devices.now))
    c.try_reporters-reporters.ensures.goes
    (ap (λ (b : Bool). b || c.try_reporters-reporters.result) c.if-harts.false)

pub returns-then-harts-clause-tells : goal.returns-then-harts-clause-tells
returns-then-harts-clause-tells g c =
    tells-then g.W.Watch.told _ _ _ _ _ _ c.try_harts-harts.ensures.tells c.try_reporters-reporters.ensures.tells

pub returns-else-harts-clause-tells : goal.returns-else-harts-clause-tells
returns-else-harts-clause-tells g c =
    tells-then g.W.Watch.told _ _ _ _ _ _ c.try_harts-harts.ensures.tells c.try_reporters-reporters.ensures.tells
