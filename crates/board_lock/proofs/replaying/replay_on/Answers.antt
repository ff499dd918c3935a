-- The steps, then the rounds.
use Rattle.std.proofs.Common.{◌≡◌, length, ap, arith}
use Rattle.sse_base.specs.Machine.{Machine}
use Rattle.board_core.specs.Played.{Played, state_of}
use Rattle.board_lock.proofs.Rounding.{replays}
use Rattle.board_lock.proofs.replaying.replay_on.Goals as goal

pub returns-clause-tries : goal.returns-clause-tries
returns-clause-tries g c acts agrees =
    let d = g.B.Lent.played c.try_rounds.new.board in
    let harts : length (state_of d).machine.stacks ≡ d.plan.harts =
    omega (
      arith,
      c.firmware.ensures.harts,
      ap (λ (p : Played). p.plan.harts) c.brief.ensures,
      ap (λ (p : Played). length (state_of p).machine.stacks) c.brief.ensures,
      c.harts-harts.ensures.harts,
      c.harts-harts.ensures.stacks,
      ap (λ (m : Machine). length m.stacks) c.firmware.ensures.machine,
    ) in
    replays acts _ _ d _ _ _ _ c.try_steps.ensures c.try_rounds.ensures harts agrees

pub returns-clause-agrees : goal.returns-clause-agrees
returns-clause-agrees g c acts agrees = c.try_rounds.ensures.agrees acts (c.try_steps.ensures.agrees acts agrees)
