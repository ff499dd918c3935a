-- A hart that the board hasn't makes no step.
use Rattle.std.proofs.Common.{◌≤◌, length, ap, sym, arith}
use Rattle.sse_base.specs.Machine.{Machine}
use Rattle.board_plan.specs.declared.plan.Plan.{Plan}
use Rattle.board_core.specs.Played.{Played, after_hart_step, note_of, state_of}
use Rattle.board_lock.proofs.Turning.{no_hart}
use Rattle.board_lock.proofs.worker.hart_turn.Goals as goal

pub returns-then-hart-plan-clause-board : goal.returns-then-hart-plan-clause-board
returns-then-hart-plan-clause-board g c =
    let b = g.B.Lent.played c.args.board.now in
    let past : length (state_of b).machine.stacks ≤ c.args.hart =
    omega (
      arith,
      c.if-hart-plan.true,
      c.firmware.ensures.harts,
      c.harts-harts.ensures.harts,
      c.harts-harts.ensures.stacks,
      ap (λ (p : Plan). p.harts) c.plan.ensures,
      ap (λ (p : Played). p.plan.harts) c.brief-brief.ensures,
      ap (λ (p : Played). length (state_of p).machine.stacks) c.brief-brief.ensures,
      ap (λ (m : Machine). length m.stacks) c.firmware.ensures.machine,
    ) in
    sym (ap (after_hart_step c.args.hart b) (no_hart b c.args.hart past))

pub returns-then-hart-plan-clause-note : goal.returns-then-hart-plan-clause-note
returns-then-hart-plan-clause-note g c =
    let b = g.B.Lent.played c.args.board.now in
    let past : length (state_of b).machine.stacks ≤ c.args.hart =
    omega (
      arith,
      c.if-hart-plan.true,
      c.firmware.ensures.harts,
      c.harts-harts.ensures.harts,
      c.harts-harts.ensures.stacks,
      ap (λ (p : Plan). p.harts) c.plan.ensures,
      ap (λ (p : Played). p.plan.harts) c.brief-brief.ensures,
      ap (λ (p : Played). length (state_of p).machine.stacks) c.brief-brief.ensures,
      ap (λ (m : Machine). length m.stacks) c.firmware.ensures.machine,
    ) in
    sym (ap note_of (no_hart b c.args.hart past))
