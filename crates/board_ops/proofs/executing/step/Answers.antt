-- An op is executed where the hart's mode allows it.
use Rattle.std.proofs.Common.{sym, ◌∙◌, arith}
use Rattle.board_ops.proofs.Passing.{allowed, illegal}
use Rattle.board_ops.proofs.executing.step.Goals as goal

pub returns-then-illegal : goal.returns-then-illegal
returns-then-illegal c =
    illegal c.args.hart c.args.firmware.now c.pass.new.firmware c.args.op.now
    (sym c.is_illegal-illegal.ensures ∙ c.if-illegal.true)
    c.pass.ensures

pub returns : goal.returns
returns c =
    allowed c.args.hart c.args.firmware.now c.pass.new.firmware c.execute.new.firmware c.execute.new.note c.args.op.now
    (omega (arith, c.harts-harts.ensures.stacks, c.harts-harts.ensures.harts, c.requires))
    (sym c.is_illegal-illegal.ensures ∙ c.if-illegal.false) c.pass.ensures c.execute.ensures
