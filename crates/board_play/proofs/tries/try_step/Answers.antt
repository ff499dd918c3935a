-- A hart's try asks no device.
use Rattle.std.proofs.Common.{[], ◌∷◌, sym, subst}
use Rattle.board_plan.specs.declared.notes.Step.{Step}
use Rattle.board_play.specs.Tried.{Goes, lefts}
use Rattle.board_play.proofs.tries.try_step.Goals as goal

pub returns-in-Hart : goal.returns-in-Hart
returns-in-Hart g c =
    let left = lefts g.D.ErrorDevice.left c.args.devices.now in
    record {
      goes = subst (λ (t : Step). Goes c.args.board.now left (t ∷ []) c.try_hart.result c.try_hart.new.board left)
          (sym c.in-Hart.is) (c.try_hart.ensures.goes left);
      tells = c.try_hart.ensures.tells;
    }
