-- What holds of every run of every plan that a board can be made of, whatever acts its reporters have and whatever is
-- tried. This project's own.
use Rattle.std.specs.Prelude.{ℕ, List}
use Rattle.ras_device.specs.declared.act.Act.{Act}
use Rattle.board_plan.specs.declared.notes.Step.{Step}
use Rattle.board_plan.specs.declared.plan.Plan.{Plan}
use Rattle.board_plan.specs.Plans.{IsPlan, AreReports}
use Rattle.board_plan.specs.Sound.{IsSound}
use Rattle.board_plan.specs.Amend.{IsAmended}
use Rattle.board_plan.specs.Blocks.{AreBlocksKept, AreClaimsBounded}

pub record AreRunsSafe (plan : Plan) (acts : ℕ → List Act) : Type 0 where
  pub sound : (tries : List Step) → IsSound plan acts tries
  pub amended : IsAmended plan acts
  pub blocks : AreBlocksKept plan acts
  pub claims : AreReports acts → AreClaimsBounded plan acts

abbrev pub EachRunIsSafe : Type 0
EachRunIsSafe = (plan : Plan) (acts : ℕ → List Act) → IsPlan plan → AreRunsSafe plan acts
