-- When a board was played by its plan. This project's own, over the runs of the board book.
use Rattle.std.specs.Prelude.{◌≡◌, List}
use Rattle.ras_device.specs.declared.act.Act.{Act}
use Rattle.board_plan.specs.declared.notes.Step.{Step}
use Rattle.board_plan.specs.declared.plan.Plan.{Plan}
use Rattle.board_plan.specs.Run.{AreTries, lists, ran}
use Rattle.board_core.specs.Played.{Played, own_run}

-- it is a board of the plan, and its own run is that of the plan's tries, with the acts that the plan lists and those
-- of the devices: the list at a place is that of the device of this number
pub record IsRunOf (plan : Plan) (devices : List (List Act)) (b : Played) : Type 0 where
  pub tries : List Step
  pub same_plan : b.plan ≡ plan
  pub are_tries : AreTries plan (lists plan devices) tries
  pub same_run : own_run b ≡ ran plan (lists plan devices) tries
