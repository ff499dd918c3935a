-- What is promised of one run, all of it by name. This project's own, over the board book.
use Rattle.std.specs.Prelude.{ℕ, List}
use Rattle.ras_device.specs.declared.act.Act.{Act}
use Rattle.board_plan.specs.declared.notes.Step.{Step}
use Rattle.board_plan.specs.declared.plan.Plan.{Plan}
use Rattle.board_plan.specs.Sound.{IsSound}
use Rattle.board_plan.specs.Amend.{IsAmended}
use Rattle.board_plan.specs.Blocks.{AreBlocksKept, AreClaimsBounded}

pub record IsRunSafe (plan : Plan) (acts : ℕ → List Act) (tries : List Step) : Type 0 where
  -- at each of its states the nine facts hold
  pub sound : IsSound plan acts tries
  -- what a handler interrupted is amended by the hart's own notes alone, and its completion gives that back
  pub amended : IsAmended plan acts
  -- copies stand in their block until it is acknowledged, and each drained error was published by one Check
  pub blocks : AreBlocksKept plan acts
  -- a record is claimed at most twelve times before a Check publishes it, and each torn Check is of a greater error
  pub claims : AreClaimsBounded plan acts
