-- Laws of states: what holds after any tries, of every plan that a board can be made of. This project's own.
use Rattle.std.specs.Prelude.{ℕ, List}
use Rattle.ras_device.specs.declared.act.Act.{Act}
use Rattle.board_plan.specs.declared.notes.Step.{Step}
use Rattle.board_plan.specs.declared.plan.Plan.{Plan}
use Rattle.board_plan.specs.Plans.{IsPlan}
use Rattle.board_plan.specs.State.{BoardState}
use Rattle.board_plan.specs.Run.{ran}

-- it holds at each state of each run, whatever acts the reporters have
abbrev pub AtEachState : (Plan → (ℕ → List Act) → BoardState → Type 0) → Type 0
AtEachState Holds =
    (plan : Plan) (acts : ℕ → List Act) (tries : List Step) → IsPlan plan → Holds plan acts (ran plan acts tries).state
