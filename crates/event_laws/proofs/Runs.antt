-- What holds of the start and is kept by each step holds in every run.
use Rattle.std.proofs.Common.{◌≡◌, ℕ, List, [], ◌∷◌, Option, Some, None, refl}
use Rattle.ras_device.specs.declared.act.Act.{Act}
use Rattle.board_plan.specs.declared.notes.Step.{Step}
use Rattle.board_plan.specs.declared.plan.Plan.{Plan}
use Rattle.board_plan.specs.State.{BoardState, start_state}
use Rattle.board_plan.specs.Step.{Stepped, step}
use Rattle.board_plan.specs.Run.{run, ran, state_after}

-- each step keeps it
pub record IsStepwise (plan : Plan) (acts : ℕ → List Act) (P : BoardState → Type 0) : Type 0 where
  pub keeps : (t : Step) (s : BoardState) (d : Stepped) → step plan acts t s ≡ Some d → P s → P d.state

after_try : (plan : Plan) (acts : ℕ → List Act) (P : BoardState → Type 0) → IsStepwise plan acts P
    → (t : Step) (s : BoardState) → P s → (o : Option Stepped) → step plan acts t s ≡ o → P (state_after s o)
after_try plan acts P kept t s p None is = p
after_try plan acts P kept t s p (Some d) is = kept.keeps t s d is p

-- from any state on
pub run_keeps : (plan : Plan) (acts : ℕ → List Act) (P : BoardState → Type 0) → IsStepwise plan acts P
    → (tries : List Step) (s : BoardState) → P s → P (run plan acts s tries)
run_keeps plan acts P kept [] s p = p
run_keeps plan acts P kept (t ∷ ts) s p =
    run_keeps plan acts P kept ts (state_after s (step plan acts t s))
    (after_try plan acts P kept t s p (step plan acts t s) refl)

-- from the start
pub each_state : (plan : Plan) (acts : ℕ → List Act) (P : BoardState → Type 0) → P (start_state plan)
    → IsStepwise plan acts P → (tries : List Step) → P (ran plan acts tries).state
unfolding ran
each_state plan acts P begins kept tries = run_keeps plan acts P kept tries (start_state plan) begins
