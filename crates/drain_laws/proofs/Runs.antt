-- What every step keeps holds at each state of each run.
use Rattle.std.proofs.Common.{◌≡◌, ℕ, List, [], ◌∷◌, Option, Some, None, refl}
use Rattle.ras_device.specs.declared.act.Act.{Act}
use Rattle.board_plan.specs.declared.notes.Step.{Step}
use Rattle.board_plan.specs.declared.plan.Plan.{Plan}
use Rattle.board_plan.specs.State.{BoardState, start_state}
use Rattle.board_plan.specs.Step.{Stepped, step}
use Rattle.board_plan.specs.Run.{state_after, run, ran}

-- each step keeps it
abbrev pub EachKeeps : Plan → (ℕ → List Act) → (BoardState → Type 0) → Type 0
EachKeeps plan acts Holds =
    (t : Step) (s : BoardState) (d : Stepped) → step plan acts t s ≡ Some d → Holds s → Holds d.state

kept_once : (plan : Plan) (acts : ℕ → List Act) (Holds : BoardState → Type 0) → EachKeeps plan acts Holds
    → (t : Step) (s : BoardState) (o : Option Stepped) → step plan acts t s ≡ o → Holds s → Holds (state_after s o)
kept_once plan acts Holds each t s None is so = so
kept_once plan acts Holds each t s (Some d) is so = each t s d is so

pub kept : (plan : Plan) (acts : ℕ → List Act) (Holds : BoardState → Type 0) → EachKeeps plan acts Holds
    → (s : BoardState) (tries : List Step) → Holds s → Holds (run plan acts s tries)
kept plan acts Holds each s [] so = so
kept plan acts Holds each s (t ∷ ts) so =
    kept plan acts Holds each (state_after s (step plan acts t s)) ts
    (kept_once plan acts Holds each t s (step plan acts t s) refl so)

-- from the start of a plan
pub kept_from_start : (plan : Plan) (acts : ℕ → List Act) (Holds : BoardState → Type 0) → EachKeeps plan acts Holds
    → Holds (start_state plan) → (tries : List Step) → Holds (ran plan acts tries).state
unfolding ran
kept_from_start plan acts Holds each so tries = kept plan acts Holds each (start_state plan) tries so
