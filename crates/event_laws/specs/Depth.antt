-- How many handlers a hart runs, and whose steps change what it runs. This project's own, over the event book (SBI 3.0,
-- "Supervisor Software Events").
use Rattle.std.specs.Prelude.{◌≡◌, ℕ, ◌≤◌, false, List, length, slice_get, Some}
use Rattle.sse_base.specs.Contexts.{Stack}
use Rattle.ras_device.specs.declared.act.Act.{Act}
use Rattle.board_plan.specs.declared.notes.Step.{Step}
use Rattle.board_plan.specs.declared.plan.Plan.{Plan}
use Rattle.board_plan.specs.State.{BoardState}
use Rattle.board_plan.specs.Step.{Stepped, step}
use Rattle.board_plan.specs.Amend.{is_by}

-- a hart runs no more handlers than the plan has events
abbrev pub EachNestIsFew : Plan → BoardState → Type 0
EachNestIsFew plan s =
    (h : ℕ) (x : Stack) → slice_get s.machine.stacks h ≡ Some x → length x.frames ≤ length plan.events

-- what a hart runs is changed by its own steps alone
abbrev pub EachStepLeavesOthers : Plan → (ℕ → List Act) → BoardState → Type 0
EachStepLeavesOthers plan acts s =
    (t : Step) (d : Stepped) (h : ℕ) → step plan acts t s ≡ Some d → is_by h t ≡ false
    → slice_get d.state.machine.stacks h ≡ slice_get s.machine.stacks h
