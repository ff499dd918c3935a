-- When an event is pending, told from the notes of all steps alone. SBI 3.0, "Supervisor Software Events": an event
-- that is signalled is pending until it is delivered. Which notes signal it is this project's own. Nothing here reads a
-- mark.
use Rattle.std.specs.Prelude.{◌≡◌, ℕ, ◌&&◌, ◌||◌, Bool, true, false, if◌then◌else◌, List, [], ◌∷◌, slice_get, slice_index, Option, Some, None}
use Rattle.sse_base.specs.declared.functions.Function.{Function}
use Rattle.sse_base.specs.declared.functions.Function.TheVariants as functions
use Rattle.sse_base.specs.declared.ids.Instance.{Instance}
use Rattle.sse_base.specs.Codes.{is_success}
use Rattle.sse_base.specs.Events.{IsOnBoard, is_pending}
use Rattle.sse_base.specs.Functions.{function_of}
use Rattle.sse_base.specs.Ids.{instance_of, same_instance}
use Rattle.board_plan.specs.declared.notes.Step.{Step}
use Rattle.board_plan.specs.declared.notes.Step.TheVariants.{Hart}
use Rattle.board_plan.specs.declared.notes.StepNote.{StepNote}
use Rattle.board_plan.specs.declared.notes.StepNote.TheVariants as note
use Rattle.board_plan.specs.declared.plan.BankDecl.{BankDecl}
use Rattle.board_plan.specs.declared.plan.Plan.{Plan}
use Rattle.board_plan.specs.Run.{Noted, Ran}

-- ---- What a note tells ----

abbrev pub is_inject : Option Function → Bool
is_inject (Some functions.Inject) = true
is_inject f = false

-- what a drain's signal is of: on the home of its bank where it is local
abbrev pub at_home : Option BankDecl → Option ℕ → Option Instance
at_home (Some d) (Some id) = Some (instance_of id d.home)
at_home d id = None

-- the instance that a step signals: a drain's, one that is injected, or one that is raised
abbrev pub signalled_by : Plan → StepNote → Option Instance
signalled_by plan (note.Signal bank level id) = at_home (slice_get plan.banks bank) id
signalled_by plan (note.Call eid fid args code written) =
    if is_success code && is_inject (function_of fid) then Some (instance_of (slice_index args 0) (slice_index args 1))
    else None
signalled_by plan (note.Raise id h true) = Some (instance_of id h)
signalled_by plan n = None

-- the instance that a step delivers
abbrev pub delivered_by : Step → StepNote → Option Instance
delivered_by (Hart h) (note.Deliver id) = Some (instance_of id h)
delivered_by by n = None

-- ---- What notes tell of an instance ----

abbrev pub is_of : Instance → Option Instance → Bool
is_of at None = false
is_of at (Some x) = same_instance x at

-- whether it is pending after a step, where it was pending before or not
abbrev pub pending_with : Plan → Instance → Noted → Bool → Bool
pending_with plan at n was =
    if is_of at (delivered_by n.by n.note) then false else (is_of at (signalled_by plan n.note) || was)

-- and after some steps, the first of them first
abbrev pub pending_after : Plan → Instance → Bool → List Noted → Bool
pending_after plan at was [] = was
pending_after plan at was (n ∷ ns) = pending_after plan at (pending_with plan at n was) ns

-- each event of the board is pending exactly where a step since its last delivery signalled it
abbrev pub EachMarkIsTold : Plan → Ran → Type 0
EachMarkIsTold plan r =
    (at : Instance) → IsOnBoard at r.state.machine.events
    → is_pending at r.state.machine.events ≡ pending_after plan at false r.notes
