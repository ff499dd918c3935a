-- The workers of a plan, and what a whole run of it by them is. This project's own, over the runs of the board book.
use Rattle.std.specs.Prelude.{◌≡◌, ℕ, List, [], ◌++◌, length, map, slice_get, slice_index_or, slice_set, Option, Some, None}
use Rattle.std.specs.List.{range_with_len}
use Rattle.ras_device.specs.declared.act.Act.{Act}
use Rattle.ras_device.specs.Acts.{Remaining}
use Rattle.board_plan.specs.declared.plan.Reporter as plan_reporter
use Rattle.board_plan.specs.declared.plan.Plan.{Plan}
use Rattle.board_plan.specs.Run.{IsWhole, lists, ran}
use Rattle.board_laws.specs.Safe.{IsRunSafe}
use Rattle.board_core.specs.Played.{Played, own_run}
use Rattle.board_lock.specs.Hand.{Hand, fresh_hand, hart_hand}

-- what each of a list of devices still has to give
abbrev pub left_in : {D : Type 0} → (D → Remaining) → List D → List (List Act)
left_in left devices = map (λ d. (left d).acts) devices

-- what the device that is named has to give: nothing where none is named, or where it isn't there
abbrev pub device_acts : List (List Act) → Option ℕ → List Act
device_acts devices None = []
device_acts devices (Some k) = slice_index_or devices k []

-- and what is left when it was taken
abbrev pub without_device : List (List Act) → Option ℕ → List (List Act)
without_device devices None = devices
without_device devices (Some k) = slice_set devices k []

-- ---- A worker for each hart and reporter ----

abbrev pub hand_for : List (List Act) → ℕ → Option plan_reporter.Reporter → Hand
hand_for devices r None = fresh_hand r [] 0
hand_for devices r (Some d) = fresh_hand r (device_acts devices d.device) d.limit

abbrev pub reporter_hand : Plan → List (List Act) → ℕ → Hand
reporter_hand plan devices r = hand_for devices r (slice_get plan.reporters r)

-- harts in rising number, and then reporters, each with the acts of its device and the plan's limit
abbrev pub hired : Plan → List (List Act) → List Hand
hired plan devices =
    map hart_hand (range_with_len 0 plan.harts)
    ++ map (reporter_hand plan devices) (range_with_len 0 (length plan.reporters))

-- ---- A whole run ----

-- a board of the plan whose steps were all made, and after which nobody is left with one, where the reporter of a
-- device has all that the device gives; its own run is that of its steps with these acts, and that run is safe
pub record IsWholeRun (plan : Plan) (devices : List (List Act)) (b : Played) : Type 0 where
  pub same_plan : b.plan ≡ plan
  pub whole : IsWhole plan (lists plan devices) b.steps
  pub same_run : own_run b ≡ ran plan (lists plan devices) b.steps
  pub safe : IsRunSafe plan (lists plan devices) b.steps
