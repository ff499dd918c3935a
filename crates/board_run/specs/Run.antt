-- What the top call `run` promises, one definition a promise. This project's own, over the board book.
use Rattle.std.specs.Prelude.{◌≡◌, ℕ, Bool, true, false, List, [], ◌∷◌, Option, codes, bytes_eq}
use Rattle.std.specs.Borrow.{Bor}
use Rattle.std.specs.Io.KnownBytes.{Appends}
use Rattle.ras_io.specs.Causes.{AppendsFront}
use Rattle.ras_device.specs.declared.act.Act.{Act}
use Rattle.board_plan.specs.declared.notes.Step.{Step}
use Rattle.board_plan.specs.declared.plan.Plan.{Plan}
use Rattle.board_plan.specs.Script.{Reads}
use Rattle.board_plan.specs.Run.{IsWhole, lists}
use Rattle.board_plan.specs.Text.{full}
use Rattle.board_laws.specs.Safe.{IsRunSafe}
use Rattle.board_run.specs.declared.status.Status.{Status}
use Rattle.board_run.specs.declared.status.Status.TheVariants as answers

-- its one command
abbrev pub is_run : List (Bor (List ℕ)) → Bool
is_run (name ∷ []) = bytes_eq name.now (codes "run")
is_run words = false

-- The bytes show a run of a text: it reads as a plan, these steps are such that each of them was made and nobody has a
-- step after them, where the reporter of a device has all that the device gives, and the bytes are the full report of
-- that run. And the run is safe.
pub record IsRunReport (devices : List (List Act)) (text bytes : List ℕ) : Type 0 where
  pub plan : Plan
  pub steps : List Step
  pub reads : Reads text plan
  pub whole : IsWhole plan (lists plan devices) steps
  pub report : bytes ≡ full plan (lists plan devices) steps
  pub safe : IsRunSafe plan (lists plan devices) steps

-- they were appended to the sink
pub record WritesRun (devices : List (List Act)) (text : List ℕ) (old new : Option (List ℕ)) : Type 0 where
  pub bytes : List ℕ
  pub is_report : IsRunReport devices text bytes
  pub appended : Appends old new bytes

-- a front of them was
pub record WritesRunFront (devices : List (List Act)) (text : List ℕ) (old new : Option (List ℕ)) : Type 0 where
  pub bytes : List ℕ
  pub is_report : IsRunReport devices text bytes
  pub appended : AppendsFront old new bytes

-- an answer after a text was read as this plan: the whole report of a run was written, a front of it, or nothing
-- (describes code)
abbrev pub WroteRun : List (List Act) → Plan → Option (List ℕ) → Option (List ℕ) → Status → Type 0
WroteRun devices plan old new answers.Ok = (text : List ℕ) → Reads text plan → WritesRun devices text old new
WroteRun devices plan old new answers.WriteFault =
    (text : List ℕ) → Reads text plan → WritesRunFront devices text old new
WroteRun devices plan old new answers.NoMemory = new ≡ old
WroteRun devices plan old new status = ⊥
