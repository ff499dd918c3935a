-- What the top call promises, one definition a promise. This project's own, over the board book.
use Rattle.std.specs.Prelude.{◌≡◌, ◌⊎◌, ℕ, nat_lt, Bool, true, false, if◌then◌else◌, List, ◌++◌, length, map, Option, Result, Ok, Err}
use Rattle.std.specs.Io.KnownBytes.{Appends}
use Rattle.ras_io.specs.Causes.{AppendsFront}
use Rattle.ras_device.specs.declared.act.Act.{Act}
use Rattle.ras_device.specs.Acts.{Remaining}
use Rattle.board_plan.specs.declared.notes.Step.{Step}
use Rattle.board_plan.specs.declared.plan.Plan.{Plan}
use Rattle.board_plan.specs.Script.{Refusal, script, Reads}
use Rattle.board_plan.specs.Canonical.{canonical, moved}
use Rattle.board_plan.specs.Run.{AreTries, lists}
use Rattle.board_plan.specs.Text.{full, short, trace}
use Rattle.move_laws.specs.Moves.{AreRunsKept, AreTracesKept, AreTriesKept, AreActsKept, AreReportsKept}
use Rattle.board_laws.specs.Safe.{IsRunSafe}
use Rattle.board_run.specs.declared.command.Shown.{Shown}
use Rattle.board_run.specs.declared.command.Shown.TheVariants.{Full, Traced, Short, Pages}
use Rattle.board_run.specs.declared.command.Command.{Command}
use Rattle.board_run.specs.declared.command.Command.TheVariants.{Play, Load, Move}
use Rattle.board_run.specs.declared.status.Status.{Status}
use Rattle.board_run.specs.declared.status.Status.TheVariants as answers
use Rattle.board_run.specs.Commands.{limit}
use Rattle.board_run.specs.Retired.{retired}

-- ---- Devices ----

-- the acts that each device has still to give
abbrev pub lists_of : {D : Type 0} → (D → Remaining) → List D → List (List Act)
lists_of left devices = map (λ d. (left d).acts) devices

-- ---- What a command writes ----

-- what is shown of a plan's run over these tries
abbrev pub shown : Shown → Plan → (ℕ → List Act) → List Step → List ℕ
shown Full plan acts tries = full plan acts tries
shown Traced plan acts tries = trace plan acts tries ++ full plan acts tries
shown Short plan acts tries = short plan acts tries
shown (Pages threshold) plan acts tries = retired threshold plan acts tries

-- The bytes show the play of a text: it reads as a plan, the plan makes these tries, where its reporters have the acts
-- that it lists and those of the devices that it names, and the bytes are what is shown of that run. And the run is
-- safe.
pub record IsReport (what : Shown) (devices : List (List Act)) (text bytes : List ℕ) : Type 0 where
  pub plan : Plan
  pub tries : List Step
  pub reads : Reads text plan
  pub are_tries : AreTries plan (lists plan devices) tries
  pub report : bytes ≡ shown what plan (lists plan devices) tries
  pub safe : IsRunSafe plan (lists plan devices) tries

-- The bytes are a text in version 2's form: it reads as a plan, the bytes are the canonical text of that plan once it
-- is moved, and they read as the moved plan. That one makes the same tries and runs, and its reporters have the same
-- acts; its traces are the same, and its reports are, but for the version.
pub record IsMove (text bytes : List ℕ) : Type 0 where
  pub plan : Plan
  pub reads : Reads text plan
  pub moves : bytes ≡ canonical (moved plan)
  pub reads_again : Reads bytes (moved plan)
  pub same_acts : AreActsKept plan
  pub same_tries : AreTriesKept plan
  pub same_runs : AreRunsKept plan
  pub same_traces : AreTracesKept plan
  pub same_reports : AreReportsKept plan

-- the bytes that a command writes for its script, where the devices have these acts
abbrev pub IsOutput : Command → List (List Act) → List ℕ → List ℕ → Type 0
IsOutput (Play what) devices text bytes = IsReport what devices text bytes
IsOutput (Load n) devices text bytes = IsReport Short devices text bytes
IsOutput Move devices text bytes = IsMove text bytes

-- they were appended to the sink
pub record WritesOutput (command : Command) (devices : List (List Act)) (text : List ℕ) (old new : Option (List ℕ))
    : Type 0 where
  pub bytes : List ℕ
  pub is_output : IsOutput command devices text bytes
  pub appended : Appends old new bytes

-- a front of them was
pub record WritesFront (command : Command) (devices : List (List Act)) (text : List ℕ) (old new : Option (List ℕ))
    : Type 0 where
  pub bytes : List ℕ
  pub is_output : IsOutput command devices text bytes
  pub appended : AppendsFront old new bytes

-- ---- Answers ----

-- what a text is answered where no memory is wanting and the sink takes all
abbrev pub answer_read : Result Plan Refusal → Status
answer_read (Ok plan) = answers.Ok
answer_read (Err refusal) = answers.BadScript refusal.line refusal.kind

abbrev pub answer_to : List ℕ → Status
answer_to text = if nat_lt limit (length text) then answers.TooLong else answer_read (script text)

-- it is that answer, or memory is wanting, or the sink failed under the output of a text that is read
abbrev pub Answers : List ℕ → Status → Type 0
Answers text status =
    (status ≡ answers.NoMemory) ⊎ (status ≡ answer_to text)
    ⊎ ((status ≡ answers.WriteFault) × (answer_to text ≡ answers.Ok))

-- every answer before which nothing is written
abbrev pub is_silent : Status → Bool
is_silent answers.Ok = false
is_silent answers.WriteFault = false
is_silent status = true

-- the answers that tell of a script that is read: a fault of its source, that it is too long, or that it is none
abbrev pub is_of_source : Status → Bool
is_of_source answers.ReadFault = true
is_of_source answers.TooLong = true
is_of_source (answers.BadScript line kind) = true
is_of_source status = false

-- the answers that come only of a text within the limit
abbrev pub is_of_text : Status → Bool
is_of_text answers.Ok = true
is_of_text (answers.BadScript line kind) = true
is_of_text answers.WriteFault = true
is_of_text status = false

-- the answers that tell of a fault, of the source and of the sink
abbrev pub is_read_fault : Status → Bool
is_read_fault answers.ReadFault = true
is_read_fault status = false

abbrev pub is_write_fault : Status → Bool
is_write_fault answers.WriteFault = true
is_write_fault status = false
