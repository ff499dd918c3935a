-- What the parts of the top call say (describes code). No public clause cites this.
use Rattle.std.specs.Prelude.{◌≡◌, ℕ, Bool, true, false, List, ◌++◌, Option, Result, Ok, Err}
use Rattle.std.specs.Io.KnownBytes.{Appends}
use Rattle.ras_io.specs.Causes.{AppendsFront}
use Rattle.ras_io.specs.declared.faults.SinkFault.{SinkFault}
use Rattle.ras_text.specs.declared.line.Line.{Line}
use Rattle.ras_text.specs.Lines.{sink_of}
use Rattle.ras_device.specs.declared.act.Act.{Act}
use Rattle.board_plan.specs.declared.plan.Plan.{Plan}
use Rattle.board_plan.specs.Run.{Ran}
use Rattle.board_plan.specs.Script.{Reads}
use Rattle.board_plan.specs.Text.{bytes_of}
use Rattle.board_report.specs.Reports.{report_bytes, trace_bytes}
use Rattle.board_report.specs.Writing.{State}
use Rattle.board_run.specs.declared.command.Shown.{Shown}
use Rattle.board_run.specs.declared.command.Shown.TheVariants.{Full, Traced, Short, Pages}
use Rattle.board_run.specs.declared.command.Command.{Command}
use Rattle.board_run.specs.declared.status.Status.{Status}
use Rattle.board_run.specs.declared.status.Status.TheVariants as answers
use Rattle.board_run.specs.Retired.{page_lines}
use Rattle.board_run.specs.Play.{WritesOutput, WritesFront}

-- whether a trace is shown
abbrev pub is_traced : Shown → Bool
is_traced Traced = true
is_traced what = false

-- what is shown of a run on the board of a plan
abbrev pub shown_bytes : Shown → Plan → Ran → List ℕ
shown_bytes Full plan r = report_bytes false plan r
shown_bytes Traced plan r = trace_bytes r ++ report_bytes false plan r
shown_bytes Short plan r = report_bytes true plan r
shown_bytes (Pages threshold) plan r = bytes_of (page_lines threshold r.published)

-- the answer after some bytes were written, or a front of them
abbrev pub status_of : Result (Unit {0}) SinkFault → Status
status_of (Ok u) = answers.Ok
status_of (Err fault) = answers.WriteFault

-- an answer after these bytes were to be written: all of them were, a front of them, or nothing
abbrev pub Writes : List ℕ → Option (List ℕ) → Option (List ℕ) → Status → Type 0
Writes bytes old new answers.Ok = Appends old new bytes
Writes bytes old new answers.WriteFault = AppendsFront old new bytes
Writes bytes old new answers.NoMemory = new ≡ old
Writes bytes old new status = ⊥

-- an answer after a text was read as this plan: all of the command's output was written, a front of it, or nothing
abbrev pub Wrote : Command → List (List Act) → Plan → Option (List ℕ) → Option (List ℕ) → Status → Type 0
Wrote command devices plan old new answers.Ok = (text : List ℕ) → Reads text plan
    → WritesOutput command devices text old new
Wrote command devices plan old new answers.WriteFault = (text : List ℕ) → Reads text plan
    → WritesFront command devices text old new
Wrote command devices plan old new answers.NoMemory = new ≡ old
Wrote command devices plan old new status = ⊥

-- the answers that come before a script is read
abbrev pub is_unread : Status → Bool
is_unread answers.Usage = true
is_unread answers.ReadFault = true
is_unread answers.TooLong = true
is_unread status = false

module _ {K : Type 0} where
  -- how far a line is whose last write had this outcome, by what a sink of its kind tells
  abbrev pub state_of : (K → Option (List ℕ)) → (K → ℕ) → (K → ℕ) → Line K → Result (Unit {0}) SinkFault → State
  state_of written faults writes line outcome =
      record {
        written = written (sink_of line);
        faults = faults (sink_of line);
        writes = writes (sink_of line);
        outcome = outcome;
      }
