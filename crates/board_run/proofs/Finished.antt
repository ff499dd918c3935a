-- What was written of a whole run is the report of a run of its plan's text.
use Rattle.std.proofs.Common.{◌≡◌, ℕ, false, List, Ok, Err, Option, refl, ap, ◌∙◌}
use Rattle.ras_io.specs.Causes.{Puts}
use Rattle.ras_io.specs.declared.faults.SinkFault.{SinkFault}
use Rattle.ras_device.specs.declared.act.Act.{Act}
use Rattle.board_plan.specs.declared.notes.Step.{Step}
use Rattle.board_plan.specs.declared.plan.Plan.{Plan}
use Rattle.board_plan.specs.Script.{Reads}
use Rattle.board_plan.specs.Run.{lists, ran}
use Rattle.board_plan.specs.Text.{full}
use Rattle.board_core.specs.Played.{Played, own_run}
use Rattle.board_lock.specs.Hiring.{IsWholeRun}
use Rattle.board_report.specs.Reports.{full_bytes, report_bytes}
use Rattle.board_run.specs.Run.{IsRunReport, WritesRun, WritesRunFront}

full_is : (plan : Plan) (acts : ℕ → List Act) (steps : List Step)
    → full_bytes plan (ran plan acts steps) ≡ full plan acts steps
unfolding full full_bytes
full_is plan acts steps = refl

run_report : (devices : List (List Act)) (plan : Plan) (b : Played) (text : List ℕ) → IsWholeRun plan devices b
    → Reads text plan → IsRunReport devices text (full_bytes b.plan (own_run b))
run_report devices plan b text run reads =
    record {
      plan = plan;
      steps = b.steps;
      reads = reads;
      whole = run.whole;
      report = ap (λ (p : Plan). full_bytes p (own_run b)) run.same_plan ∙ ap (full_bytes plan) run.same_run
          ∙ full_is plan (lists plan devices) b.steps;
      safe = run.safe;
    }

pub run_whole : (devices : List (List Act)) (plan : Plan) (b : Played) (old new : Option (List ℕ)) (u : Unit {0})
    → IsWholeRun plan devices b → Puts {E = SinkFault} old new (Ok u) (report_bytes false b.plan (own_run b))
    → (text : List ℕ) → Reads text plan → WritesRun devices text old new
run_whole devices plan b old new u run p text reads =
    record {
      bytes = full_bytes b.plan (own_run b);
      is_report = run_report devices plan b text run reads;
      appended = p.all;
    }

pub run_front : (devices : List (List Act)) (plan : Plan) (b : Played) (old new : Option (List ℕ)) (fault : SinkFault)
    → IsWholeRun plan devices b → Puts {T = Unit {0}} old new (Err fault) (report_bytes false b.plan (own_run b))
    → (text : List ℕ) → Reads text plan → WritesRunFront devices text old new
run_front devices plan b old new fault run p text reads =
    record {
      bytes = full_bytes b.plan (own_run b);
      is_report = run_report devices plan b text run reads;
      appended = p.front;
    }
