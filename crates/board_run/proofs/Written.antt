-- What was written of a played board is what is shown of the play of its plan's text.
use Rattle.std.proofs.Common.{◌≡◌, ℕ, List, Option, refl, ap, ◌∙◌}
use Rattle.ras_device.specs.declared.act.Act.{Act}
use Rattle.board_plan.specs.declared.notes.Step.{Step}
use Rattle.board_plan.specs.declared.plan.Plan.{Plan}
use Rattle.board_plan.specs.Plans.{IsPlan, AreReports}
use Rattle.board_plan.specs.Script.{Reads}
use Rattle.board_plan.specs.Run.{lists, ran}
use Rattle.board_plan.specs.Text.{full, short, trace}
use Rattle.board_laws.proofs.Safe.{run_is_safe}
use Rattle.board_core.specs.Played.{Played, own_run}
use Rattle.board_play.specs.Played.{IsRunOf}
use Rattle.board_report.specs.Reports.{full_bytes, short_bytes, trace_bytes}
use Rattle.board_run.specs.declared.command.Shown.{Shown}
use Rattle.board_run.specs.declared.command.Shown.TheVariants.{Full, Traced, Short, Pages}
use Rattle.board_run.specs.declared.command.Command.TheVariants.{Play, Load}
use Rattle.board_run.specs.declared.status.Status.{Status}
use Rattle.board_run.specs.declared.status.Status.TheVariants as answers
use Rattle.board_run.specs.Retired.{retired}
use Rattle.board_run.specs.Play.{shown, IsReport}
use Rattle.board_run.specs.Parts.{shown_bytes, Writes, Wrote}

shown_is : (what : Shown) (plan : Plan) (acts : ℕ → List Act) (tries : List Step) →
    shown_bytes what plan (ran plan acts tries) ≡ shown what plan acts tries
unfolding full short trace retired full_bytes short_bytes trace_bytes
shown_is Full plan acts tries = refl
shown_is Traced plan acts tries = refl
shown_is Short plan acts tries = refl
shown_is (Pages threshold) plan acts tries = refl

report_is : (what : Shown) (plan : Plan) (devices : List (List Act)) (b : Played) (text : List ℕ) → IsPlan plan
    → AreReports (lists plan devices) → IsRunOf plan devices b → Reads text plan
    → IsReport what devices text (shown_bytes what b.plan (own_run b))
report_is what plan devices b text is reports r e =
    record {
      plan = plan;
      tries = r.tries;
      reads = e;
      are_tries = r.are_tries;
      report = ap (λ (p : Plan). shown_bytes what p (own_run b)) r.same_plan
          ∙ ap (shown_bytes what plan) r.same_run ∙ shown_is what plan (lists plan devices) r.tries;
      safe = run_is_safe plan (lists plan devices) r.tries is reports;
    }

-- what a played board shows was written for each text of its plan: all of it, a front of it, or nothing
pub play_wrote : (what : Shown) (plan : Plan) (devices : List (List Act)) (b : Played) (old new : Option (List ℕ))
    (status : Status) → IsPlan plan → AreReports (lists plan devices) → IsRunOf plan devices b
    → Writes (shown_bytes what b.plan (own_run b)) old new status → Wrote (Play what) devices plan old new status
play_wrote what plan devices b old new answers.Ok is reports r w =
    λ text e. record {
      bytes = shown_bytes what b.plan (own_run b);
      is_output = report_is what plan devices b text is reports r e;
      appended = w;
    }
play_wrote what plan devices b old new answers.WriteFault is reports r w =
    λ text e. record {
      bytes = shown_bytes what b.plan (own_run b);
      is_output = report_is what plan devices b text is reports r e;
      appended = w;
    }
play_wrote what plan devices b old new answers.NoMemory is reports r w = w
play_wrote what plan devices b old new answers.Usage is reports r w = w
play_wrote what plan devices b old new answers.ReadFault is reports r w = w
play_wrote what plan devices b old new answers.TooLong is reports r w = w
play_wrote what plan devices b old new (answers.BadScript line kind) is reports r w = w

-- a load's output is the short report of its script
pub load_wrote : (n : ℕ) (devices : List (List Act)) (plan : Plan) (old new : Option (List ℕ)) (status : Status)
    → Wrote (Play Short) devices plan old new status → Wrote (Load n) devices plan old new status
load_wrote n devices plan old new answers.Ok w =
    λ text e. let o = w text e in record { bytes = o.bytes; is_output = o.is_output; appended = o.appended }
load_wrote n devices plan old new answers.WriteFault w =
    λ text e. let o = w text e in record { bytes = o.bytes; is_output = o.is_output; appended = o.appended }
load_wrote n devices plan old new answers.NoMemory w = w
load_wrote n devices plan old new answers.Usage w = w
load_wrote n devices plan old new answers.ReadFault w = w
load_wrote n devices plan old new answers.TooLong w = w
load_wrote n devices plan old new (answers.BadScript line kind) w = w
