-- What was written of a moved plan is the move of its text.
use Rattle.std.proofs.Common.{◌≡◌, ℕ, List, Ok, Err, Result, Option, sym, ap, subst}
use Rattle.ras_io.specs.Causes.{Puts}
use Rattle.ras_io.specs.declared.faults.SinkFault.{SinkFault}
use Rattle.ras_device.specs.declared.act.Act.{Act}
use Rattle.board_plan.specs.declared.plan.Plan.{Plan}
use Rattle.board_plan.specs.Script.{Reads}
use Rattle.board_plan.specs.Canonical.{canonical, moved}
use Rattle.board_script.specs.Again.{IsReadWhenMoved}
use Rattle.move_laws.specs.Moves.{GathersByVersion}
use Rattle.move_laws.proofs.Reports.{runs_kept, traces_kept, tries_kept, acts_kept, reports_kept}
use Rattle.board_run.specs.declared.command.Command.TheVariants.{Move}
use Rattle.board_run.specs.declared.status.Status.{Status}
use Rattle.board_run.specs.Play.{IsMove}
use Rattle.board_run.specs.Parts.{Wrote, status_of}

move_is : (plan new : Plan) (text : List ℕ) → GathersByVersion plan → new ≡ moved plan → IsReadWhenMoved plan new →
    Reads text plan → IsMove text (canonical new)
move_is plan new text g is again e =
    record {
      plan = plan;
      reads = e;
      moves = ap canonical is;
      reads_again = subst (λ (p : Plan). Reads (canonical new) p) is (again text e);
      same_acts = acts_kept plan g;
      same_tries = tries_kept plan g;
      same_runs = runs_kept plan g;
      same_traces = traces_kept plan g;
      same_reports = reports_kept plan g;
    }

-- the canonical text of a moved plan was written for each text of the plan: all of it, or a front
pub move_wrote : (devices : List (List Act)) (plan new : Plan) (before after : Option (List ℕ))
    (r : Result (Unit {0}) SinkFault) (status : Status)
    → GathersByVersion plan → new ≡ moved plan → IsReadWhenMoved plan new → status ≡ status_of r
    → Puts before after r (canonical new) → Wrote Move devices plan before after status
move_wrote devices plan new before after (Ok u) status g is again ended p =
    subst (Wrote Move devices plan before after) (sym ended) (λ text e.
    record { bytes = canonical new; is_output = move_is plan new text g is again e; appended = p.all })
move_wrote devices plan new before after (Err fault) status g is again ended p =
    subst (Wrote Move devices plan before after) (sym ended) (λ text e.
    record { bytes = canonical new; is_output = move_is plan new text g is again e; appended = p.front })
