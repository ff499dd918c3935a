-- What a tracer makes of each step that it is told of. This project's own, over the texts of the board book; public
-- clauses cite it.
use Rattle.std.specs.Prelude.{◌≡◌, ℕ, List, [], ◌∷◌, Option, Result}
use Rattle.ras_io.specs.Causes.{one_more}
use Rattle.ras_io.specs.declared.faults.SinkFault.{SinkFault}
use Rattle.board_plan.specs.Run.{Noted}
use Rattle.board_plan.specs.Text.{trace_line}
use Rattle.board_report.specs.declared.tracer.Tracer.{Tracer}
use Rattle.board_report.specs.Writing.{Grows, State}
use Rattle.ras_text.specs.Lines as line

module _ {K : Type 0} where
  -- the sink that a tracer writes to, the number of the next step, and what came of its writes
  abbrev pub sink_of : Tracer K → K
  sink_of tracer = line.sink_of tracer.line

  abbrev pub number_of : Tracer K → ℕ
  number_of tracer = tracer.number

  abbrev pub outcome_of : Tracer K → Result (Unit {0}) SinkFault
  outcome_of tracer = tracer.outcome

  -- both write to the same sink
  abbrev pub SameTrace : Tracer K → Tracer K → Type 0
  SameTrace new old = line.SameSink new.line old.line

  -- how far a tracer is, by what a sink of its kind tells
  abbrev pub traced : (K → Option (List ℕ)) → (K → ℕ) → (K → ℕ) → Tracer K → State
  traced written faults writes tracer =
      record {
        written = written (sink_of tracer);
        faults = faults (sink_of tracer);
        writes = writes (sink_of tracer);
        outcome = outcome_of tracer;
      }

-- the tracer was told of a step: the line of the step went out, or nothing more after a failure, and the next step has
-- the next number
pub record Traces {K : Type 0} (written : K → Option (List ℕ)) (faults writes : K → ℕ) (old : Tracer K) (step : Noted)
    (new : Tracer K) : Type 0 where
  pub wrote : Grows (traced written faults writes old) (traced written faults writes new)
      (trace_line (number_of old) step ∷ [])
  pub next : number_of new ≡ one_more (number_of old)
  pub same_trace : SameTrace new old
