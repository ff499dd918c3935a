-- Goals of `write_events` that the tactics leave open.
use Rattle.std.proofs.Common.{◌∙◌}
use Rattle.board_plan.specs.Canonical.{event_line}
use Rattle.script_write.proofs.Progress.{progress-more, progress-fault, progress-end, progress-same}
use Rattle.script_write.proofs.Wholes.{next_line, no_line}
use Rattle.script_write.proofs.writing.write_events.Goals as goal

pub returns-in-Err-clause-bytes : goal.returns-in-Err-clause-bytes
returns-in-Err-clause-bytes g c =
    progress-fault _ _ _ _ _ _ c.in-Err.fault
    (progress-same _ _ _ _ _
    (next_line event_line c.args.events.now c.loop-event.event-index _ c.loop-event-test.true)
    c.loop-event.invariant.progress)
    c.in-Err.ensures.bytes

pub loop-event-preserved : goal.loop-event-preserved
loop-event-preserved g c =
    record {
      empty = c.in_default.ensures.empty;
      progress = progress-more _ _ _ _ _ _ c.in_default.field-0
          (progress-same _ _ _ _ _
          (next_line event_line c.args.events.now c.loop-event.event-index _ c.loop-event-test.true)
          c.loop-event.invariant.progress)
          c.in_default.ensures.bytes;
      faults = c.in_default.ensures.cause.kept ∙ c.loop-event.invariant.faults;
      same_sink = c.in_default.ensures.same_sink ∙ c.loop-event.invariant.same_sink;
    }

pub returns-clause-bytes : goal.returns-clause-bytes
returns-clause-bytes g c =
    progress-end _ _ _ _
    (progress-same _ _ _ _ _
    (no_line event_line c.args.events.now c.loop-event.event-index c.loop-event-test.false)
    c.loop-event.invariant.progress)
