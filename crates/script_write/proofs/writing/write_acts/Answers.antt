-- Goals of `write_acts` that the tactics leave open.
use Rattle.std.proofs.Common.{◌∙◌}
use Rattle.board_plan.specs.Canonical.{act_line}
use Rattle.script_write.proofs.Progress.{progress-more, progress-fault, progress-end, progress-same}
use Rattle.script_write.proofs.Wholes.{next_line, no_line}
use Rattle.script_write.proofs.writing.write_acts.Goals as goal

pub returns-in-Err-clause-bytes : goal.returns-in-Err-clause-bytes
returns-in-Err-clause-bytes g c =
    progress-fault _ _ _ _ _ _ c.in-Err.fault
    (progress-same _ _ _ _ _
    (next_line (act_line c.args.reporter) c.args.acts.now c.loop-act.act-index _ c.loop-act-test.true)
    c.loop-act.invariant.progress)
    c.in-Err.ensures.bytes

pub loop-act-preserved : goal.loop-act-preserved
loop-act-preserved g c =
    record {
      empty = c.in_default.ensures.empty;
      progress = progress-more _ _ _ _ _ _ c.in_default.field-0
          (progress-same _ _ _ _ _
          (next_line (act_line c.args.reporter) c.args.acts.now c.loop-act.act-index _ c.loop-act-test.true)
          c.loop-act.invariant.progress)
          c.in_default.ensures.bytes;
      faults = c.in_default.ensures.cause.kept ∙ c.loop-act.invariant.faults;
      same_sink = c.in_default.ensures.same_sink ∙ c.loop-act.invariant.same_sink;
    }

pub returns-clause-bytes : goal.returns-clause-bytes
returns-clause-bytes g c =
    progress-end _ _ _ _
    (progress-same _ _ _ _ _
    (no_line (act_line c.args.reporter) c.args.acts.now c.loop-act.act-index c.loop-act-test.false)
    c.loop-act.invariant.progress)
