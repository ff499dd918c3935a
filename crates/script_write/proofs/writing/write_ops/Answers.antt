-- Goals of `write_ops` that the tactics leave open.
use Rattle.std.proofs.Common.{◌+◌, ◌∙◌}
use Rattle.script_write.proofs.Progress.{progress-more, progress-fault, progress-end, progress-same}
use Rattle.script_write.proofs.Wholes.{next_op_parts, no_op}
use Rattle.script_write.proofs.writing.write_ops.Goals as goal

pub returns-in-Err-clause-bytes : goal.returns-in-Err-clause-bytes
returns-in-Err-clause-bytes g c =
    let l = c.loop-placed in
    progress-fault _ _ _ _ _ _ c.in-Err.fault
    (progress-same _ _ _ _ _
    (next_op_parts (l.previous + 4) c.args.ops.now l.placed-index _ c.loop-placed-test.true) l.invariant.progress)
    c.in-Err.ensures.bytes

pub loop-placed-preserved : goal.loop-placed-preserved
loop-placed-preserved g c =
    let l = c.loop-placed in
    record {
      empty = c.in_default.ensures.empty;
      progress = progress-more _ _ _ _ _ _ c.in_default.field-0
          (progress-same _ _ _ _ _
          (next_op_parts (l.previous + 4) c.args.ops.now l.placed-index _ c.loop-placed-test.true)
          l.invariant.progress)
          c.in_default.ensures.bytes;
      faults = c.in_default.ensures.cause.kept ∙ l.invariant.faults;
      same_sink = c.in_default.ensures.same_sink ∙ l.invariant.same_sink;
    }

pub returns-clause-bytes : goal.returns-clause-bytes
returns-clause-bytes g c =
    let l = c.loop-placed in
    progress-end _ _ _ _
    (progress-same _ _ _ _ _
    (no_op (l.previous + 4) c.args.ops.now l.placed-index c.loop-placed-test.false) l.invariant.progress)
