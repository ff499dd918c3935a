-- Goals of `write_reporters` that the tactics leave open.
use Rattle.std.proofs.Common.{◌∙◌}
use Rattle.script_write.proofs.Progress.{progress-more, progress-fault, progress-end, progress-same}
use Rattle.script_write.proofs.Wholes.{next_reporter, no_reporter}
use Rattle.script_write.proofs.writing.write_reporters.Goals as goal

pub returns-in-Err-clause-bytes : goal.returns-in-Err-clause-bytes
returns-in-Err-clause-bytes g c =
    progress-fault _ _ _ _ _ _ c.in-Err.fault
    (progress-same _ _ _ _ _
    (next_reporter c.loop-n.n c.args.reporters.now c.loop-n.n _ c.loop-n-test.true c.index-reporters-n.is)
    c.loop-n.invariant.progress)
    c.in-Err.ensures.bytes

pub loop-n-preserved : goal.loop-n-preserved
loop-n-preserved g c =
    record {
      empty = c.in_default.ensures.empty;
      progress = progress-more _ _ _ _ _ _ c.in_default.field-0
          (progress-same _ _ _ _ _
          (next_reporter c.loop-n.n c.args.reporters.now c.loop-n.n _ c.loop-n-test.true c.index-reporters-n.is)
          c.loop-n.invariant.progress)
          c.in_default.ensures.bytes;
      faults = c.in_default.ensures.cause.kept ∙ c.loop-n.invariant.faults;
      same_sink = c.in_default.ensures.same_sink ∙ c.loop-n.invariant.same_sink;
    }

pub returns-clause-bytes : goal.returns-clause-bytes
returns-clause-bytes g c =
    progress-end _ _ _ _
    (progress-same _ _ _ _ _
    (no_reporter c.loop-n.n c.args.reporters.now c.loop-n.n c.loop-n-test.false) c.loop-n.invariant.progress)
