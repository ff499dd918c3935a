-- Goals of `write_steps` that the tactics leave open.
use Rattle.std.proofs.Common.{◌∙◌}
use Rattle.script_write.proofs.Progress.{progress-more, progress-fault, progress-last, progress-same}
use Rattle.script_write.proofs.Wholes.{next_steps, last_steps}
use Rattle.script_write.proofs.writing.write_steps.Goals as goal

pub returns-in-Err-clause-bytes : goal.returns-in-Err-clause-bytes
returns-in-Err-clause-bytes g c =
    progress-fault _ _ _ _ _ _ c.in-Err.fault
    (progress-same _ _ _ _ _
    (next_steps c.loop-rest.rest.now c.split_at.result.0.now c.split_at.result.1.now c.loop-rest-test.true
    c.split_at.ensures.front c.split_at.ensures.back) c.loop-rest.invariant.progress)
    c.in-Err.ensures.bytes

pub loop-rest-preserved : goal.loop-rest-preserved
loop-rest-preserved g c =
    record {
      empty = c.in_default.ensures.empty;
      progress = progress-more _ _ _ _ _ _ c.in_default.field-0
          (progress-same _ _ _ _ _
          (next_steps c.loop-rest.rest.now c.split_at.result.0.now c.split_at.result.1.now c.loop-rest-test.true
          c.split_at.ensures.front c.split_at.ensures.back) c.loop-rest.invariant.progress)
          c.in_default.ensures.bytes;
      faults = c.in_default.ensures.cause.kept ∙ c.loop-rest.invariant.faults;
      same_sink = c.in_default.ensures.same_sink ∙ c.loop-rest.invariant.same_sink;
    }

pub returns-clause-bytes : goal.returns-clause-bytes
returns-clause-bytes g c =
    progress-last _ _ _ _ _ _
    (progress-same _ _ _ _ _ (last_steps c.loop-rest.rest.now c.loop-rest-test.false) c.loop-rest.invariant.progress)
    c.write_statement-2.ensures.bytes
