-- Goals of `write_op` that the tactics leave open.
use Rattle.script_write.proofs.Progress.{progress-start, progress-more, progress-fault, progress-last}
use Rattle.script_write.proofs.writing.write_op.Goals as goal

pub returns-in-Err-clause-bytes : goal.returns-in-Err-clause-bytes
returns-in-Err-clause-bytes g c = progress-fault _ _ _ _ _ _ c.in-Err.fault (progress-start _ _) c.in-Err.ensures.bytes

pub returns-clause-bytes : goal.returns-clause-bytes
returns-clause-bytes g c =
    progress-last _ _ _ _ _ _
    (progress-more _ _ _ _ _ _ c.in_default.field-0 (progress-start _ _) c.in_default.ensures.bytes)
    c.write_statement.ensures.bytes
