-- Goals of `write_bank` that the tactics leave open.
use Rattle.script_write.proofs.Progress.{progress-start, progress-more, progress-last}
use Rattle.script_write.proofs.writing.write_bank.Goals as goal

pub returns-clause-bytes : goal.returns-clause-bytes
returns-clause-bytes g c =
    progress-last _ _ _ _ _ _
    (progress-more _ _ _ _ _ _ c.in_default-write_plat.field-0
    (progress-more _ _ _ _ _ _ c.in_default.field-0 (progress-start _ _) c.in_default.ensures.bytes)
    c.in_default-write_plat.ensures.bytes)
    c.write_gather.ensures.bytes
