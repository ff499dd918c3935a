-- Goals of `write_board` that the tactics leave open.
use Rattle.std.proofs.Common.{refl}
use Rattle.ras_io.proofs.Puts.{Puts-same}
use Rattle.script_write.proofs.Progress.{progress-start, progress-more, progress-last}
use Rattle.script_write.proofs.writing.write_board.Goals as goal

pub returns-clause-bytes : goal.returns-clause-bytes
returns-clause-bytes g c =
    Puts-same _ _ _ _ _ _ _ refl refl (cc (c.as_slice.ensures, c.as_slice-2.ensures, c.as_slice-3.ensures))
    (progress-last _ _ _ _ _ _
    (progress-more _ _ _ _ _ _ c.in_default-write_banks.field-0
    (progress-more _ _ _ _ _ _ c.in_default-write_events.field-0
    (progress-more _ _ _ _ _ _ c.in_default.field-0 (progress-start _ _) c.in_default.ensures.bytes)
    c.in_default-write_events.ensures.bytes)
    c.in_default-write_banks.ensures.bytes)
    c.write_records.ensures.bytes)
