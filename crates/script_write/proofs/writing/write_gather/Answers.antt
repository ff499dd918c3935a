-- Goals of `write_gather` that the tactics leave open.
use Rattle.std.proofs.Common.{refl, sym}
use Rattle.ras_io.proofs.Puts.{Puts-same}
use Rattle.script_write.proofs.Progress.{progress-start, progress-end}
use Rattle.script_write.proofs.Wholes.{no_gather, one_gather}
use Rattle.script_write.proofs.writing.write_gather.Goals as goal

pub returns-then-has_gather-clause-bytes : goal.returns-then-has_gather-clause-bytes
returns-then-has_gather-clause-bytes g c =
    Puts-same _ _ _ _ _ _ _ refl refl
    (sym (one_gather c.args.version c.args.bank c.args.count (sym c.if-has_gather.ensures)))
    c.write_statement.ensures.bytes

pub returns-clause-bytes : goal.returns-clause-bytes
returns-clause-bytes g c =
    Puts-same _ _ _ _ _ _ _ refl refl
    (sym (no_gather c.args.version c.args.bank c.args.count (sym c.if-has_gather.ensures)))
    (progress-end _ _ _ _ (progress-start _ _))
