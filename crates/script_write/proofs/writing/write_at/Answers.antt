-- Goals of `write_at` that the tactics leave open.
use Rattle.std.proofs.Common.{refl, sym}
use Rattle.ras_io.proofs.Puts.{Puts-same}
use Rattle.script_write.proofs.Progress.{progress-start, progress-end}
use Rattle.script_write.proofs.Wholes.{no_at, one_at}
use Rattle.script_write.proofs.writing.write_at.Goals as goal

pub returns-then-follows-clause-bytes : goal.returns-then-follows-clause-bytes
returns-then-follows-clause-bytes g c =
    Puts-same _ _ _ _ _ _ _ refl refl
    (sym (no_at _ c.args.pc (sym c.if-follows.ensures)))
    (progress-end _ _ _ _ (progress-start _ _))

pub returns-clause-bytes : goal.returns-clause-bytes
returns-clause-bytes g c =
    Puts-same _ _ _ _ _ _ _ refl refl
    (sym (one_at _ c.args.pc (sym c.if-follows.ensures)))
    c.write_statement.ensures.bytes
