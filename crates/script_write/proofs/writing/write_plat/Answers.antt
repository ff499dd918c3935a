-- Goals of `write_plat` that the tactics leave open.
use Rattle.std.proofs.Common.{refl, sym}
use Rattle.ras_io.proofs.Puts.{Puts-same}
use Rattle.script_write.proofs.Progress.{progress-start, progress-end}
use Rattle.script_write.proofs.Wholes.{no_plat, one_plat}
use Rattle.script_write.proofs.writing.write_plat.Goals as goal

pub returns-in-None-clause-bytes : goal.returns-in-None-clause-bytes
returns-in-None-clause-bytes g c =
    Puts-same _ _ _ _ _ _ _ refl refl (sym (no_plat c.args.bank c.args.plat c.in-None.is))
    (progress-end _ _ _ _ (progress-start _ _))

pub returns-in-Some-clause-bytes : goal.returns-in-Some-clause-bytes
returns-in-Some-clause-bytes g c =
    Puts-same _ _ _ _ _ _ _ refl refl
    (sym (one_plat c.args.bank c.args.plat c.in-Some.id c.in-Some.is)) c.write_statement.ensures.bytes
