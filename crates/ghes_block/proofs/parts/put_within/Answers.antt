-- What stands behind the bytes that were put stays.
use Rattle.std.proofs.Common.{◌+◌, length, arith}
use Rattle.std.proofs.lemmas.Slice.{drop-put_mid}
use Rattle.ghes_block.proofs.parts.put_within.Goals as goal

pub returns-clause-rest : goal.returns-clause-rest
returns-clause-rest c =
    drop-put_mid c.args.place _ c.args.out.now _ (c.args.place + length c.args.bytes.now) (omega arith) (omega arith)
    (omega arith)
