-- Goals of `end` that the tactics leave open.
use Rattle.std.proofs.Common.{arith}
use Rattle.std.proofs.lemmas.List.{length-take, take_more_set}
use Rattle.ras_text.proofs.line.Line.end.Goals as goal

pub returns-clause-bytes : goal.returns-clause-bytes
returns-clause-bytes g c =
    let line = c.args.self.now in
    let fits = length-take line.len line.bytes in
    let text = take_more_set line.bytes line.len 10 (omega (arith, fits, c.requires)) in
    rw (c.clear.ensures.sink, ← text) c.write-result.ensures.bytes
