-- One bit is written.
use Rattle.std.proofs.Common.{length, set, ap, ◌∙◌, arith, false, ◌≡◌, sym}
use Rattle.sse_table.proofs.Bits.{one_cleared, bits_length}
use Rattle.sse_table.proofs.pending.Pending.clear.Goals as goal

pub returns : goal.returns
returns c =
    let long : length c.args.self.now ≡ c.self.inside.count = ap length (sym c.self.view_is)
    ∙ bits_length c.self.inside.words c.self.inside.count
    in one_cleared c.self.inside.words c.self.inside.count c.args.index (omega arith) (omega arith)
    ∙ ap (λ bs. set bs c.args.index false) c.self.view_is
