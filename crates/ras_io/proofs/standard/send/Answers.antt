-- Goals of `send` that the tactics leave open.
use Rattle.std.proofs.Common.{take, arith, sym, subst}
use Rattle.std.proofs.Math.Seq.{take-add}
use Rattle.std.proofs.KnownBytes.{Appends-trans}
use Rattle.std.specs.Io.KnownBytes.{Appends}
use Rattle.ras_io.proofs.standard.send.Goals as goal

pub loop-sent-preserved : goal.loop-sent-preserved
loop-sent-preserved g c =
    let n = c.write_some-count.result in
    let s = c.loop-sent.sent in
    let part =
    subst (λ l. Appends (g.W.Write.contents c.loop-sent.to) (g.W.Write.contents c.write_some-count.new.to)
    (take n l)) c.split_at.ensures.back c.write_some-count.ensures.bytes in (
      omega (arith, c.write_some-count.ensures.bound, c.split_at.ensures.back_len),
      subst (Appends _ _) (sym (take-add s n c.args.bytes.now)) (Appends-trans _ _ _ _ _ c.loop-sent.invariant.1 part),
    )
