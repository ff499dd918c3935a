-- Goals of `pass_on` that the tactics leave open.
use Rattle.std.proofs.Common.{◌≡◌, [], take, drop, ap, ◌∙◌, subst}
use Rattle.std.proofs.lemmas.List.{take-append-drop}
use Rattle.std.specs.Io.KnownBytes.{Appends, append_known}
use Rattle.ras_io.specs.Std.{written_to}
use Rattle.ras_io.proofs.Passed.{passed}
use Rattle.ras_io.proofs.standard.StdSink.pass_on.Goals as goal

pub returns-clause-bytes : goal.returns-clause-bytes
returns-clause-bytes g c =
    let n = c.send.result in
    let bytes = c.args.bytes.now in
    let empty : drop c.self.inside.sent c.self.inside.gathered.items ≡ [] = ap (λ s. s.waiting) c.self.view_is
    ∙ c.requires in
    let front = passed (g.W.Write.contents c.self.inside.to) (g.W.Write.contents c.send.new.to) _ _ (take n bytes)
    empty empty c.send.ensures.bytes in
    record {
      all = tt;
      front = (
        take n bytes,
        drop n bytes,
        take-append-drop n bytes,
        subst (λ s. Appends (written_to s) (append_known (g.W.Write.contents c.send.new.to)
            (drop c.self.inside.sent c.self.inside.gathered.items)) (take n bytes)) c.self.view_is front,
      );
    }
