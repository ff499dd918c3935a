-- Goals of `flush` that the tactics leave open.
use Rattle.std.proofs.Common.{◌≡◌, ◌+◌, ◌++◌, take, drop, sym, ap, ◌∙◌, subst}
use Rattle.std.proofs.lemmas.List.{take-append-drop, drop-drop}
use Rattle.std.proofs.KnownBytes.{append_known-moved}
use Rattle.std.specs.Io.KnownBytes.{Keeps, append_known}
use Rattle.ras_io.specs.Std.{written_to}
use Rattle.ras_io.proofs.standard.StdSink.flush.Goals as goal

pub returns-clause-bytes : goal.returns-clause-bytes
returns-clause-bytes g c =
    let n = c.hand_out-given.result.count in
    let waiting = drop c.self.inside.sent c.self.inside.gathered.items in
    let rest = drop (c.self.inside.sent + n) c.self.inside.gathered.items in
    let given = c.split_at.result.1.now in
    let same : given ≡ waiting = c.split_at.ensures.back ∙ ap (drop c.self.inside.sent) c.as_slice.ensures.value in
    let parts : waiting ≡ take n given ++ rest =
    sym (take-append-drop n waiting) ∙ ap (λ l. take n l ++ drop n waiting) (sym same)
    ∙ ap (λ l. take n given ++ l) (drop-drop n c.self.inside.sent c.self.inside.gathered.items) in
    subst (λ s. Keeps (written_to s) (append_known (g.W.Write.contents c.hand_out-given.new.to) rest)) c.self.view_is
    (append_known-moved _ _ (take n given) rest waiting c.hand_out-given.ensures.bytes parts)
