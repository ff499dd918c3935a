-- A reporter that is there says whether it is wanted.
use Rattle.std.proofs.Common.{sym, ◌∙◌, arith}
use Rattle.board_parts.proofs.AtReporters.{no_reporter, reporter_wanted}
use Rattle.board_parts.proofs.parts.Parts.wants.Goals as goal

pub returns-then-at-len : goal.returns-then-at-len
returns-then-at-len c =
    λ plan s h.
    no_reporter plan s c.args.self.now c.args.reporter h (omega
    (arith, c.if-at-len.true, c.len.ensures, c.args.self.now.reporters.ok.0))

pub returns : goal.returns
returns c =
    λ plan s h.
    let p = c.args.self.now in
    reporter_wanted plan s p c.args.reporter c.index.result.now c.index-2.result.now h
    (omega (arith, c.if-at-len.false, c.len.ensures, p.reporters.ok.0)) c.index.ensures c.index-2.ensures
    ∙ sym c.is_wanted.ensures
