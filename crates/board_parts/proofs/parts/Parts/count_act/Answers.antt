-- A reporter that is wanted makes one act more.
use Rattle.std.proofs.Common.{set, refl, sym, ap, ◌∙◌, arith}
use Rattle.board_parts.proofs.AtReporters.{no_reporter, reporter_wanted, act_counted}
use Rattle.board_parts.proofs.parts.Parts.count_act.Goals as goal

pub returns-then-at-len-clause-wanted : goal.returns-then-at-len-clause-wanted
returns-then-at-len-clause-wanted c =
    λ plan s h.
    no_reporter plan s c.args.self.now c.args.reporter h (omega
    (arith, c.if-at-len.true, c.len.ensures, c.args.self.now.reporters.ok.0))

pub returns-then-not-is_wanted-clause-wanted : goal.returns-then-not-is_wanted-clause-wanted
returns-then-not-is_wanted-clause-wanted c =
    λ plan s h.
    let p = c.args.self.now in
    reporter_wanted plan s p c.args.reporter c.index.result.now c.index-2.result.now h
    (omega (arith, c.if-at-len.false, c.len.ensures, p.reporters.ok.0)) c.index.ensures c.index-2.ensures
    ∙ sym c.is_wanted.ensures ∙ c.if-not-is_wanted.true

pub returns-clause-wanted : goal.returns-clause-wanted
returns-clause-wanted c =
    λ plan s h.
    let p = c.args.self.now in
    reporter_wanted plan s p c.args.reporter c.index.result.now c.index-2.result.now h
    (omega (arith, c.if-at-len.false, c.len.ensures, p.reporters.ok.0)) c.index.ensures c.index-2.ensures
    ∙ sym c.is_wanted.ensures ∙ c.if-not-is_wanted.false

pub returns-clause-shows : goal.returns-clause-shows
returns-clause-shows c =
    λ plan s h.
    let p = c.args.self.now in
    act_counted plan s p _ c.args.reporter c.index_mut.result.now h
    (omega (arith, c.if-at-len.false, c.len.ensures, p.reporters.ok.0)) c.index_mut.ensures.value refl refl refl refl
    refl
    refl refl (ap (λ x. set p.reporters.items c.args.reporter x) c.count.ensures)
