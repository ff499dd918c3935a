-- A bank that is there hears of the error.
use Rattle.std.proofs.Common.{◌<◌, length, refl, arith}
use Rattle.std.proofs.lemmas.Option.{slice_get_read}
use Rattle.reri_fields.specs.Drain.BankTry.{Reports}
use Rattle.reri_fields.specs.Drain.BankNote.{Heard}
use Rattle.board_plan.specs.State.{bank_plan}
use Rattle.board_parts.proofs.AtBanks.{bank_is, taken, no_bank}
use Rattle.board_parts.proofs.parts.Parts.report.Goals as goal

pub returns-then-at-len-clause-takes : goal.returns-then-at-len-clause-takes
returns-then-at-len-clause-takes c =
    λ plan s n h early.
    no_bank plan s c.args.self.now c.args.report.now.bank (Reports (record { step = n; report = c.args.report.now })) h
    (omega (arith, c.if-at-len.true, c.len.ensures, c.args.self.now.banks.ok.0))

pub returns-clause-takes : goal.returns-clause-takes
returns-clause-takes c =
    λ plan s n h early.
    let p = c.args.self.now in
    let at = c.args.report.now.bank in
    let low : at < length p.banks.items = omega (arith, c.if-at-len.false, c.len.ensures, p.banks.ok.0) in
    let b = c.index_mut.result.now in
    let here = slice_get_read p.banks.items (length p.banks.items) at b refl low c.index_mut.ensures.value in
    let is = bank_is plan s p at b h here in
    taken plan s p _ at is.decl b c.report-logged.new.self (Reports (record { step = n; report = c.args.report.now }))
    (Heard c.args.report.now c.report-logged.result) _ h is.declared here
    (λ x stands there. c.report-logged.ensures (bank_plan at is.decl plan.recs) x n (early at x there) stands)
    (record { index = refl; decls = refl; budgets = refl; counts = refl; limits = refl; reporters = refl })
    refl refl refl
