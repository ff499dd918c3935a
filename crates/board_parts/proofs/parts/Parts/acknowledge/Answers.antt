-- A bank that is there acknowledges its block.
use Rattle.std.proofs.Common.{◌<◌, length, refl, arith}
use Rattle.std.proofs.lemmas.Option.{slice_get_read}
use Rattle.reri_fields.specs.Drain.BankTry.{Acknowledges}
use Rattle.reri_fields.specs.Drain.BankNote.{Acknowledged}
use Rattle.board_plan.specs.State.{bank_plan}
use Rattle.board_parts.proofs.AtBanks.{bank_is, taken, no_bank}
use Rattle.board_parts.proofs.parts.Parts.acknowledge.Goals as goal

pub returns-then-at-len-clause-takes : goal.returns-then-at-len-clause-takes
returns-then-at-len-clause-takes c =
    λ plan s h.
    no_bank plan s c.args.self.now c.args.bank Acknowledges h (omega
    (arith, c.if-at-len.true, c.len.ensures, c.args.self.now.banks.ok.0))

pub returns-clause-takes : goal.returns-clause-takes
returns-clause-takes c =
    λ plan s h.
    let p = c.args.self.now in
    let low : c.args.bank < length p.banks.items = omega (arith, c.if-at-len.false, c.len.ensures, p.banks.ok.0) in
    let b = c.index_mut.result.now in
    let here = slice_get_read p.banks.items (length p.banks.items) c.args.bank b refl low c.index_mut.ensures.value in
    let is = bank_is plan s p c.args.bank b h here in
    taken plan s p _ c.args.bank is.decl b c.acknowledge-full.new.self Acknowledges
    (Acknowledged c.acknowledge-full.result) _ h
    is.declared here (λ x stands there. c.acknowledge-full.ensures.makes (bank_plan c.args.bank is.decl plan.recs) x stands)
    (record { index = refl; decls = refl; budgets = refl; counts = refl; limits = refl; reporters = refl })
    refl refl refl
