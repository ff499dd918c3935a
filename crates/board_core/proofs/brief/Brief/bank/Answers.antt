-- The bank among the parts is that of the state.
use Rattle.std.proofs.Common.{subst, sym, ◌≡◌, slice_get, Some}
use Rattle.reri_fields.specs.Banks.{BankView, BankStands}
use Rattle.board_plan.specs.State.{bank_plan}
use Rattle.board_parts.specs.declared.parts.Parts.{Parts}
use Rattle.board_core.proofs.Onward.{bank_stands}
use Rattle.board_core.proofs.brief.Brief.bank.Goals as goal

pub returns : goal.returns
returns c =
    λ d x known there.
    let stands = bank_stands c.self.inside c.args.self.now c.args.bank c.bank.result.now c.self.view_is
    c.self.invariant
    (subst (λ (p : Parts). slice_get p.banks.items c.args.bank ≡ Some c.bank.result.now) c.parts.ensures c.bank.ensures) d x known there in
    subst (λ (v : BankView). BankStands (bank_plan c.args.bank d c.args.self.now.plan.recs).origins x.history v)
    (sym c.bank-2.ensures) stands.stands
