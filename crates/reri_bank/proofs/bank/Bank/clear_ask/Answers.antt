-- The flag alone is taken back.
use Rattle.std.proofs.Common.{sym, subst}
use Rattle.reri_fields.specs.Banks.{BankStands}
use Rattle.reri_bank.proofs.Stands.{scan_over_keeps}
use Rattle.reri_bank.proofs.bank.Bank.clear_ask.Goals as goal

pub returns-clause-stands : goal.returns-clause-stands
returns-clause-stands c =
    λ origins history s.
    scan_over_keeps origins history _ (subst (λ v. BankStands origins history v) (sym c.self.view_is) s)
