-- A record is cleared where it was claimed, or there is none of that number.
use Rattle.std.proofs.Common.{sym, subst, ◌∷◌}
use Rattle.std.proofs.lemmas.Option.{slice_get_within}
use Rattle.reri_fields.specs.Banks.{BankStands}
use Rattle.reri_fields.specs.Banks.BankEvent.{Invalidates}
use Rattle.reri_bank.proofs.Stands.{invalidate_keeps, invalidate_nowhere, get_nowhere}
use Rattle.reri_bank.proofs.bank.Bank.invalidate.Goals as goal

pub returns-in_err-copy-clause-stands : goal.returns-in_err-copy-clause-stands
returns-in_err-copy-clause-stands c =
    λ origins history s.
    invalidate_nowhere origins history c.args.rec _ s (get_nowhere _ c.args.rec (sym c.in_err-copy.ensures.value))

pub put-requires-clause-there : goal.put-requires-clause-there
put-requires-clause-there c = slice_get_within _ c.args.rec c.in_ok-copy.copy (sym c.in_ok-copy.ensures.value)

pub returns-clause-stands : goal.returns-clause-stands
returns-clause-stands c =
    λ origins history s.
    subst (BankStands origins (Invalidates c.args.rec ∷ history)) (sym c.put.ensures)
    (invalidate_keeps origins history c.args.rec c.in_ok-copy.copy c.invalidate-cleared.new.rec c.args.self.now s
    (sym c.in_ok-copy.ensures.value) c.invalidate-cleared.ensures.change)
