-- A record is claimed, or there is none of that number.
use Rattle.std.proofs.Common.{sym, ap, ◌∙◌, subst, slice_get, ◌∷◌}
use Rattle.std.specs.Option.{option_map}
use Rattle.std.proofs.lemmas.Option.{slice_get_within}
use Rattle.reri_fields.specs.Banks.{BankStands}
use Rattle.reri_fields.specs.Banks.BankEvent.{Claims}
use Rattle.reri_bank.proofs.Stands.{claim_keeps, claim_nowhere, get_nowhere, get-set_same}
use Rattle.reri_bank.proofs.Claimed.{claim_kept}
use Rattle.reri_bank.proofs.bank.Bank.set_read.Goals as goal

pub returns-in_err-copy-clause-stands : goal.returns-in_err-copy-clause-stands
returns-in_err-copy-clause-stands c =
    λ origins history s.
    claim_nowhere origins history c.args.rec _ s (get_nowhere _ c.args.rec (sym c.in_err-copy.ensures.value))

pub put-requires-clause-there : goal.put-requires-clause-there
put-requires-clause-there c = slice_get_within _ c.args.rec c.in_ok-copy.copy (sym c.in_ok-copy.ensures.value)

pub put-requires-clause-kept : goal.put-requires-clause-kept
put-requires-clause-kept c = claim_kept c.in_ok-copy.copy c.claim.new.rec c.claim.ensures c.in_ok-copy.ensures.kept

pub returns-clause-value : goal.returns-clause-value
returns-clause-value c =
    ap (λ v. option_map (λ copy. copy.status) (slice_get v.copies c.args.rec)) c.put.ensures
    ∙ ap (option_map (λ copy. copy.status))
    (get-set_same c.args.self.now.copies c.args.rec c.claim.new.rec
    (slice_get_within _ c.args.rec c.in_ok-copy.copy (sym c.in_ok-copy.ensures.value)))

pub returns-clause-stands : goal.returns-clause-stands
returns-clause-stands c =
    λ origins history s.
    subst (BankStands origins (Claims c.args.rec ∷ history)) (sym c.put.ensures)
    (claim_keeps origins history c.args.rec c.in_ok-copy.copy c.claim.new.rec c.args.self.now s
    (sym c.in_ok-copy.ensures.value) c.claim.ensures)
