-- What the search for a signalled record keeps.
use Rattle.std.proofs.Common.{◌≡◌, ℕ, ◌<◌, false}
use Rattle.reri_fields.specs.Banks.{is_signalled_at}
use Rattle.reri_bank.proofs.bank.Bank.next_signalled.Given as goal

-- no record before this one is signalled
abbrev pub invariant-loop-rec : goal.invariant-loop-rec
invariant-loop-rec l = (at : ℕ) → at < l.rec → is_signalled_at l.self.copies at ≡ false
