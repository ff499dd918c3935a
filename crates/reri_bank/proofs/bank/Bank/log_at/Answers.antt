-- A record of the bank stands among the words.
use Rattle.std.proofs.Common.{◌<◌, length, ap, sym, subst, arith}
use Rattle.reri_bank.specs.Layout.{copies_in}
use Rattle.reri_bank.proofs.Placed.{laid_room}
use Rattle.reri_bank.proofs.bank.Bank.log_at.Goals as goal

pub log_into-requires-clause-room : goal.log_into-requires-clause-room
log_into-requires-clause-room c =
    let there : c.args.report.now.rec < length (copies_in c.self.inside.words.items) =
    subst (λ v. c.args.report.now.rec < length v.copies) (sym c.self.view_is) c.requires.there in
    omega (
      arith,
      laid_room c.self.inside.words.items c.args.report.now.rec c.self.invariant.0 there,
      ap length
          c.deref_mut.ensures.value,
    )
