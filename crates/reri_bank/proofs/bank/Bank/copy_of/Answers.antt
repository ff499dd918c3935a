-- A record of the bank stands among the words.
use Rattle.std.proofs.Common.{◌<◌, length, ap, sym, subst, arith}
use Rattle.reri_bank.specs.Layout.{copies_in}
use Rattle.reri_bank.proofs.Placed.{laid_room}
use Rattle.reri_bank.proofs.bank.Bank.copy_of.Goals as goal

pub read-requires-clause-room : goal.read-requires-clause-room
read-requires-clause-room c =
    let there : c.args.rec < length (copies_in c.self.inside.words.items) = subst (λ v. c.args.rec < length v.copies)
    (sym c.self.view_is) c.requires in
    omega (
      arith,
      laid_room c.self.inside.words.items c.args.rec c.self.invariant.0 there,
      ap length
          c.deref.ensures.value,
    )
