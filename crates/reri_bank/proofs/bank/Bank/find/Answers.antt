-- A record below the count stands among the words.
use Rattle.std.proofs.Common.{◌<◌, length, ap, arith}
use Rattle.reri_bank.specs.Layout.{copies_in}
use Rattle.reri_bank.proofs.Placed.{laid_room}
use Rattle.reri_bank.proofs.bank.Bank.find.Goals as goal

pub read-requires-clause-room : goal.read-requires-clause-room
read-requires-clause-room c =
    let there : c.args.rec < length (copies_in c.self.inside.words.items) = omega (arith, c.self.invariant.1) in
    omega (
      arith,
      laid_room c.self.inside.words.items c.args.rec c.self.invariant.0 there,
      ap length
          c.deref.ensures.value,
    )
