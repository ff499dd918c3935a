-- The slot is free afterwards; the records and the drain stay.
use Rattle.std.proofs.Common.{sym, subst}
use Rattle.reri_fields.specs.Drain.BankTry.{Acknowledges}
use Rattle.reri_fields.specs.Drain.BankNote.{Acknowledged}
use Rattle.ras_drain.specs.Fits.{HasRoom}
use Rattle.board_bank.specs.Standing.{BankParts, StandsFor, Makes}
use Rattle.board_bank.proofs.Steps.{acknowledges, room_in_free}
use Rattle.board_bank.proofs.drained.BoardBank.acknowledge.Goals as goal

pub invariant_of-self : goal.invariant_of-self
invariant_of-self c =
    record {
      fits = c.self.invariant.fits;
      room = subst (HasRoom c.self.inside.drain.drain) (sym c.acknowledge.ensures.free)
          (room_in_free c.self.inside.drain.drain);
      some = c.self.invariant.some;
      few = c.self.invariant.few;
      gathers = c.self.invariant.gathers;
    }

pub returns-clause-makes : goal.returns-clause-makes
returns-clause-makes c =
    λ plan s h.
    let i = c.self.inside in
    let parts : BankParts = record { bank = i.bank; slot = i.slot; drain = i.drain.drain; gather = i.gather } in
    subst (λ slot. Makes plan s Acknowledges (Acknowledged c.acknowledge.result) (record parts { slot = slot }))
    (sym c.acknowledge.ensures.free)
    (acknowledges plan s parts c.acknowledge.result
    (subst (StandsFor plan s) (sym c.self.view_is) h) c.acknowledge.ensures.full)
