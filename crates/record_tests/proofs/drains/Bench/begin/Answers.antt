-- A drain begins where the slot is free.
use Rattle.std.proofs.Common.{sym, subst}
use Rattle.ras_drain.specs.Fits.{HasRoom}
use Rattle.record_tests.proofs.drains.Bench.begin.Goals as goal

pub invariant_of-self : goal.invariant_of-self
invariant_of-self c = (
  c.begin.ensures.fits c.self.inside.bank,
  subst (HasRoom c.begin.new.self.drain)
      (sym (c.is_free.ensures.0 c.if-is_free.true)) c.begin.ensures.room,
)
