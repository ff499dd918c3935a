-- A free slot holds nothing.
use Rattle.ghes_block.proofs.Entries.{holds_nothing}
use Rattle.ghes_block.proofs.slot.Slot.acknowledge.Goals as goal

pub invariant_of-self : goal.invariant_of-self
invariant_of-self c = holds_nothing c.clear.new.self.items _ c.clear.ensures
