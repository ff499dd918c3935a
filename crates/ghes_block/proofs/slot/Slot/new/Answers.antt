-- A free slot holds nothing.
use Rattle.ghes_block.proofs.Entries.{holds_nothing}
use Rattle.ghes_block.proofs.slot.Slot.new.Goals as goal

pub invariant_of-result : goal.invariant_of-result
invariant_of-result c = holds_nothing c.new.result.items _ c.new.ensures
