-- All are copies exactly where the rest are.
use Rattle.std.proofs.Common.{◌↔◌, drop}
use Rattle.reri_fields.specs.Block.{AreCopies}
use Rattle.ghes_block.proofs.copies.are_copies.Given as goal

abbrev pub invariant-loop-copy : goal.invariant-loop-copy
invariant-loop-copy l = AreCopies l.copies ↔ AreCopies (drop l.copy-index l.copies)
