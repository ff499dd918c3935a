-- So many of the copies that were looked at.
use Rattle.std.proofs.Common.{◌≡◌, take}
use Rattle.std.specs.Prelude.{count_by}
use Rattle.ghes_block.specs.Sections.{is_of}
use Rattle.ghes_block.proofs.copies.count_of.Given as goal

abbrev pub invariant-loop-copy : goal.invariant-loop-copy
invariant-loop-copy l = l.count ≡ count_by (is_of l.corrected) (take l.copy-index l.copies)
