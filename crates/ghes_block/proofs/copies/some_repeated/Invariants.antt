-- None of the copies that were looked at.
use Rattle.std.proofs.Common.{◌≡◌, drop}
use Rattle.std.specs.List.{list_any}
use Rattle.ghes_block.specs.Sections.{is_repeated}
use Rattle.ghes_block.proofs.copies.some_repeated.Given as goal

abbrev pub invariant-loop-copy : goal.invariant-loop-copy
invariant-loop-copy l =
    list_any (is_repeated l.corrected) l.copies ≡ list_any (is_repeated l.corrected) (drop l.copy-index l.copies)
