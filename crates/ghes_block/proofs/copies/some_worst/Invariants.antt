-- None of the copies that were looked at.
use Rattle.std.proofs.Common.{◌≡◌, drop}
use Rattle.std.specs.List.{list_any}
use Rattle.reri_fields.specs.Block.{has_worst}
use Rattle.ghes_block.proofs.copies.some_worst.Given as goal

abbrev pub invariant-loop-copy : goal.invariant-loop-copy
invariant-loop-copy l =
    list_any (has_worst l.severity) l.copies ≡ list_any (has_worst l.severity) (drop l.copy-index l.copies)
