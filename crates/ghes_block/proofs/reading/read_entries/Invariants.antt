-- The registers of the entries so far, and those of the rest.
use Rattle.std.proofs.Common.{◌≡◌, ◌++◌, ◌+◌, ◌*◌, ◌-◌, drop, length}
use Rattle.ghes_block.specs.Sections.{registers_of}
use Rattle.ghes_block.proofs.reading.read_entries.Given as goal

abbrev pub invariant-loop-i : goal.invariant-loop-i
invariant-loop-i l =
    (length l.copies.items ≡ l.i)
    × (registers_of l.count (drop 20 l.bytes) ≡ l.copies.items
    ++ registers_of (l.count - l.i) (drop (20 + 120 * l.i) l.bytes))
