-- What the loop of `read_all` keeps.
use Rattle.std.proofs.Common.{◌≡◌, ◌≤◌, length, ◌+◌, ◌-◌}
use Rattle.std.specs.Io.KnownBytes.{Consumes}
use Rattle.ras_io.proofs.whole.read_all.Given as goal

abbrev pub invariant-loop-piece : goal.invariant-loop-piece
invariant-loop-piece g l =
    Consumes (g.S.Source.left l.fn.src) (g.S.Source.left l.src) l.bytes.items
    × (length l.bytes.items ≤ l.max + 1)
    × (g.S.Source.faults l.src ≡ g.S.Source.faults l.fn.src)

abbrev pub decreases-loop-piece : goal.decreases-loop-piece
decreases-loop-piece g l = l.max + 1 - length l.bytes.items
