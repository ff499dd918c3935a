use Rattle.std.proofs.Common.{◌≡◌, ◌≤◌, ◌+◌, ◌++◌, drop}
use Rattle.ras_policy.specs.Grouped.{grouped}
use Rattle.ras_policy.proofs.grouping.grouped.Given as goal

-- the pages so far, and those of the marks that are left
abbrev pub invariant-loop-mark : goal.invariant-loop-mark
invariant-loop-mark l =
    (l.pages.items ++ grouped l.current (drop l.mark-index l.marks) ≡ grouped l.fn.first l.fn.marks)
    × (l.current.corrected ≤ l.mark-index + 1) × (l.current.uncorrected ≤ l.mark-index + 1)
