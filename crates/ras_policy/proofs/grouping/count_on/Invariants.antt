use Rattle.std.proofs.Common.{◌≡◌, ◌≤◌, ◌==◌, ◌&&◌, take}
use Rattle.std.specs.List.{count_by}
use Rattle.ras_policy.specs.Books.{marks_corrected, marks_uncorrected}
use Rattle.ras_policy.proofs.grouping.count_on.Given as goal

abbrev pub invariant-loop-mark : goal.invariant-loop-mark
invariant-loop-mark l =
    (l.numbers.page ≡ l.page)
    × (l.numbers.corrected
    ≡ count_by (λ m. (m.page == l.page) && marks_corrected m) (take l.mark-index l.marks))
    × (l.numbers.uncorrected
    ≡ count_by (λ m. (m.page == l.page) && marks_uncorrected m) (take l.mark-index l.marks))
    × (l.numbers.corrected ≤ l.mark-index) × (l.numbers.uncorrected ≤ l.mark-index)
