use Rattle.std.proofs.Common.{rules}
use Rattle.std.proofs.lemmas.List.Sorted.{IsNonDecreasingBy-from_sort_by_key}
use Rattle.ras_policy.specs.declared.marks.Mark.{Mark}
use Rattle.ras_policy.proofs.grouping.by_page.Goals as goal

pub returns-clause-rises : goal.returns-clause-rises
returns-clause-rises c =
    IsNonDecreasingBy-from_sort_by_key (λ (m : Mark). m.page) _ c.sort_unstable_by_key.ensures.sorted
    (λ a r q k. search rules)
