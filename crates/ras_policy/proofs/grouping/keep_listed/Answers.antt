use Rattle.std.proofs.Common.{rules}
use Rattle.std.proofs.lemmas.Fn.{filter_same}
use Rattle.ras_policy.specs.Retired.{is_listed}
use Rattle.ras_policy.proofs.grouping.keep_listed.Goals as goal

pub returns : goal.returns
returns c =
    filter_same _ (is_listed c.args.threshold) _ (λ x b q h. search rules) _ _ c.retain.ensures.filtered
