-- One hart more.
use Rattle.std.proofs.Common.{◌++◌, [], ◌∷◌, ap, ◌∙◌, map, arith, ◌≡◌}
use Rattle.std.specs.List.{range_with_len}
use Rattle.board_plan.specs.State.{no_counts}
use Rattle.board_parts.proofs.MadeOf.{one_more_of, copies_of}
use Rattle.board_parts.proofs.making.fresh_counts.Goals as goal

pub loop-hart-preserved : goal.loop-hart-preserved
loop-hart-preserved c =
    c.in_ok-push.ensures.ok ∙ ap (λ b. c.loop-hart.counts ++ b ∷ []) c.new.ensures
    ∙ one_more_of (λ h. no_counts) c.loop-hart.counts c.loop-hart.hart c.loop-hart.invariant

pub returns : goal.returns
returns c =
    let all : c.loop-hart.hart ≡ c.args.harts = omega arith in
    c.into_vec.ensures ∙ c.loop-hart.invariant ∙ ap (λ n. map (λ _. no_counts) (range_with_len 0 n)) all
    ∙ copies_of no_counts c.args.harts
