-- One hart more.
use Rattle.std.proofs.Common.{◌++◌, [], ◌∷◌, ap, ◌∙◌}
use Rattle.board_plan.specs.State.{start_of}
use Rattle.board_parts.proofs.MadeOf.{one_more_of}
use Rattle.board_parts.proofs.making.places.Goals as goal

pub loop-hart-preserved : goal.loop-hart-preserved
loop-hart-preserved c =
    c.in_ok-push.ensures.ok ∙ ap (λ b. c.loop-hart.places ++ b ∷ []) c.place.ensures
    ∙ one_more_of (λ h. start_of h c.args.starts.now) c.loop-hart.places c.loop-hart.hart c.loop-hart.invariant
