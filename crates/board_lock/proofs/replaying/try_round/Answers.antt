-- Harts, then reporters.
use Rattle.std.proofs.Common.{◌≤◌, Bool, ◌||◌, length, sym, ap, subst, ◌∙◌}
use Rattle.board_plan.specs.Plans.{most_steps}
use Rattle.board_core.specs.Played.{Played}
use Rattle.board_lock.proofs.Trying.{went_round}
use Rattle.board_lock.proofs.replaying.try_round.Goals as goal

abbrev IsFew : Played → Type 0
IsFew b = length b.steps ≤ most_steps b.plan

pub returns-then-harts-clause-went : goal.returns-then-harts-clause-went
returns-then-harts-clause-went g c =
    went_round _ _ _ _ _ _ c.try_harts-harts.result c.try_reporters-reporters.result c.try_harts-harts.result
    (ap (λ (b : Bool). b || c.try_reporters-reporters.result) c.if-harts.true ∙ sym c.if-harts.true)
    c.try_harts-harts.ensures c.try_reporters-reporters.ensures

pub returns-else-harts-clause-went : goal.returns-else-harts-clause-went
returns-else-harts-clause-went g c =
    went_round _ _ _ _ _ _ c.try_harts-harts.result c.try_reporters-reporters.result c.try_reporters-reporters.result
    (ap (λ (b : Bool). b || c.try_reporters-reporters.result) c.if-harts.false)
    c.try_harts-harts.ensures c.try_reporters-reporters.ensures

pub returns-then-harts-clause-few : goal.returns-then-harts-clause-few
returns-then-harts-clause-few g c = subst IsFew c.brief.ensures c.steps-steps.ensures.played.few

pub returns-else-harts-clause-few : goal.returns-else-harts-clause-few
returns-else-harts-clause-few g c = subst IsFew c.brief.ensures c.steps-steps.ensures.played.few
