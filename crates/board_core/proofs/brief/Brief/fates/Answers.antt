-- The tally's counts are those of the run's notes.
use Rattle.std.proofs.Common.{◌≡◌, subst}
use Rattle.board_plan.specs.Fates.{fates_of}
use Rattle.board_core.specs.Inside.{played}
use Rattle.board_core.specs.Played.{Played, own_run}
use Rattle.board_core.proofs.brief.Brief.fates.Goals as goal

pub returns : goal.returns
returns c =
    let x = c.self.inside in
    subst (λ (b : Played). c.fates.result ≡ fates_of b.plan (own_run b).notes) c.self.view_is
    (c.fates.ensures x.plan (own_run (played x)).notes c.self.invariant.tallies)
