-- A board's own run is safe.
use Rattle.std.proofs.Common.{ℕ, ◌<◌, Some, length, arith}
use Rattle.ras_device.specs.declared.act.Act.{Act}
use Rattle.board_plan.specs.declared.notes.Step.TheVariants.{Reporter}
use Rattle.board_laws.proofs.Safe.{run_is_safe}
use Rattle.board_core.specs.Played.{IsPlayed, IsReport, IsSafe, Played, acts_of, with_act, with_step}
use Rattle.board_core.proofs.Keeping.{reports_on}

pub is_safe : (b : Played) → IsPlayed b → IsSafe b
is_safe b played = run_is_safe b.plan (acts_of b) b.steps played.is_plan played.reports

pub act_safe : (r : ℕ) (a : Act) (b : Played) → IsPlayed b → r < length b.plan.reporters → IsReport (Some a)
    → IsSafe (with_step (Reporter r) (with_act r a b))
act_safe r a b played low report =
    let there : r < length b.acts = omega (arith, low, played.reporters) in
    let c = with_step (Reporter r) (with_act r a b) in
    run_is_safe b.plan (acts_of c) c.steps played.is_plan (reports_on r a b there played.reports report)
