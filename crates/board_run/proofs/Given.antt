-- The acts of a plan's reporters, with those of devices: each error among them has a priority of at most 3.
use Rattle.std.proofs.Common.{◌≡◌, ◌<◌, ℕ, zero, suc, List, [], ◌∷◌, map, slice_get, slice_index_or, Option, Some, None}
use Rattle.reri_fields.specs.declared.report.Report.{Report}
use Rattle.ras_device.specs.declared.act.Act.{Act}
use Rattle.ras_device.specs.declared.act.Act.TheVariants as act
use Rattle.ras_device.specs.Acts.{HasReports, Remaining, nothing_reported}
use Rattle.board_plan.specs.declared.plan.Reporter as plan_reporter
use Rattle.board_plan.specs.declared.plan.Plan.{Plan}
use Rattle.board_plan.specs.Plans.{AreReports}
use Rattle.board_plan.specs.Run.{acts_from, lists}
use Rattle.board_core.specs.Played.{AreListsReports}
use Rattle.board_run.specs.Play.{lists_of}

-- the list of each device, and of one that isn't there
pub each_reports : {D : Type 0} (left : D → Remaining) (ds : List D) (k : ℕ)
    → HasReports (slice_index_or (lists_of left ds) k [])
each_reports left [] k = nothing_reported
each_reports left (d ∷ ds) zero = (left d).reports
each_reports left (d ∷ ds) (suc k) = each_reports left ds k

by_reporter : (devices : List (List Act)) (o : Option plan_reporter.Reporter) → HasReports (acts_from [] o)
    → ((k : ℕ) → HasReports (slice_index_or devices k [])) → HasReports (acts_from devices o)
by_reporter devices None own given = nothing_reported
by_reporter devices (Some d) own given = by_device d.device own
  where
    by_device : (named : Option ℕ) → HasReports (acts_from [] (Some (record d { device = named })))
        → HasReports (acts_from devices (Some (record d { device = named })))
    by_device None own = own
    by_device (Some k) own = given k

-- those of each reporter
pub are_reports : (plan : Plan) (devices : List (List Act)) → AreListsReports plan
    → ((k : ℕ) → HasReports (slice_index_or devices k [])) → AreReports (lists plan devices)
are_reports plan devices own given r =
    by_reporter devices (slice_get plan.reporters r) (own r) given
