-- The acts that a device still has to give. This project's own.
use Rattle.std.specs.Prelude.{◌≡◌, ◌<◌, ℕ, List, [], ◌∷◌, slice_get, Option, Some, None}
use Rattle.std.proofs.Common.{rules}
use Rattle.reri_fields.specs.declared.report.Report.{Report}
use Rattle.ras_device.specs.declared.act.Act.{Act}
use Rattle.ras_device.specs.declared.act.Act.TheVariants as act

-- each error in a list of acts has a priority of at most 3
abbrev pub HasReports : List Act → Type 0
HasReports acts = (i : ℕ) (report : Report) → slice_get acts i ≡ Some (act.Error report) → report.priority < 4

-- what a device still has to give, the first of its acts first; each error among them has a priority of at most 3
pub record Remaining : Type 0 where
  pub acts : List Act
  pub reports : HasReports acts

-- a device that had some acts left gave this answer and has these left: the first act is taken off; none comes exactly
-- where nothing is left, and leaves nothing
abbrev pub Takes : Option Act → List Act → List Act → Type 0
Takes None old new = (old ≡ []) × (new ≡ [])
Takes (Some a) old new = old ≡ a ∷ new

-- a device that has nothing to give
pub nothing_reported : HasReports []
nothing_reported i report e = search rules

abbrev pub nothing : Remaining
nothing = record { acts = []; reports = nothing_reported }
