-- The reports differ in the version.
use Rattle.move_laws.proofs.Reports.{reports_kept}
use Rattle.move_laws.proofs.laws.move_changes_only_the_version.Goals as goal

pub returns : goal.returns
returns c = reports_kept
