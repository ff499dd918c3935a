-- The acts that a device gives are reports.
use Rattle.std.proofs.Common.{◌≡◌, ℕ, zero, suc, List, [], ◌∷◌, ◌++◌, slice_get, Some, ap, ◌∙◌}
use Rattle.std.proofs.lemmas.Option.{none-some}
use Rattle.ras_device.specs.declared.act.Act.{Act}
use Rattle.ras_device.specs.declared.act.Act.TheVariants as act
use Rattle.ras_device.specs.Acts.{HasReports, Remaining}
use Rattle.board_core.specs.Played.{IsReport}

-- the first that is left
pub first_report : (old : Remaining) (rest : List Act) (a : Act) → old.acts ≡ a ∷ rest → IsReport (Some a)
first_report old rest a is report e = old.reports 0 report (ap (λ (xs : List Act). slice_get xs 0) is ∙ e)

-- any of a list of reports
pub listed_report : (xs : List Act) (k : ℕ) (a : Act) → HasReports xs → slice_get xs k ≡ Some a → IsReport (Some a)
listed_report xs k a reports there report e = reports k report (there ∙ e)

-- one more
pub one_more_report : (xs : List Act) (a : Act) → HasReports xs → IsReport (Some a) → HasReports (xs ++ a ∷ [])
one_more_report [] a reports one zero report e = one report e
one_more_report [] a reports one (suc i) report e = absurd (none-some (act.Error report) e)
one_more_report (x ∷ xs) a reports one zero report e = reports 0 report e
one_more_report (x ∷ xs) a reports one (suc i) report e =
    one_more_report xs a (λ j r f. reports (suc j) r f) one i report e
