-- Each error in a device's list has a priority of at most 3 (proofs that the definitions of what is left need).
use Rattle.std.specs.Prelude.{◌≡◌, ℕ, zero, suc, ◌<◌, Bool, true, false, List, [], ◌∷◌, ◌++◌, replicate, slice_get}
use Rattle.std.proofs.Common.{refl, ap, subst}
use Rattle.std.proofs.lemmas.Bool.{ltb-true}
use Rattle.std.proofs.lemmas.Option.{none-some, same_Some}
use Rattle.reri_fields.specs.declared.report.Report.{Report}
use Rattle.ras_device.specs.declared.act.Act.{Act}
use Rattle.ras_device.specs.declared.act.Act.TheVariants.{Error, Raise}
use Rattle.ras_device.specs.Acts.{HasReports}
use Rattle.ras_device.specs.Reported.{priority_of}
use Rattle.ras_pulse.specs.Lists.{expired, in_turn, overflow, pulse, pulses}

pub none_reports : HasReports []
none_reports i report e = absurd (none-some (Error report) e)

-- one act more
pub more_reports : (a : Act) (acts : List Act) → priority_of a < 4 → HasReports acts → HasReports (a ∷ acts)
more_reports a acts low has zero report e =
    subst (λ p. p < 4) (ap priority_of (same_Some a (Error report) e)) low
more_reports a acts low has (suc i) report e = has i report e

-- so many of one
pub repeated_reports : (a : Act) (n : ℕ) (acts : List Act) → priority_of a < 4 → HasReports acts
    → HasReports (replicate n a ++ acts)
repeated_reports a zero acts low has = has
repeated_reports a (suc n) acts low has =
    more_reports a (replicate n a ++ acts) low (repeated_reports a n acts low has)

pub pulses_reports : (hart period n : ℕ) → HasReports (pulses hart period n)
pulses_reports hart period zero = none_reports
pulses_reports hart period (suc n) =
    repeated_reports pulse period (overflow hart ∷ pulses hart period n) (ltb-true 0 4 refl)
    (more_reports (overflow hart) (pulses hart period n) (ltb-true 0 4 refl) (pulses_reports hart period n))

pub countdown_reports : (id hart raises n : ℕ) → HasReports (replicate raises (Raise id hart) ++ expired n ∷ [])
countdown_reports id hart raises n =
    repeated_reports (Raise id hart) raises (expired n ∷ []) (ltb-true 0 4 refl)
    (more_reports (expired n) [] (ltb-true 0 4 refl) none_reports)

pub both_reports : (xs ys : List Act) → HasReports xs → HasReports ys → HasReports (xs ++ ys)
both_reports [] ys p q i report e = q i report e
both_reports (x ∷ xs) ys p q zero report e = p zero report e
both_reports (x ∷ xs) ys p q (suc i) report e = both_reports xs ys (λ k r f. p (suc k) r f) q i report e

pub turns_reports : (xs ys : List Act) → HasReports xs → HasReports ys → HasReports (in_turn xs ys)
turns_reports [] ys p q i report e = q i report e
turns_reports (x ∷ xs) [] p q i report e = p i report e
turns_reports (x ∷ xs) (y ∷ ys) p q zero report e = p zero report e
turns_reports (x ∷ xs) (y ∷ ys) p q (suc zero) report e = q zero report e
turns_reports (x ∷ xs) (y ∷ ys) p q (suc (suc i)) report e =
    turns_reports xs ys (λ k r f. p (suc k) r f) (λ k r f. q (suc k) r f) i report e
