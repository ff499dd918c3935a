-- Each error in a device's list has a priority of at most 3 (proofs that the definitions of what is left need).
use Rattle.std.specs.Prelude.{ℕ, zero, suc, ◌<◌, ◌/◌, List, [], ◌∷◌, drop, map}
use Rattle.std.proofs.Common.{refl, ap, subst}
use Rattle.std.proofs.lemmas.Bool.{ltb-true}
use Rattle.std.proofs.lemmas.Nat.{mod_below}
use Rattle.std.proofs.lemmas.Option.{none-some, same_Some}
use Rattle.ras_device.specs.declared.act.Act.{Act}
use Rattle.ras_device.specs.declared.act.Act.TheVariants as act
use Rattle.ras_device.specs.Acts.{HasReports}
use Rattle.ras_device.specs.Lists.{scrubbed, stormed}

-- what is left of a list of reports is one
pub drop_reports : (k : ℕ) (acts : List Act) → HasReports acts → HasReports (drop k acts)
drop_reports zero acts has = has
drop_reports (suc k) [] has = has
drop_reports (suc k) (a ∷ acts) has = drop_reports k acts (λ i report e. has (suc i) report e)

-- a raised event counts as of the least priority
abbrev pub priority_of : Act → ℕ
priority_of (act.Error report) = report.priority
priority_of (act.Raise id hart) = 0

-- numbered acts, each of a low priority
pub mapped_reports : (f : ℕ → Act) → ((k : ℕ) → priority_of (f k) < 4) → (ks : List ℕ) → HasReports (map f ks)
mapped_reports f low [] i report e = absurd (none-some (act.Error report) e)
mapped_reports f low (k ∷ ks) zero report e =
    subst (λ p. p < 4) (ap priority_of (same_Some (f k) (act.Error report) e)) (low k)
mapped_reports f low (k ∷ ks) (suc i) report e = mapped_reports f low ks i report e

pub scrubbed_reports : (bank rec : ℕ) (ks : List ℕ) → HasReports (map (scrubbed bank rec) ks)
scrubbed_reports bank rec ks = mapped_reports (scrubbed bank rec) (λ k. ltb-true 0 4 refl) ks

pub stormed_reports : (bank recs : ℕ) (ks : List ℕ) → HasReports (map (stormed bank recs) ks)
stormed_reports bank recs ks = mapped_reports (stormed bank recs) (λ k. mod_below (k / 3) 4 (ltb-true 0 4 refl)) ks
