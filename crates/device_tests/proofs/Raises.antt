-- Raised events are no errors.
use Rattle.std.proofs.Common.{◌≡◌, ℕ, zero, suc, List, [], ◌∷◌, slice_get, Some, ap, ◌∙◌, sym, subst}
use Rattle.std.proofs.lemmas.Option.{none-some, same_Some}
use Rattle.ras_device.specs.declared.act.Act.{Act}
use Rattle.ras_device.specs.declared.act.Act.TheVariants as act
use Rattle.ras_device.specs.Acts.{HasReports}

two : (id hart other at : ℕ) → HasReports (act.Raise id hart ∷ act.Raise other at ∷ [])
two id hart other at zero report e = cc
two id hart other at (suc zero) report e = cc
two id hart other at (suc (suc i)) report e = cc

pub two_raises : (acts : List Act) (id hart other at : ℕ) → acts ≡ act.Raise id hart ∷ act.Raise other at ∷ []
    → HasReports acts
two_raises acts id hart other at is = subst HasReports (sym is) (two id hart other at)
