-- Raised events are no errors.
use Rattle.std.proofs.Common.{◌≡◌, ℕ, zero, suc, List, [], ◌∷◌, sym, subst}
use Rattle.ras_device.specs.declared.act.Act.{Act}
use Rattle.ras_device.specs.declared.act.Act.TheVariants as act
use Rattle.ras_device.specs.Acts.{HasReports}

three : (id hart : ℕ) → HasReports (act.Raise id hart ∷ act.Raise id hart ∷ act.Raise id hart ∷ [])
three id hart zero report e = cc
three id hart (suc zero) report e = cc
three id hart (suc (suc zero)) report e = cc
three id hart (suc (suc (suc i))) report e = cc

pub three_raises : (acts : List Act) (id hart : ℕ)
    → acts ≡ act.Raise id hart ∷ act.Raise id hart ∷ act.Raise id hart ∷ [] → HasReports acts
three_raises acts id hart is = subst HasReports (sym is) (three id hart)

one : (id hart : ℕ) → HasReports (act.Raise id hart ∷ [])
one id hart zero report e = cc
one id hart (suc i) report e = cc

pub one_raise : (acts : List Act) (id hart : ℕ) → acts ≡ act.Raise id hart ∷ [] → HasReports acts
one_raise acts id hart is = subst HasReports (sym is) (one id hart)
