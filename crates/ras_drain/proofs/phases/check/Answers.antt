-- A Check publishes what was read where the record is still claimed.
use Rattle.std.proofs.Common.{sym, ◌∙◌, ap, max, subst, arith}
use Rattle.std.proofs.lemmas.Option.{slice_get_within}
use Rattle.reri_fields.specs.declared.drain.Phase.TheVariants.{Check}
use Rattle.reri_fields.specs.Block.{IsCopy}
use Rattle.ras_drain.specs.Inside.{draining}
use Rattle.ras_drain.proofs.Phased.{check_torn, check_publishes}
use Rattle.ras_drain.proofs.Held.{whole, copy_of_valid, holds_valid}
use Rattle.ras_drain.proofs.phases.check.Goals as goal

pub copy_of-status-requires : goal.copy_of-status-requires
copy_of-status-requires c = slice_get_within c.args.bank.now.copies c.args.at.rec c.requires.holds.copy
    c.requires.holds.there

pub returns-then-not-in_progress : goal.returns-then-not-in_progress
returns-then-not-in_progress c =
    λ gather few below.
    check_torn c.args.at gather c.args.bank.now c.args.slot.now c.args.got.now c.copy_of-status.result
    c.requires.holds c.copy_of-status.ensures.value (sym c.in_progress.ensures ∙ c.if-not-in_progress.true)
    c.requires.few few below

pub append-requires-clause-copy : goal.append-requires-clause-copy
append-requires-clause-copy c =
    let valid = holds_valid (record (draining c.args.at) { phase = Check }) c.args.got.now c.args.bank.now
    c.copy_of-status.result c.requires.holds c.copy_of-status.ensures.value in
    let built = whole (draining c.args.at) c.args.got.now c.args.bank.now c.copy_of-status.result c.requires.holds
    c.copy_of-status.ensures.value (sym c.in_progress.ensures ∙ c.if-not-in_progress.false) in
    subst IsCopy (sym built) (copy_of_valid c.copy_of-status.result c.copy_of-status.ensures.kept valid)

pub returns : goal.returns
returns c =
    λ gather few below.
    let built = whole (draining c.args.at) c.args.got.now c.args.bank.now c.copy_of-status.result c.requires.holds
    c.copy_of-status.ensures.value (sym c.in_progress.ensures ∙ c.if-not-in_progress.false) in
    check_publishes c.args.at gather c.args.bank.now c.args.slot.now c.append.new.self c.args.got.now
    c.copy_of-status.result _ c.max.result c.requires.holds c.copy_of-status.ensures.value
    (sym c.in_progress.ensures ∙ c.if-not-in_progress.false) (omega (arith, c.copy_of-status.type_inv.1)) built
    (c.max.ensures ∙ ap (max c.args.at.level) c.level.ensures) c.append.ensures c.requires.few few
