-- Each phase by its own function.
use Rattle.std.proofs.Common.{refl, sym, ap, subst, arith}
use Rattle.std.proofs.lemmas.Option.{slice_get_within}
use Rattle.reri_fields.specs.declared.drain.Phase.TheVariants.{Scan, Claim, Address, Info, Supplement, Time, Check, Invalidate}
use Rattle.ras_drain.specs.Fits.{has_record, HoldsRecord}
use Rattle.ras_drain.specs.Inside.{draining, is_gathering, Leaves}
use Rattle.ras_drain.proofs.Phased.{leaves_at, reads_leave}
use Rattle.ras_drain.proofs.phases.advance.Goals as goal

pub claim-requires : goal.claim-requires
unfolding has_record
claim-requires c = c.requires.fits (ap has_record c.in-Claim.is)

pub copy_of-requires : goal.copy_of-requires
unfolding has_record
copy_of-requires c =
    let holds = c.requires.fits (ap has_record c.in-Address.is) in
    slice_get_within c.args.bank.now.copies c.args.at.rec holds.copy holds.there

pub copy_of-requires-in-Info : goal.copy_of-requires-in-Info
unfolding has_record
copy_of-requires-in-Info c =
    let holds = c.requires.fits (ap has_record c.in-Info.is) in
    slice_get_within c.args.bank.now.copies c.args.at.rec holds.copy holds.there

pub copy_of-requires-in-Supplement : goal.copy_of-requires-in-Supplement
unfolding has_record
copy_of-requires-in-Supplement c =
    let holds = c.requires.fits (ap has_record c.in-Supplement.is) in
    slice_get_within c.args.bank.now.copies c.args.at.rec holds.copy holds.there

pub copy_of-requires-in-Time : goal.copy_of-requires-in-Time
unfolding has_record
copy_of-requires-in-Time c =
    let holds = c.requires.fits (ap has_record c.in-Time.is) in
    slice_get_within c.args.bank.now.copies c.args.at.rec holds.copy holds.there

pub invalidate-requires-clause-there : goal.invalidate-requires-clause-there
unfolding has_record
invalidate-requires-clause-there c =
    let holds = c.requires.fits (ap has_record c.in-Invalidate.is) in
    slice_get_within c.args.bank.now.copies c.args.at.rec holds.copy holds.there

pub check-requires-clause-below : goal.check-requires-clause-below
unfolding is_gathering
check-requires-clause-below c = omega (arith, c.requires.within.0, c.requires.within.1 (ap is_gathering c.in-Check.is))

pub check-requires-clause-holds : goal.check-requires-clause-holds
unfolding has_record
check-requires-clause-holds c =
    subst (λ p. HoldsRecord (record (draining c.args.at) { phase = p }) c.args.got.now c.args.bank.now) c.in-Check.is
    (c.requires.fits (ap has_record c.in-Check.is))

pub returns-in-Scan : goal.returns-in-Scan
unfolding is_gathering
returns-in-Scan c =
    let below = c.requires.within.1 (ap is_gathering c.in-Scan.is) in
    leaves_at c.args.at Scan c.args.gather c.args.bank.now c.scan.new.bank c.args.slot.now c.args.got.now
    c.scan.result.0 c.scan.result.1 c.in-Scan.is c.requires.room
    (c.scan.ensures c.args.gather c.args.got.now c.requires.within.0 below)

pub returns-in-Claim : goal.returns-in-Claim
unfolding is_gathering
returns-in-Claim c =
    let below = c.requires.within.1 (ap is_gathering c.in-Claim.is) in
    leaves_at c.args.at Claim c.args.gather c.args.bank.now c.claim.new.bank c.args.slot.now c.claim.new.got
    c.claim.result.0 c.claim.result.1 c.in-Claim.is c.requires.room
    (c.claim.ensures c.args.gather c.requires.within.0 below)

pub returns-in-Address : goal.returns-in-Address
unfolding has_record is_gathering
returns-in-Address c =
    let holds = c.requires.fits (ap has_record c.in-Address.is) in
    let below = c.requires.within.1 (ap is_gathering c.in-Address.is) in
    reads_leave c.args.at Address Info 2 c.args.gather c.args.bank.now c.args.slot.now c.args.got.now _
    c.copy_of.result c.has_read.result c.in-Address.is (λ plan s. refl) c.has_read.ensures holds
    c.copy_of.ensures.value (λ k. (k, refl)) c.requires.within.0 below c.requires.room

pub returns-in-Info : goal.returns-in-Info
unfolding has_record is_gathering
returns-in-Info c =
    let holds = c.requires.fits (ap has_record c.in-Info.is) in
    let below = c.requires.within.1 (ap is_gathering c.in-Info.is) in
    reads_leave c.args.at Info Supplement 3 c.args.gather c.args.bank.now c.args.slot.now c.args.got.now _
    c.copy_of-in-Info.result c.has_read-in-Info.result c.in-Info.is (λ plan s. refl) c.has_read-in-Info.ensures
    holds c.copy_of-in-Info.ensures.value (λ k. (k.0, k.1, refl)) c.requires.within.0 below c.requires.room

pub returns-in-Supplement : goal.returns-in-Supplement
unfolding has_record is_gathering
returns-in-Supplement c =
    let holds = c.requires.fits (ap has_record c.in-Supplement.is) in
    let below = c.requires.within.1 (ap is_gathering c.in-Supplement.is) in
    reads_leave c.args.at Supplement Time 4 c.args.gather c.args.bank.now c.args.slot.now c.args.got.now _
    c.copy_of-in-Supplement.result c.has_read-in-Supplement.result c.in-Supplement.is (λ plan s. refl)
    c.has_read-in-Supplement.ensures holds c.copy_of-in-Supplement.ensures.value (λ k. (k.0, k.1, k.2, refl))
    c.requires.within.0 below c.requires.room

pub returns-in-Time : goal.returns-in-Time
unfolding has_record is_gathering
returns-in-Time c =
    let holds = c.requires.fits (ap has_record c.in-Time.is) in
    let below = c.requires.within.1 (ap is_gathering c.in-Time.is) in
    reads_leave c.args.at Time Check 5 c.args.gather c.args.bank.now c.args.slot.now c.args.got.now _
    c.copy_of-in-Time.result c.has_read-in-Time.result c.in-Time.is (λ plan s. refl) c.has_read-in-Time.ensures
    holds c.copy_of-in-Time.ensures.value (λ k. (k.0, k.1, k.2, k.3, refl)) c.requires.within.0 below
    c.requires.room

pub returns-in-Check : goal.returns-in-Check
unfolding is_gathering
returns-in-Check c =
    let below = c.requires.within.1 (ap is_gathering c.in-Check.is) in
    subst (λ p. Leaves c.args.at p c.args.gather c.args.bank.now c.args.bank.now c.args.slot.now c.check.new.slot
    c.args.got.now c.check.result.0 c.check.result.1) (sym c.in-Check.is)
    (c.check.ensures c.args.gather c.requires.within.0 below)

pub returns-in-Invalidate : goal.returns-in-Invalidate
returns-in-Invalidate c =
    leaves_at c.args.at Invalidate c.args.gather c.args.bank.now c.invalidate.new.bank c.args.slot.now c.args.got.now
    c.invalidate.result.0 c.invalidate.result.1 c.in-Invalidate.is c.requires.room
    (c.invalidate.ensures c.args.got.now)
