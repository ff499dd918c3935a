-- An Invalidate clears the record where it is still claimed.
use Rattle.std.proofs.Common.{◌∙◌}
use Rattle.reri_bank.proofs.Stands.{get_there}
use Rattle.ras_drain.proofs.Held.{cleared_told}
use Rattle.ras_drain.proofs.Phased.{invalidate_moves}
use Rattle.ras_drain.proofs.phases.invalidate.Goals as goal

pub returns : goal.returns
returns c =
    λ got.
    let at = get_there c.args.bank.now.copies c.args.at.rec c.requires.there in
    let told = c.eq-cleared.ensures ∙ cleared_told c.access.result c.args.bank.now.copies c.args.at.rec at.0 at.1
    c.access.ensures.there c.access.ensures.value in
    invalidate_moves c.args.at c.args.gather c.args.bank.now c.access.new.self got at.0 c.after_invalidate.result
    c.eq-cleared.result at.1 c.access.ensures.stands told c.after_invalidate.ensures.next
    (c.after_invalidate.ensures.within c.requires.few)
