-- The drain among the parts is that of the state.
use Rattle.std.proofs.Common.{ap, ◌∙◌, ◌≡◌, slice_get, Some, subst}
use Rattle.std.specs.Option.{option_map}
use Rattle.reri_fields.specs.Drain.{Draining}
use Rattle.reri_bank.proofs.Stands.{get_there}
use Rattle.board_parts.specs.declared.parts.Parts.{Parts}
use Rattle.board_core.proofs.Onward.{bank_stands}
use Rattle.board_core.proofs.brief.Brief.drain.Goals as goal

pub returns : goal.returns
returns c =
    λ x there.
    let d = get_there c.args.self.now.plan.banks c.args.bank c.requires in
    let stands = bank_stands c.self.inside c.args.self.now c.args.bank c.bank.result.now c.self.view_is
    c.self.invariant
    (subst (λ (p : Parts). slice_get p.banks.items c.args.bank ≡ Some c.bank.result.now) c.parts.ensures c.bank.ensures) d.0 x d.1 there in
    c.phase.ensures ∙ ap (option_map (λ (d : Draining). (d.phase, d.rec))) (c.drain.ensures ∙ stands.drain_is)
