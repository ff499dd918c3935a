-- A bank more.
use Rattle.std.proofs.Common.{◌<◌, None, false, length, get_or, refl, ◌∙◌, arith}
use Rattle.std.proofs.lemmas.List.{length-set}
use Rattle.std.proofs.lemmas.Option.{slice_get-get_or}
use Rattle.board_plan.specs.declared.plan.BankDecl.{BankDecl}
use Rattle.board_parts.specs.Homes.{span_of}
use Rattle.board_parts.proofs.Spanned.{first_kept, first_low, no_spans, spans_more}
use Rattle.board_parts.proofs.homes.spans.Goals as goal

abbrev no_bank : BankDecl
no_bank = record { home = 0; global = false; recs = 0; plat = None; gather = 0 }

pub loop-at-init : goal.loop-at-init
loop-at-init c = record { many = refl; stand = no_spans c.args.decls.now 256 }

pub loop-at-preserved : goal.loop-at-preserved
loop-at-preserved c =
    let decls = c.args.decls.now in
    let at = c.loop-at.at in
    let bank = get_or decls at no_bank in
    let old = span_of c.loop-at.spans bank.home in
    let so_far = c.loop-at.invariant.stand in
    let room : bank.home < length c.loop-at.spans = omega (
      arith,
      c.loop-at.invariant.many,
      c.loop-at-test.element_fits.fits,
    ) in
    record {
      many = length-set c.loop-at.spans bank.home c.up_to.result ∙ c.loop-at.invariant.many;
      stand = spans_more decls c.loop-at.spans at bank c.up_to.result room
          (slice_get-get_or decls at no_bank c.loop-at-test.true) so_far c.up_to.ensures.end
          (first_low old c.up_to.result.first at c.up_to.ensures.first (so_far.ordered bank.home)
          (so_far.within bank.home))
          (first_kept old c.up_to.result.first at c.up_to.ensures.first);
    }
