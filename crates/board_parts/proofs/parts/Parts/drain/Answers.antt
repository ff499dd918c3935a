-- The drain of a bank takes its next phase.
use Rattle.std.proofs.Common.{length, set, refl, ap, ◌∙◌, arith}
use Rattle.std.proofs.lemmas.List.{set-get_or}
use Rattle.std.proofs.lemmas.Option.{slice_get_read, MatchOption-at_none, MatchOption-at_some}
use Rattle.reri_fields.specs.Drain.BankTry.{Drains}
use Rattle.reri_fields.specs.Drain.BankNote.{Drew}
use Rattle.board_plan.specs.State.{bank_plan}
use Rattle.board_plan.specs.Step.{at_bank}
use Rattle.board_parts.proofs.AtBanks.{bank_is, taken, not_taken, stays_idle}
use Rattle.board_parts.proofs.AtHarts.{with_machine}
use Rattle.board_parts.proofs.parts.Parts.drain.Goals as goal

pub returns-in_default-clause-takes : goal.returns-in_default-clause-takes
returns-in_default-clause-takes c =
    λ plan s h.
    let p = c.args.self.now in
    let at = c.args.bank in
    let d = c.index-decl.result.now in
    let b = c.index_mut.result.now in
    let decl = slice_get_read p.decls.items (length p.decls.items) at d refl (omega
    (arith, p.declared, c.requires)) c.index-decl.ensures in
    let here = slice_get_read p.banks.items (length p.banks.items) at b refl c.requires c.index_mut.ensures.value in
    let is = bank_is plan s p at b h here in
    let same = (MatchOption-at_none _ _ c.in_default.is (c.step.ensures
    (bank_plan at is.decl plan.recs) is.state is.stands)).1 in
    let none = not_taken plan s p at d b Drains h decl here
    (λ x stands. (MatchOption-at_none _ _ c.in_default.is (c.step.ensures (bank_plan at d plan.recs) x stands)).0) in
    stays_idle plan s _ (at_bank at Drains plan s.machine.events s.banks) none
    (with_machine plan s p _ s.machine h (record {
      index = refl;
      decls = refl;
      budgets = refl;
      counts = refl;
      limits
          = refl;
      reporters = refl;
    }) h.machine
    (ap (set p.banks.items at) (same ∙ c.index_mut.ensures.value) ∙ set-get_or p.banks.items at b))

pub returns-clause-takes : goal.returns-clause-takes
returns-clause-takes c =
    λ plan s h.
    let p = c.args.self.now in
    let at = c.args.bank in
    let d = c.index-decl.result.now in
    let b = c.index_mut.result.now in
    let decl = slice_get_read p.decls.items (length p.decls.items) at d refl (omega
    (arith, p.declared, c.requires)) c.index-decl.ensures in
    let here = slice_get_read p.banks.items (length p.banks.items) at b refl c.requires c.index_mut.ensures.value in
    taken plan s p _ at d b c.step.new.self Drains (Drew c.in-Some.rec c.in-Some.did) _ h decl here
    (λ x stands there. MatchOption-at_some _ _ (c.in-Some.rec, c.in-Some.did) c.in-Some.is (c.step.ensures
    (bank_plan at d plan.recs) x stands))
    (record { index = refl; decls = refl; budgets = refl; counts = refl; limits = refl; reporters = refl }) refl
    c.drawn.ensures.next
    (λ i. record { note = c.drawn.ensures.note i; published = c.drawn.ensures.published i })
