-- A hart drains within its span, and a drain under way comes first.
use Rattle.std.proofs.Common.{◌≡◌, ◌+◌, ◌-◌, false, length, slice_get, sym, ap, ◌∙◌, inl, inr, arith, below_more}
use Rattle.std.proofs.lemmas.Bool.{cases_lt}
use Rattle.board_plan.specs.Step.{passes, is_draining}
use Rattle.board_parts.specs.Homes.{span_of}
use Rattle.board_parts.specs.Walked.{waits_below}
use Rattle.board_parts.proofs.Homeless.{before_first, behind_last, drains_not, waits_not}
use Rattle.board_parts.proofs.Searching.{due_drains, due_waits, first_is, nowhere, waits_none, waits_on, waits_first}
use Rattle.board_parts.proofs.parts.Parts.first_due.Goals as goal

pub loop-at-init : goal.loop-at-init
loop-at-init c =
    let p = c.args.self.now in
    let h = c.args.hart in
    record {
      none = λ plan s shows k low. drains_not plan s p h k shows (before_first p h k low);
      first = λ plan s shows.
          waits_none h plan s.banks (span_of p.homes h).first
          (λ k low. waits_not plan s p h k shows (before_first p h k low));
      there = tt;
    }

pub loop-at-preserved : goal.loop-at-preserved
loop-at-preserved c =
    record {
      none = λ plan s h.
          below_more (λ k. passes (is_draining c.args.hart plan k) (slice_get plan.banks k) (slice_get s.banks k)
          ≡ false) c.loop-at.at (c.loop-at.invariant.none plan s h)
          (c.is_draining.ensures plan s h ∙ c.if-is_draining.false);
      first = λ plan s h. c.first_waiting-waiting.ensures.which plan s h (c.loop-at.invariant.first plan s h);
      there = c.first_waiting-waiting.ensures.there;
    }

pub returns-then-is_draining-clause-which : goal.returns-then-is_draining-clause-which
returns-then-is_draining-clause-which c =
    λ plan s h.
    let banks = c.args.self.now.banks in
    due_drains c.args.hart plan s.banks c.loop-at.at
    (first_is (is_draining c.args.hart plan) plan s.banks (length banks.items) c.loop-at.at (sym h.banks.there)
    (omega (arith, c.loop-at-test.true, c.args.self.now.homed.within c.args.hart, c.args.self.now.declared))
    (c.is_draining.ensures plan s h ∙ c.if-is_draining.true)
    (λ k low. c.loop-at.invariant.none plan s h k low))

pub returns-clause-which : goal.returns-clause-which
returns-clause-which c =
    λ plan s h.
    let p = c.args.self.now in
    let hart = c.args.hart in
    let at = c.loop-at.at in
    let many = length p.banks.items in
    let room : at + (many - at) ≡ many = omega (
      arith,
      c.loop-at.auto.at-end,
      p.homed.within hart,
      p.homed.ordered hart,
      p.declared,
    ) in
    due_waits hart plan s.banks c.loop-at.waiting
    (nowhere (is_draining hart plan) plan s.banks many (sym h.banks.there)
    (λ k low.
    elim (cases_lt k at) as (λ _. passes (is_draining hart plan k) (slice_get plan.banks k) (slice_get s.banks k) ≡ false) [
      | inl before ↦ c.loop-at.invariant.none plan s h k before
      | inr behind ↦ drains_not plan s p hart k h (behind_last p hart k (omega (arith, behind, c.loop-at-test.false)))
    ]))
    (waits_first hart plan s.banks many c.loop-at.waiting (sym h.banks.there)
    (ap (waits_below hart plan s.banks) (sym room)
    ∙ waits_on hart plan s.banks at (many - at) c.loop-at.waiting (c.loop-at.invariant.first plan s h)
    (λ k behind. waits_not plan s p hart k h (behind_last p hart k (omega (arith, behind, c.loop-at-test.false))))))
