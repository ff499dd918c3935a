-- The parts of a plan's board.
use Rattle.std.proofs.Common.{List, length, map, sym, ap, ◌∙◌, subst}
use Rattle.std.specs.List.{range_with_len}
use Rattle.board_plan.specs.declared.ops.Placed.{Placed}
use Rattle.board_plan.specs.declared.plan.Reporter.{Reporter}
use Rattle.board_plan.specs.declared.plan.Start.{Start}
use Rattle.board_plan.specs.State.{budget_of}
use Rattle.board_ops.specs.Indexes.{Indexes}
use Rattle.board_parts.proofs.MadeOf.{fresh_are}
use Rattle.board_parts.proofs.Quiet.{fresh_are_quiet}
use Rattle.board_parts.proofs.parts.Parts.new.Goals as goal

pub returns : goal.returns
returns c =
    let plan = c.args.plan.now in
    record {
      shows = record {
        machine = c.in_ok-firmware.ensures;
        index = subst (λ (ops : List Placed). Indexes ops c.in_ok-index.index) c.as_slice.ensures c.in_ok-index.ensures;
        decls = c.into_vec.ensures ∙ c.in_ok-decls.ensures;
        banks = c.in_ok-banks.ensures;
        budgets_are = c.in_ok-budgets.ensures
            ∙ ap (λ (ss : List Start). map (λ h. budget_of h ss) (range_with_len 0 plan.harts)) c.as_slice-3.ensures;
        counts = c.in_ok-counts.ensures;
        limits_are = c.in_ok-limits.ensures
            ∙ ap (map (λ (r : Reporter). r.limit)) c.as_slice-reporters.ensures;
        reporters = c.in_ok-progress.ensures
            ∙ fresh_are plan.reporters (length c.as_slice-reporters.result.now)
            (ap (λ (rs : List Reporter). length rs) (sym c.as_slice-reporters.ensures));
      };
    }

pub invariant_of-result-clause-quiet : goal.invariant_of-result-clause-quiet
invariant_of-result-clause-quiet c =
    λ silent. fresh_are_quiet c.args.plan.now c.in_ok-banks.banks.items c.in_ok-banks.ensures
