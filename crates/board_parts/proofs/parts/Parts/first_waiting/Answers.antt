-- The first that was found, or else this one.
use Rattle.std.proofs.Common.{sym, ◌∙◌}
use Rattle.board_parts.proofs.Searching.{waits_still, waits_here, waits_no_more}
use Rattle.board_parts.proofs.parts.Parts.first_waiting.Goals as goal

pub returns-then-is_some-clause-which : goal.returns-then-is_some-clause-which
returns-then-is_some-clause-which c =
    λ plan s h before.
    waits_still c.args.hart plan s.banks c.args.at c.args.before before (sym c.is_some.ensures ∙ c.if-is_some.true)

pub returns-then-not-is_waiting-clause-which : goal.returns-then-not-is_waiting-clause-which
returns-then-not-is_waiting-clause-which c =
    λ plan s h before.
    waits_no_more c.args.hart plan s.banks c.args.at c.args.before before (sym c.is_some.ensures ∙ c.if-is_some.false)
    (c.is_waiting.ensures plan s h ∙ c.if-not-is_waiting.true)

pub returns-clause-which : goal.returns-clause-which
returns-clause-which c =
    λ plan s h before.
    waits_here c.args.hart plan s.banks c.args.at c.args.before before (sym c.is_some.ensures ∙ c.if-is_some.false)
    (c.is_waiting.ensures plan s h ∙ c.if-not-is_waiting.false)
