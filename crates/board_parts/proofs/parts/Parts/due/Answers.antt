-- Until a bank has heard of an error nothing is due.
use Rattle.board_parts.proofs.Quiet.{nothing_due}
use Rattle.board_parts.proofs.parts.Parts.due.Goals as goal

pub returns-then-not-self-clause-which : goal.returns-then-not-self-clause-which
returns-then-not-self-clause-which c =
    λ plan s h.
    nothing_due plan s c.args.self.now c.args.hart h (c.args.self.now.quiet c.if-not-self.true)
