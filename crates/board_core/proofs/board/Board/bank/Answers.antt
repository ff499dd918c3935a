-- The bank is that of the board without notes.
use Rattle.std.proofs.Common.{◌≡◌, Some, slice_get, subst}
use Rattle.reri_fields.specs.Banks.{BankStands}
use Rattle.reri_fields.specs.Drain.{BankState}
use Rattle.board_plan.specs.declared.plan.BankDecl.{BankDecl}
use Rattle.board_plan.specs.State.{bank_plan}
use Rattle.board_core.specs.Played.{Played, state_of}
use Rattle.board_core.proofs.board.Board.bank.Goals as goal

pub returns : goal.returns
returns c =
    subst (λ (b : Played). (d : BankDecl) (x : BankState) → slice_get b.plan.banks c.args.bank ≡ Some d
    → slice_get (state_of b).banks c.args.bank ≡ Some x
    → BankStands (bank_plan c.args.bank d b.plan.recs).origins x.history c.bank.result.now) c.self.view_is
    c.bank.ensures
