-- Goals of `write_records` that the tactics leave open.
use Rattle.board_load.specs.Load.{bank_lines, bank_lines}
use Rattle.board_load.proofs.Lines.{text_none, text_more}
use Rattle.board_load.proofs.board.write_records.Goals as goal

pub loop-bank-init : goal.loop-bank-init
loop-bank-init c = text_none _ _

pub loop-bank-preserved : goal.loop-bank-preserved
loop-bank-preserved c =
    text_more (bank_lines c.args.n) c.loop-bank.bank _ _ _ c.loop-bank.invariant c.in_ok-write_bank.ensures
