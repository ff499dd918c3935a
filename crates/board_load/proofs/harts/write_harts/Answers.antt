-- Goals of `write_harts` that the tactics leave open.
use Rattle.board_load.specs.Load.{hart_lines}
use Rattle.board_load.proofs.Lines.{text_none, text_more}
use Rattle.board_load.proofs.harts.write_harts.Goals as goal

pub loop-hart-init : goal.loop-hart-init
loop-hart-init c = text_none _ _

pub loop-hart-preserved : goal.loop-hart-preserved
loop-hart-preserved c =
    text_more hart_lines c.loop-hart.hart _ _ _ c.loop-hart.invariant c.in_ok-write_hart.ensures
