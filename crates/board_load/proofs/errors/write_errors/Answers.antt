-- Goals of `write_errors` that the tactics leave open.
use Rattle.board_load.specs.Load.{reporter_lines, state_after}
use Rattle.board_load.proofs.Lines.{text_none, text_more}
use Rattle.board_load.proofs.errors.write_errors.Goals as goal

pub loop-reporter-init : goal.loop-reporter-init
unfolding state_after
loop-reporter-init c = record { text = text_none _ _; drawn = c.new-draws.ensures }

pub loop-reporter-preserved : goal.loop-reporter-preserved
loop-reporter-preserved c =
    record {
      text = text_more (reporter_lines c.args.n) c.loop-reporter.reporter _ _ _ c.loop-reporter.invariant.text
          c.in_ok-write_reporter.ensures.text;
      drawn = c.in_ok-write_reporter.ensures.drawn;
    }
