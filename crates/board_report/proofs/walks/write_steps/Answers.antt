-- One step more.
use Rattle.std.proofs.Common.{◌+◌, ◌∙◌, arith}
use Rattle.std.proofs.lemmas.Option.{slice_get-get_or}
use Rattle.board_report.proofs.OneMore.{grows-more, steps-next}
use Rattle.board_report.proofs.walks.write_steps.Goals as goal

pub loop-i-preserved : goal.loop-i-preserved
loop-i-preserved g c =
    record {
      empty = c.write_step.ensures.empty;
      wrote = grows-more _ _ _ _ _ _
          (steps-next 1 c.loop-i.i (c.loop-i.i + 1) c.args.steps.now c.args.notes.now _ _ (omega arith)
          (slice_get-get_or c.args.steps.now c.loop-i.i _ (omega arith))
          (slice_get-get_or c.args.notes.now c.loop-i.i _ (omega (arith, c.requires.notes))))
          c.loop-i.invariant.wrote c.write_step.ensures.wrote;
      same_pages = c.write_step.ensures.same_pages ∙ c.loop-i.invariant.same_pages;
    }
