-- One handler more, and all of them.
use Rattle.std.proofs.Common.{◌+◌, refl, ◌∙◌, arith}
use Rattle.sse_base.specs.Machine.{stack_of}
use Rattle.hart_ctx.specs.Running.{running_in}
use Rattle.board_report.proofs.Growing.{grows-nil}
use Rattle.board_report.proofs.OneMore.{grows-more, grows-same, told-next, told-all}
use Rattle.board_report.proofs.walks.write_frames.Goals as goal

pub loop-k-init : goal.loop-k-init
loop-k-init g c = record { empty = c.requires.empty; wrote = grows-nil _; same_pages = refl }

pub loop-k-preserved : goal.loop-k-preserved
loop-k-preserved g c =
    let s = stack_of c.args.hart c.args.firmware.now in
    record {
      empty = c.write_frame.ensures.empty;
      wrote = grows-more _ _ _ _ _ _ (told-next c.args.hart 1 c.loop-k.k (c.loop-k.k + 1)
          (running_in s.frames s.base) c.running-at.result
          (omega arith) c.running-at.ensures) c.loop-k.invariant.wrote c.write_frame.ensures.wrote;
      same_pages = c.write_frame.ensures.same_pages ∙ c.loop-k.invariant.same_pages;
    }

pub returns-clause-wrote : goal.returns-clause-wrote
returns-clause-wrote g c =
    let s = stack_of c.args.hart c.args.firmware.now in
    grows-same _ _ _ _ (told-all c.args.hart c.loop-k.k s.frames s.base (omega
    (arith, c.depth-k-end.ensures.depth))) c.loop-k.invariant.wrote
