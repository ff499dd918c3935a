-- After some handlers of a hart their lines went out.
use Rattle.std.proofs.Common.{◌≡◌, [], take}
use Rattle.hart_ctx.specs.Running.{running_in}
use Rattle.sse_base.specs.Machine.{stack_of}
use Rattle.ras_text.specs.Lines.{text_of}
use Rattle.board_report.specs.Told.{told_lines}
use Rattle.board_report.specs.Writing.{Adds, SamePages}
use Rattle.board_report.proofs.walks.write_frames.Given as goal

abbrev pub invariant-loop-k : goal.invariant-loop-k
invariant-loop-k g l = record {
  empty : text_of l.pages.line ≡ [];
  wrote : Adds g.K.Sink.written g.K.Sink.faults g.K.Sink.writes l.fn.pages l.pages (told_lines l.hart 1 (take l.k
      (running_in (stack_of l.hart l.firmware).frames (stack_of l.hart l.firmware).base)));
  same_pages : SamePages l.pages l.fn.pages;
}
