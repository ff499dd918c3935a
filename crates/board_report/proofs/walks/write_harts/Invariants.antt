-- After some harts their lines went out.
use Rattle.std.proofs.Common.{◌≡◌, [], take}
use Rattle.ras_text.specs.Lines.{text_of}
use Rattle.board_plan.specs.Text.{hart_lines}
use Rattle.board_report.specs.Writing.{Adds, SamePages}
use Rattle.board_report.proofs.walks.write_harts.Given as goal

abbrev pub invariant-loop-hart : goal.invariant-loop-hart
invariant-loop-hart g l = record {
  empty : text_of l.pages.line ≡ [];
  wrote : Adds g.K.Sink.written g.K.Sink.faults g.K.Sink.writes l.fn.pages l.pages (hart_lines 0
      (take l.hart l.parts.counts.items) (take l.hart l.parts.firmware.masks) (take l.hart l.parts.firmware.stacks));
  same_pages : SamePages l.pages l.fn.pages;
}
