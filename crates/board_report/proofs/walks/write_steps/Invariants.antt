-- After some steps their lines went out.
use Rattle.std.proofs.Common.{◌≡◌, [], take}
use Rattle.ras_text.specs.Lines.{text_of}
use Rattle.board_report.specs.Told.{told_steps}
use Rattle.board_report.specs.Writing.{Adds, SamePages}
use Rattle.board_report.proofs.walks.write_steps.Given as goal

abbrev pub invariant-loop-i : goal.invariant-loop-i
invariant-loop-i g l = record {
  empty : text_of l.pages.line ≡ [];
  wrote : Adds g.K.Sink.written g.K.Sink.faults g.K.Sink.writes l.fn.pages l.pages (told_steps 1 (take l.i l.steps)
      (take l.i l.notes));
  same_pages : SamePages l.pages l.fn.pages;
}
