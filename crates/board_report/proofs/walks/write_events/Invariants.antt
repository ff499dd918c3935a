-- After some instances their lines went out.
use Rattle.std.proofs.Common.{◌≡◌, [], map, take}
use Rattle.sse_base.specs.Events.{slots}
use Rattle.ras_text.specs.Lines.{text_of}
use Rattle.board_plan.specs.Text.{event_line}
use Rattle.board_report.specs.Writing.{Adds, SamePages}
use Rattle.board_report.proofs.walks.write_events.Given as goal

abbrev pub invariant-loop-i : goal.invariant-loop-i
invariant-loop-i g l = record {
  empty : text_of l.pages.line ≡ [];
  wrote : Adds g.K.Sink.written g.K.Sink.faults g.K.Sink.writes l.fn.pages l.pages (map event_line (take l.i
      (slots l.table)));
  same_pages : SamePages l.pages l.fn.pages;
}
