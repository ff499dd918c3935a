-- After some lines of a schedule these went out.
use Rattle.std.proofs.Common.{◌≡◌, [], map}
use Rattle.std.specs.List.{range_with_len}
use Rattle.ras_text.specs.Lines.{text_of}
use Rattle.board_plan.specs.Text.{schedule_line, entries_of_line}
use Rattle.board_report.specs.Writing.{Adds, SamePages}
use Rattle.board_report.proofs.walks.write_schedule.Given as goal

abbrev pub invariant-loop-k : goal.invariant-loop-k
invariant-loop-k g l = record {
  empty : text_of l.pages.line ≡ [];
  wrote : Adds g.K.Sink.written g.K.Sink.faults g.K.Sink.writes l.fn.pages l.pages (map (λ k. schedule_line
      (entries_of_line l.steps k)) (range_with_len 0 l.k));
  same_pages : SamePages l.pages l.fn.pages;
}
