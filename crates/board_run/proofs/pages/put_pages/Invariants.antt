-- After some pages their lines went out.
use Rattle.std.proofs.Common.{◌≡◌, [], map, take, Ok}
use Rattle.ras_text.specs.Lines.{text_of, SameSink}
use Rattle.board_report.specs.Writing.{Wrote}
use Rattle.board_run.specs.Retired.{page_line}
use Rattle.board_run.specs.Parts.{state_of}
use Rattle.board_run.proofs.pages.put_pages.Given as goal

abbrev pub invariant-loop-page : goal.invariant-loop-page
invariant-loop-page g l = record {
  empty : text_of l.line ≡ [];
  wrote : Wrote (state_of g.K.Sink.written g.K.Sink.faults g.K.Sink.writes l.fn.line (Ok tt)) (state_of g.K.Sink.written
      g.K.Sink.faults g.K.Sink.writes l.line (Ok tt)) (map page_line (take l.page-index l.pages));
  same_sink : SameSink l.line l.fn.line;
}
