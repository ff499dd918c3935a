-- What the loop of `write_records` keeps.
use Rattle.std.proofs.Common.{◌≡◌, [], map, drop}
use Rattle.ras_text.specs.Lines.{text_of, sink_of, SameSink}
use Rattle.board_plan.specs.Canonical.{lines_text, record_line}
use Rattle.script_write.proofs.Progress.{Progress}
use Rattle.script_write.proofs.writing.write_records.Given as goal

abbrev pub invariant-loop-rec : goal.invariant-loop-rec
invariant-loop-rec g l = record {
  empty : text_of l.line ≡ [];
  progress : Progress (g.K.Sink.written (sink_of l.fn.line)) (g.K.Sink.written (sink_of l.line))
      (lines_text (map record_line l.recs)) (lines_text (map record_line (drop l.rec-index l.recs)));
  faults : g.K.Sink.faults (sink_of l.line) ≡ g.K.Sink.faults (sink_of l.fn.line);
  same_sink : SameSink l.line l.fn.line;
}
