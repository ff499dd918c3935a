-- What the loop of `write_events` keeps.
use Rattle.std.proofs.Common.{◌≡◌, [], map, drop}
use Rattle.ras_text.specs.Lines.{text_of, sink_of, SameSink}
use Rattle.board_plan.specs.Canonical.{lines_text, event_line}
use Rattle.script_write.proofs.Progress.{Progress}
use Rattle.script_write.proofs.writing.write_events.Given as goal

abbrev pub invariant-loop-event : goal.invariant-loop-event
invariant-loop-event g l = record {
  empty : text_of l.line ≡ [];
  progress : Progress (g.K.Sink.written (sink_of l.fn.line)) (g.K.Sink.written (sink_of l.line))
      (lines_text (map event_line l.events)) (lines_text (map event_line (drop l.event-index l.events)));
  faults : g.K.Sink.faults (sink_of l.line) ≡ g.K.Sink.faults (sink_of l.fn.line);
  same_sink : SameSink l.line l.fn.line;
}
