-- What the loop of `write_acts` keeps.
use Rattle.std.proofs.Common.{◌≡◌, [], map, drop}
use Rattle.ras_text.specs.Lines.{text_of, sink_of, SameSink}
use Rattle.board_plan.specs.Canonical.{lines_text, act_line}
use Rattle.script_write.proofs.Progress.{Progress}
use Rattle.script_write.proofs.writing.write_acts.Given as goal

abbrev pub invariant-loop-act : goal.invariant-loop-act
invariant-loop-act g l = record {
  empty : text_of l.line ≡ [];
  progress : Progress (g.K.Sink.written (sink_of l.fn.line)) (g.K.Sink.written (sink_of l.line))
      (lines_text (map (act_line l.reporter) l.acts))
      (lines_text (map (act_line l.reporter) (drop l.act-index l.acts)));
  faults : g.K.Sink.faults (sink_of l.line) ≡ g.K.Sink.faults (sink_of l.fn.line);
  same_sink : SameSink l.line l.fn.line;
}
