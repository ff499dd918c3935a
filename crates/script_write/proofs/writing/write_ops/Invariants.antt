-- What the loop of `write_ops` keeps.
use Rattle.std.proofs.Common.{◌≡◌, ◌+◌, [], drop}
use Rattle.ras_text.specs.Lines.{text_of, sink_of, SameSink}
use Rattle.board_plan.specs.Canonical.{lines_text, op_lines}
use Rattle.script_write.proofs.Progress.{Progress}
use Rattle.script_write.proofs.writing.write_ops.Given as goal

abbrev pub invariant-loop-placed : goal.invariant-loop-placed
invariant-loop-placed g l = record {
  empty : text_of l.line ≡ [];
  progress : Progress (g.K.Sink.written (sink_of l.fn.line)) (g.K.Sink.written (sink_of l.line))
      (lines_text (op_lines 0x1000 l.ops)) (lines_text (op_lines (l.previous + 4) (drop l.placed-index l.ops)));
  faults : g.K.Sink.faults (sink_of l.line) ≡ g.K.Sink.faults (sink_of l.fn.line);
  same_sink : SameSink l.line l.fn.line;
}
