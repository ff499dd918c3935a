-- What the loop of `write_banks` keeps.
use Rattle.std.proofs.Common.{◌≡◌, [], drop}
use Rattle.ras_text.specs.Lines.{text_of, sink_of, SameSink}
use Rattle.board_plan.specs.Canonical.{lines_text, bank_lines}
use Rattle.script_write.proofs.Progress.{Progress}
use Rattle.script_write.proofs.writing.write_banks.Given as goal

abbrev pub invariant-loop-n : goal.invariant-loop-n
invariant-loop-n g l = record {
  empty : text_of l.line ≡ [];
  progress : Progress (g.K.Sink.written (sink_of l.fn.line)) (g.K.Sink.written (sink_of l.line))
      (lines_text (bank_lines l.version 0 l.banks)) (lines_text (bank_lines l.version l.n (drop l.n l.banks)));
  faults : g.K.Sink.faults (sink_of l.line) ≡ g.K.Sink.faults (sink_of l.fn.line);
  same_sink : SameSink l.line l.fn.line;
}
