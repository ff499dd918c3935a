-- What the loop of `put_entries` keeps.
use Rattle.std.proofs.Common.{◌≡◌, ◌+◌, ◌*◌, ◌≤◌, ◌++◌, map, length, take}
use Rattle.ras_text.specs.Lines.{text_of, sink_of, SameSink}
use Rattle.board_plan.specs.Notes.{after_spaces}
use Rattle.board_plan.specs.Canonical.{step_word}
use Rattle.script_write.proofs.statement.put_entries.Given as goal

abbrev pub invariant-loop-step : goal.invariant-loop-step
invariant-loop-step g l = record {
  text : text_of l.line ≡ text_of l.fn.line ++ after_spaces (map step_word (take l.step-index l.steps));
  room : length (text_of l.line) ≤ length (text_of l.fn.line) + 22 * l.step-index;
  sink : sink_of l.line ≡ sink_of l.fn.line;
  same_sink : SameSink l.line l.fn.line;
}
