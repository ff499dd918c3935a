-- What the loop of `put_next_decs` keeps.
use Rattle.std.proofs.Common.{◌≡◌, ◌+◌, ◌*◌, ◌≤◌, ◌++◌, map, length, take, decimal}
use Rattle.ras_text.specs.Lines.{text_of, sink_of, SameSink}
use Rattle.board_plan.specs.Notes.{after_spaces}
use Rattle.script_write.proofs.statement.put_next_decs.Given as goal

abbrev pub invariant-loop-number : goal.invariant-loop-number
invariant-loop-number g l = record {
  text : text_of l.line ≡ text_of l.fn.line ++ after_spaces (map decimal (take l.number-index l.numbers));
  room : length (text_of l.line) ≤ length (text_of l.fn.line) + 21 * l.number-index;
  sink : sink_of l.line ≡ sink_of l.fn.line;
  same_sink : SameSink l.line l.fn.line;
}
