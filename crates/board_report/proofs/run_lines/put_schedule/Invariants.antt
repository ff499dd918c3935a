-- What the loop of `put_schedule` keeps.
use Rattle.std.proofs.Common.{◌≡◌, ◌+◌, ◌*◌, ◌≤◌, ◌++◌, codes, length, take}
use Rattle.std.specs.List.{flat_map}
use Rattle.ras_text.specs.Lines.{text_of, sink_of, SameSink}
use Rattle.board_plan.specs.Text.{entry_text}
use Rattle.board_report.proofs.run_lines.put_schedule.Given as goal

abbrev pub invariant-loop-entry : goal.invariant-loop-entry
invariant-loop-entry g l = record {
  text : text_of l.line ≡ codes "schedule" ++ flat_map entry_text (take l.entry-index l.entries);
  room : length (text_of l.line) ≤ 8 + 22 * l.entry-index;
  sink : sink_of l.line ≡ sink_of l.fn.line;
  same_sink : SameSink l.line l.fn.line;
}
