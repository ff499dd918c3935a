-- What the loop of `put_next_hexes` keeps.
use Rattle.std.proofs.Common.{◌≡◌, ◌+◌, ◌*◌, ◌≤◌, ◌++◌, map, length, take}
use Rattle.ras_text.specs.Numbers.{hexadecimal}
use Rattle.ras_text.specs.Lines.{text_of, sink_of, SameSink}
use Rattle.board_plan.specs.Notes.{after_spaces}
use Rattle.board_plan.proofs.next_words.put_next_hexes.Given as goal

abbrev pub invariant-loop-number : goal.invariant-loop-number
invariant-loop-number g l = record {
  text : text_of l.line ≡ text_of l.fn.line ++ after_spaces (map hexadecimal (take l.number-index l.numbers));
  room : length (text_of l.line) ≤ length (text_of l.fn.line) + 19 * l.number-index;
  sink : sink_of l.line ≡ sink_of l.fn.line;
  same_sink : SameSink l.line l.fn.line;
}
