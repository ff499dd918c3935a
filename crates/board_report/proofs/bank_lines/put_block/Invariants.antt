-- What the loop of `put_block` keeps.
use Rattle.std.proofs.Common.{◌≡◌, ◌+◌, ◌*◌, ◌≤◌, ◌++◌, ◌∷◌, codes, decimal, length, take}
use Rattle.std.specs.List.{flat_map}
use Rattle.ras_text.specs.Lines.{text_of, sink_of, SameSink}
use Rattle.board_plan.specs.Text.{byte_text}
use Rattle.board_report.proofs.bank_lines.put_block.Given as goal

abbrev pub invariant-loop-byte : goal.invariant-loop-byte
invariant-loop-byte g l = record {
  text : text_of l.line ≡ codes "block " ++ decimal l.bank ++ 32 ∷ flat_map byte_text (take l.byte-index l.bytes);
  room : length (text_of l.line) ≤ 28 + 2 * l.byte-index;
  sink : sink_of l.line ≡ sink_of l.fn.line;
  same_sink : SameSink l.line l.fn.line;
}
