-- What the loop of `gather` keeps.
use Rattle.std.proofs.Common.{◌≡◌, ◌++◌, ◌≤◌, drop, slice_range}
use Rattle.ras_text.specs.Pieces.{words, after_newline}
use Rattle.board_script.specs.Reading.{texts, line_of}
use Rattle.board_script.proofs.Heads.{onward}
use Rattle.board_script.proofs.reading.gather.Given as goal

abbrev pub invariant-loop-i : goal.invariant-loop-i
invariant-loop-i l = record {
  begun : l.start ≤ l.i;
  said : texts l.into.items ++ onward (slice_range l.text l.start l.i) (drop l.i l.text) ≡ words (line_of l.text);
  behind : after_newline (drop l.i l.text) ≡ after_newline l.text;
}
