-- What the loop of `begin` keeps.
use Rattle.std.proofs.Common.{◌≡◌, ◌+◌, ◌≤◌, length}
use Rattle.ras_text.specs.Pieces.{lines}
use Rattle.board_plan.specs.Script.{begin}
use Rattle.board_script.proofs.reading.begin.Given as goal

abbrev pub invariant-loop-rest : goal.invariant-loop-rest
invariant-loop-rest l = record {
  goes_on : begin 1 (lines l.fn.text) ≡ begin l.line (lines l.rest);
  short : l.line + length l.rest ≤ 1 + length l.fn.text;
}

abbrev pub decreases-loop-rest : goal.decreases-loop-rest
decreases-loop-rest l = length l.rest
