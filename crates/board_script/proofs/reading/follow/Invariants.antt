-- What the loop of `follow` keeps.
use Rattle.std.proofs.Common.{◌≡◌, ◌+◌, ◌≤◌, length}
use Rattle.ras_text.specs.Pieces.{lines}
use Rattle.board_plan.specs.Script.{follow}
use Rattle.board_script.proofs.reading.follow.Given as goal

abbrev pub invariant-loop-rest : goal.invariant-loop-rest
invariant-loop-rest l = record {
  goes_on : follow l.fn.begun.line l.fn.begun.half (lines l.fn.begun.rest.now) ≡ follow l.line l.half (lines l.rest);
  short : l.line + length l.rest ≤ l.fn.begun.line + length l.fn.begun.rest.now;
}

abbrev pub decreases-loop-rest : goal.decreases-loop-rest
decreases-loop-rest l = length l.rest
