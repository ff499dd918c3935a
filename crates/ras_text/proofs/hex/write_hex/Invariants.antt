-- What the loop of `write_hex` keeps.
use Rattle.std.proofs.Common.{◌≡◌, ◌+◌, ◌≤◌, ◌++◌, length, take, drop, false}
use Rattle.std.specs.Fmt.{digits}
use Rattle.ras_text.proofs.hex.write_hex.Given as goal

abbrev pub invariant-loop-left : goal.invariant-loop-left
invariant-loop-left l = record {
  room : length (digits 16 false l.left) ≤ l.at;
  within : l.at ≤ l.end;
  start : l.at + length (digits 16 false l.n) ≡ l.end + length (digits 16 false l.left);
  digits : digits 16 false l.left ++ drop l.at l.buf ≡ digits 16 false l.n ++ drop l.end l.fn.buf;
  before : take l.at l.buf ≡ take l.at l.fn.buf;
}

abbrev pub decreases-loop-left : goal.decreases-loop-left
decreases-loop-left l = l.left
