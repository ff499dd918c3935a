-- What the loop of `value_of_few` keeps.
use Rattle.std.proofs.Common.{◌≡◌, ◌^◌, ◌<◌, drop}
use Rattle.ras_text.proofs.Values.{onto}
use Rattle.ras_text.proofs.numbers.value_of_few.Given as goal

abbrev pub invariant-loop-byte : goal.invariant-loop-byte
invariant-loop-byte l = record {
  few : l.value < 10 ^ l.byte-index;
  same : onto 10 0 l.digits ≡ onto 10 l.value (drop l.byte-index l.digits);
}
