-- What the loop of `value_of` keeps.
use Rattle.std.proofs.Common.{◌≡◌, drop}
use Rattle.ras_text.proofs.Values.{onto}
use Rattle.ras_text.proofs.numbers.value_of.Given as goal

abbrev pub invariant-loop-byte : goal.invariant-loop-byte
invariant-loop-byte l = onto l.base 0 l.digits ≡ onto l.base l.value (drop l.byte-index l.digits)
