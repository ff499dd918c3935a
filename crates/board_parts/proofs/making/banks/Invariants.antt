-- The banks so far.
use Rattle.std.proofs.Common.{◌≡◌, length}
use Rattle.board_parts.proofs.MadeOf.{AreMade}
use Rattle.board_parts.proofs.making.banks.Given as goal

abbrev pub invariant-loop-at : goal.invariant-loop-at
invariant-loop-at l = record { there : length l.banks ≡ l.at; made : AreMade l.plan l.banks }
