-- The banks so far stand in their spans.
use Rattle.std.proofs.Common.{◌≡◌, length}
use Rattle.board_parts.specs.Homes.{Spans}
use Rattle.board_parts.proofs.homes.spans.Given as goal

abbrev pub invariant-loop-at : goal.invariant-loop-at
invariant-loop-at l = record { many : length l.spans ≡ 256; stand : Spans l.at l.decls l.spans }
