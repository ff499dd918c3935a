-- The places so far.
use Rattle.std.proofs.Common.{◌≡◌, map}
use Rattle.std.specs.List.{range_with_len}
use Rattle.board_plan.specs.State.{start_of}
use Rattle.board_parts.proofs.making.places.Given as goal

abbrev pub invariant-loop-hart : goal.invariant-loop-hart
invariant-loop-hart l = l.places ≡ map (λ h. start_of h l.starts) (range_with_len 0 l.hart)
