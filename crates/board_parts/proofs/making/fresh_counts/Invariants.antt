-- The counts so far.
use Rattle.std.proofs.Common.{◌≡◌, map}
use Rattle.std.specs.List.{range_with_len}
use Rattle.board_plan.specs.State.{no_counts}
use Rattle.board_parts.proofs.making.fresh_counts.Given as goal

abbrev pub invariant-loop-hart : goal.invariant-loop-hart
invariant-loop-hart l = l.counts ≡ map (λ _. no_counts) (range_with_len 0 l.hart)
