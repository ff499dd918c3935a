-- The ops so far stand at their addresses.
use Rattle.std.proofs.Common.{All, List}
use Rattle.board_plan.specs.declared.ops.Placed.{Placed}
use Rattle.board_ops.specs.Indexes.{Finds, IsThere}
use Rattle.board_ops.proofs.index.found.Given as goal

abbrev pub invariant-loop-placed : goal.invariant-loop-placed
invariant-loop-placed l = (all : List Placed) → Finds all l.tree → All (IsThere all) l.near.items
