-- The ops so far are in the index.
use Rattle.std.proofs.Common.{take}
use Rattle.board_ops.specs.Indexes.{Finds}
use Rattle.board_ops.proofs.index.Tree.new.Given as goal

abbrev pub invariant-loop-placed : goal.invariant-loop-placed
invariant-loop-placed l = Finds (take l.placed-index l.ops) l.tree
