-- When an index of placed ops by their addresses is right. This project's own.
use Rattle.std.specs.Prelude.{◌≡◌, ℕ, List, All, Some}
use Rattle.std.specs.Ordering.{nat_cmp}
use Rattle.std.specs.BTreeMap.{get}
use Rattle.board_plan.specs.declared.ops.Placed.{Placed}
use Rattle.board_plan.specs.Ops.{op_at}
use Rattle.board_ops.specs.declared.index.OpIndex.{OpIndex}
use Rattle.board_ops.specs.declared.index.Tree.{Tree}

-- the tree has at each address the op that stands there
pub record Finds (ops : List Placed) (tree : Tree) : Type 0 where
  pub finds : (pc : ℕ) → get nat_cmp tree.by_pc pc ≡ op_at pc ops

-- an op is the one that stands at its address
abbrev pub IsThere : List Placed → Placed → Type 0
IsThere ops p = op_at p.pc ops ≡ Some p.op

-- it has at each address the op that stands there, and each op that is near stands at its address
pub record Indexes (ops : List Placed) (index : OpIndex) : Type 0 where
  pub finds : Finds ops index.tree
  pub near : All (IsThere ops) index.near.items
