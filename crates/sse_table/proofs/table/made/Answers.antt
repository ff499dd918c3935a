-- Goals of `made` that the tactics leave open.
use Rattle.std.proofs.Common.{◌≤◌, length, arith}
use Rattle.std.proofs.lemmas.List.{length-replicate}
use Rattle.sse_table.proofs.Orders.{few_on_board, few_instances, as_many_events, order_length}
use Rattle.sse_table.proofs.table.made.Goals as goal

pub overflow_cast-len : goal.overflow_cast-len
overflow_cast-len c =
    let few : length c.in_ok-instances.instances.items ≤ 256 =
    few_on_board c.args.harts c.args.events.now c.in_ok-ordered.ordered.items c.in_ok-instances.instances.items
    c.requires.harts c.requires.events c.in_ok-ordered.ensures (rw (← c.deref.ensures.value) c.in_ok-instances.ensures)
    in omega arith

pub new-marks-requires : goal.new-marks-requires
new-marks-requires c =
    let few : length c.in_ok-instances.instances.items ≤ 256 =
    few_on_board c.args.harts c.args.events.now c.in_ok-ordered.ordered.items c.in_ok-instances.instances.items
    c.requires.harts c.requires.events c.in_ok-ordered.ensures (rw (← c.deref.ensures.value) c.in_ok-instances.ensures)
    in omega arith

pub invariant_of-result : goal.invariant_of-result
invariant_of-result c = (
  grind (arith, as_many_events c.args.harts c.in_ok-ordered.ordered.items),
  grind (arith, length-replicate),
  grind (arith, few_instances c.args.harts c.in_ok-ordered.ordered.items, order_length c.args.events.now),
)

pub new-requires : goal.new-requires
new-requires c =
    let few : length c.in_ok-instances.instances.items ≤ 256 =
    few_on_board c.args.harts c.args.events.now c.in_ok-ordered.ordered.items c.in_ok-instances.instances.items
    c.requires.harts c.requires.events c.in_ok-ordered.ensures (rw (← c.deref.ensures.value) c.in_ok-instances.ensures)
    in omega arith
