-- What stands at an instance's place.
use Rattle.std.proofs.Common.{arith}
use Rattle.sse_base.specs.Ids.{place}
use Rattle.sse_base.proofs.Instances.{at_its_place}
use Rattle.sse_table.proofs.Slots.{slot_at}
use Rattle.sse_table.proofs.table.Table.slot_of.Goals as goal

pub returns-clause-slot : goal.returns-clause-slot
returns-clause-slot c = grind (
  arith,
  at_its_place c.args.at c.self.inside.instances c.args.at,
  slot_at c.self.inside.instances c.self.inside.each.items c.self.inside.marks
      (place c.args.at c.self.inside.instances) c.args.at c.index.result.now c.test.result,
)
