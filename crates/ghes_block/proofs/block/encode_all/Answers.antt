-- Each entry is put behind those before it.
use Rattle.std.proofs.Common.{rules, arith, ◌∙◌}
use Rattle.ghes_block.proofs.Entries.{next_put, rest_put}
use Rattle.ghes_block.proofs.block.encode_all.Goals as goal

pub loop-copy-preserved : goal.loop-copy-preserved
loop-copy-preserved c = (
  omega (arith, c.loop-copy.invariant.0),
  next_put c.args.copies.now c.loop-copy.copy-index c.loop-copy.place _ c.entry.result c.loop-copy.out
      c.put_within-in-loop-copy.new.out (omega arith) (search rules) c.entry.ensures c.loop-copy.invariant.1
      c.put_within-in-loop-copy.ensures.front,
  rest_put c.loop-copy.place _ c.entry.result c.args.out.now c.loop-copy.out c.put_within-in-loop-copy.new.out
      c.entry.ensures c.loop-copy.invariant.2 c.put_within-in-loop-copy.ensures.rest,
  c.put_within-in-loop-copy.ensures.length ∙ c.loop-copy.invariant.3,
)
