-- Each entry is read once, from the first to the last.
use Rattle.std.proofs.Common.{arith}
use Rattle.ghes_block.proofs.Registers.{next_read, last_read}
use Rattle.ghes_block.proofs.reading.read_entries.Goals as goal

pub loop-i-preserved : goal.loop-i-preserved
loop-i-preserved c = (
  omega (arith, c.push.ensures.len, c.loop-i.invariant.0),
  next_read c.args.count c.loop-i.i c.args.bytes.now _ c.loop-i.copies.items c.push.new.self.items c.read_entry.result
      (omega arith)
      c.loop-i.invariant.1 c.read_entry.ensures c.push.ensures.items,
)

pub returns : goal.returns
returns c =
    last_read c.args.count c.loop-i.i c.args.bytes.now _ c.loop-i.copies.items (omega arith) c.loop-i.invariant.1
