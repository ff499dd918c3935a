-- Goals of `new` that the tactics leave open.
use Rattle.sbi_sse.proofs.Fresh.{fresh_kept, fresh_serves}
use Rattle.sbi_sse.proofs.firmware.Firmware.new.Goals as goal

pub invariant_of-result : goal.invariant_of-result
invariant_of-result c =
    rw (c.in_ok-table.ensures, c.new-2.ensures, c.in-Ok.ensures)
    (record {
      kept = fresh_kept c.args.harts c.args.events.now c.args.starts.now c.requires.events c.requires.distinct
          c.requires.starts;
      serves = fresh_serves c.args.harts c.args.events.now c.requires.events c.requires.distinct;
    })
