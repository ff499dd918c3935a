-- Goals of `unmask` that the tactics leave open.
use Rattle.std.proofs.Common.{rules, arith}
use Rattle.std.proofs.lemmas.Grind.{common_steps}
use Rattle.sbi_sse.proofs.Places.{stays}
use Rattle.sbi_sse.proofs.firmware.Firmware.unmask.Goals as goal

pub returns : goal.returns
returns c =
    record {
      code_is = search rules;
      written = search rules;
      next = grind (arith, common_steps, stays c.self.inside.stacks.items c.args.hart);
      refused = search rules;
      harts = search rules;
      instances = search rules;
    }
