-- Goals of `set_pc` that the tactics leave open.
use Rattle.std.proofs.Common.{◌<◌, length, ap, ◌∙◌, arith}
use Rattle.sse_base.specs.Contexts.{Stack}
use Rattle.sse_base.specs.Machine.{Machine}
use Rattle.sbi_sse.specs.Kept.{ats}
use Rattle.sbi_sse.proofs.Keeps.{frames_keep}
use Rattle.sbi_sse.proofs.firmware.Firmware.set_pc.Goals as goal

pub invariant_of-self : goal.invariant_of-self
invariant_of-self c =
    let l : c.args.hart < length c.self.inside.stacks.items =
    omega (arith, ap (λ (m : Machine). m.events.harts) c.self.view_is, c.self.invariant.kept.harts)
    in record {
      kept =
          frames_keep c.self.inside.table c.self.inside.targets.masks c.self.inside.stacks.items c.args.hart
          c.index_mut-stack.result.now c.set_pc.new.self c.self.invariant.kept l
          (ap (λ (s : Stack). ats s.frames) c.set_pc.ensures
          ∙ ap (λ (s : Stack). ats s.frames) c.index_mut-stack.ensures.value);
      serves = c.self.invariant.serves;
    }
