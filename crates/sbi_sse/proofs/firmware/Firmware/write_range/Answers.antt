-- Goals of `write_range` that the tactics leave open.
use Rattle.std.proofs.Common.{◌≡◌, ◌∙◌, ◌<◌, length, ap, sym, subst, arith}
use Rattle.sse_base.specs.declared.codes.SbiCode.TheVariants.{Success}
use Rattle.sse_base.specs.Events.{IsOnBoard}
use Rattle.sbi_sse.specs.Kept.{Serves}
use Rattle.sbi_sse.proofs.Queues.{write_serves}
use Rattle.sse_base.specs.Machine.{Machine}
use Rattle.sbi_sse.proofs.Keeps.{writing_keeps}
use Rattle.sbi_sse.proofs.firmware.Firmware.write_range.Goals as goal
use Rattle.sbi_sse.proofs.firmware.Firmware.write_range.Goals.{in-Success, in_default}

pub invariant_of-self-2 : goal.invariant_of-self-2
invariant_of-self-2 c =
    let l : c.args.hart < length c.self.inside.stacks.items =
    omega (arith, ap (λ (m : Machine). m.events.harts) c.self.view_is, c.self.invariant.kept.harts)
    in record {
      kept =
          writing_keeps c.self.inside.table c.set_attrs_at.new.self c.self.inside.targets.masks
          c.self.inside.stacks.items c.args.hart c.args.range.base
          c.words_from-values.result.now c.index_mut-stack.result.now
          c.write_interrupted.new.self c.args.place.at c.self.invariant.kept l
          c.index_mut-stack.ensures.value c.write_interrupted.ensures c.set_attrs_at.ensures;
      serves =
          let ok : c.check_write_at-code.result ≡ Success =
          elim c.match-matches.branch [
            | in-Success w ↦ w.in-Success.is
            | in_default w ↦ grind (
              arith,
              w.matches-is,
            )
          ]
          in subst (Serves c.self.inside.targets) (sym c.set_attrs_at.ensures)
          (write_serves c.args.range.base c.words_from-values.result.now c.args.place.at
          c.has.result c.self.inside.targets c.self.inside.table
          (subst (λ (m : Machine). IsOnBoard c.args.place.at m.events) (sym c.self.view_is) c.requires.place.on_board)
          c.self.invariant.kept.each c.self.invariant.serves (sym c.check_write_at-code.ensures ∙ ok));
    }
