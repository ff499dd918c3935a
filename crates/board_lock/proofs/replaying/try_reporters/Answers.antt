-- One reporter more.
use Rattle.std.proofs.Common.{Bool, ◌||◌, sym, ap, ◌∙◌}
use Rattle.board_plan.specs.declared.notes.Step.TheVariants.{Reporter}
use Rattle.board_lock.proofs.Trying.{went_more}
use Rattle.board_lock.proofs.replaying.try_reporters.Goals as goal
use Rattle.board_lock.proofs.replaying.try_reporters.Goals.{then-made, else-made}

pub loop-reporter-preserved : goal.loop-reporter-preserved
loop-reporter-preserved g c =
    let moved = c.try_as-moved.result in
    record {
      went = went_more _ _ _ _ _ _ Reporter c.loop-reporter.reporter c.loop-reporter.made moved c.if-made.made
          (elim c.if-made.branch [
            | then-made w ↦ ap (λ (b : Bool). b || moved) w.if-made.true ∙ sym w.if-made.true ∙ sym w.made-is
            | else-made w ↦ ap (λ (b : Bool). b || moved) w.if-made.false ∙ sym w.made-is
          ]) c.loop-reporter.invariant.went c.try_as-moved.ensures;
    }
