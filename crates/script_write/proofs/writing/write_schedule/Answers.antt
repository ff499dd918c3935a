-- Goals of `write_schedule` that the tactics leave open.
use Rattle.std.proofs.Common.{List, [], map, refl, sym, ap, ◌∙◌}
use Rattle.ras_io.proofs.Puts.{Puts-same}
use Rattle.board_plan.specs.declared.notes.Step.{Step}
use Rattle.board_plan.specs.Canonical.{lines_text, schedule_line, in_lines}
use Rattle.script_write.proofs.Progress.{progress-start, progress-end}
use Rattle.script_write.proofs.Wholes.{no_schedule, given_schedule}
use Rattle.script_write.proofs.writing.write_schedule.Goals as goal

pub returns-in-None-clause-bytes : goal.returns-in-None-clause-bytes
returns-in-None-clause-bytes g c =
    Puts-same _ _ _ _ _ _ _ refl refl (sym (no_schedule c.args.schedule.now c.in-None.is))
    (progress-end _ _ _ _ (progress-start _ _))

pub returns-in-Some-clause-bytes : goal.returns-in-Some-clause-bytes
returns-in-Some-clause-bytes g c =
    Puts-same _ _ _ _ _ _ _ refl refl
    (ap (λ (steps : List Step). lines_text (map schedule_line (in_lines [] steps))) c.as_slice.ensures
    ∙ sym (given_schedule c.args.schedule.now _ c.in-Some.is))
    c.write_steps.ensures.bytes
