-- The trace by what the board has kept.
use Rattle.std.proofs.Common.{List, refl, sym, ap, ◌∙◌, subst}
use Rattle.ras_io.proofs.Puts.{Puts-same}
use Rattle.board_plan.specs.declared.notes.StepNote.{StepNote}
use Rattle.board_plan.specs.Text.{bytes_of}
use Rattle.board_core.specs.Played.{acts_of, own_run}
use Rattle.board_core.proofs.Texts.{run_has_texts}
use Rattle.board_report.specs.Told.{HaveTexts}
use Rattle.board_report.specs.Reports.{trace_bytes}
use Rattle.board_report.proofs.Growing.{as-many}
use Rattle.board_report.proofs.Shown.{trace-told}
use Rattle.board_report.proofs.reports.trace.Goals as goal

pub write_trace-requires-clause-texts : goal.write_trace-requires-clause-texts
write_trace-requires-clause-texts g c =
    let b = c.args.board.now in
    subst (λ (notes : List StepNote). HaveTexts notes) (sym c.notes.ensures)
    (run_has_texts b.plan (acts_of b) b.steps)

pub returns-clause-bytes : goal.returns-clause-bytes
unfolding trace_bytes
returns-clause-bytes g c =
    let b = c.args.board.now in
    let told = trace-told (own_run b).notes c.steps.result.now c.notes.result.now
    (c.steps.ensures.steps ∙ sym c.steps.ensures.played.all_made) c.notes.ensures in
    Puts-same _ _ _ _ _ _ _ refl refl (ap bytes_of told) c.write_trace.ensures.bytes

pub returns-clause-writes : goal.returns-clause-writes
returns-clause-writes g c =
    let b = c.args.board.now in
    let told = trace-told (own_run b).notes c.steps.result.now c.notes.result.now
    (c.steps.ensures.steps ∙ sym c.steps.ensures.played.all_made) c.notes.ensures in
    as-many _ _ _ _ _ told c.write_trace.ensures.writes
