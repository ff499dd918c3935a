-- The short report by what the board has kept.
use Rattle.std.proofs.Common.{◌≡◌, ℕ, Bool, [], ◌∷◌, length, refl, sym, ap, ◌∙◌, subst}
use Rattle.std.proofs.lemmas.List.{length-map}
use Rattle.ras_io.specs.Causes.{Puts}
use Rattle.ras_io.proofs.Puts.{Puts-same}
use Rattle.board_plan.specs.Run.{Noted}
use Rattle.board_plan.specs.Text.{bytes_of, head_line, fates_line, end_line}
use Rattle.board_core.specs.Played.{own_run}
use Rattle.board_report.specs.Reports.{report_bytes, short_bytes}
use Rattle.board_report.proofs.reports.report_brief.Goals as goal

pub returns-then-short-clause-bytes : goal.returns-then-short-clause-bytes
unfolding short_bytes
returns-then-short-clause-bytes g c =
    let b = c.args.board.now in
    let r = own_run b in
    let made : length c.steps-steps.result.now ≡ length r.notes =
    ap length (c.steps-steps.ensures.steps ∙ sym c.steps-steps.ensures.played.all_made)
    ∙ length-map r.notes (λ (n : Noted). n.by) in
    let plan = c.plan.ensures in
    let became = c.fates-fates.ensures in
    let lines = ap (λ p. head_line p (length c.steps-steps.result.now) ∷ fates_line c.fates-fates.result ∷ end_line
    ∷ []) plan ∙ ap (λ (n : ℕ). head_line b.plan n ∷ fates_line c.fates-fates.result ∷ end_line ∷ []) made
    ∙ ap (λ f. head_line b.plan (length r.notes) ∷ fates_line f ∷ end_line ∷ []) became in
    subst (λ (short : Bool). Puts (g.K.Sink.written c.args.sink.now) (g.K.Sink.written c.write_short.new.sink)
    c.write_short.result (report_bytes short b.plan r)) (sym c.if-short.true)
    (Puts-same _ _ _ _ _ _ _ refl refl (ap bytes_of lines) c.write_short.ensures.bytes)
