-- A listed act is a report.
use Rattle.std.proofs.Common.{◌≡◌, List, Some, length, slice_get, refl, sym, ap, ◌∙◌}
use Rattle.std.proofs.lemmas.Option.{slice_get_read}
use Rattle.ras_device.specs.declared.act.Act.{Act}
use Rattle.ras_device.specs.declared.act.Act.TheVariants as act
use Rattle.board_plan.specs.declared.plan.Reporter.{Reporter}
use Rattle.board_core.proofs.Onward.{copied_there, listed_report}
use Rattle.board_core.proofs.brief.Brief.listed.Goals as goal

pub returns-clause-report : goal.returns-clause-report
returns-clause-report c =
    λ report is.
    let plan = c.self.inside.plan in
    let decl = c.in-Some.decl.now in
    let all = c.as_slice.result.now in
    let looked = c.in-Some.ensures.lookup in
    let there : slice_get plan.reporters c.args.reporter ≡ Some decl =
    ap (λ (rs : List Reporter). slice_get rs c.args.reporter) (sym c.as_slice.ensures)
    ∙ slice_get_read all (length all) c.args.reporter decl refl looked.3.0 looked.1 in
    let act_is : slice_get decl.acts c.made-made.result ≡ Some (act.Error report) =
    ap (λ (xs : List Act). slice_get xs c.made-made.result) (sym c.as_slice-2.ensures)
    ∙ copied_there c.as_slice-2.result.now c.made-made.result c.get-2.result (act.Error report)
    (sym c.copied.ensures ∙ is) c.get-2.ensures.lookup.3 in
    listed_report plan c.args.reporter c.made-made.result decl report c.self.invariant.keeps.lists_reports there
    (sym c.if-is_some.ensures) act_is
