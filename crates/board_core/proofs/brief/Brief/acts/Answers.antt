-- What is kept of a reporter is its acts.
use Rattle.std.proofs.Common.{◌≡◌, ◌<◌, List, Some, length, slice_get, refl, sym, ap, ◌∙◌, arith}
use Rattle.std.proofs.lemmas.Option.{slice_get_read}
use Rattle.board_plan.specs.declared.plan.Reporter.{Reporter}
use Rattle.board_core.specs.Played.{Played, acts_of}
use Rattle.board_core.proofs.Onward.{acts_are, acts_suit}
use Rattle.board_core.proofs.brief.Brief.acts.Goals as goal

pub acts-requires : goal.acts-requires
acts-requires c =
    let x = c.self.inside in
    let r = c.args.reporter in
    let d = c.index-as_slice-reporter.result in
    let many : length x.plan.reporters ≡ length c.args.self.now.plan.reporters =
    ap (λ (b : Played). length b.plan.reporters) c.self.view_is in
    let low : r < length x.acts.items = omega (arith, c.requires, many, c.self.invariant.reporters) in
    let there : slice_get x.plan.reporters r ≡ Some d =
    ap (λ (rs : List Reporter). slice_get rs r) (sym c.as_slice.ensures)
    ∙ slice_get_read c.as_slice.result.now (length c.as_slice.result.now) r d refl
    (omega (arith, c.requires, many, ap length c.as_slice.ensures)) c.index-as_slice-reporter.is in
    acts_suit x r d c.index.result.now c.self.invariant low there c.index.ensures

pub returns : goal.returns
returns c =
    let x = c.self.inside in
    let r = c.args.reporter in
    let d = c.index-as_slice-reporter.result in
    let many : length x.plan.reporters ≡ length c.args.self.now.plan.reporters =
    ap (λ (b : Played). length b.plan.reporters) c.self.view_is in
    let low : r < length x.acts.items = omega (arith, c.requires, many, c.self.invariant.reporters) in
    let there : slice_get x.plan.reporters r ≡ Some d =
    ap (λ (rs : List Reporter). slice_get rs r) (sym c.as_slice.ensures)
    ∙ slice_get_read c.as_slice.result.now (length c.as_slice.result.now) r d refl
    (omega (arith, c.requires, many, ap length c.as_slice.ensures)) c.index-as_slice-reporter.is in
    c.acts.ensures ∙ sym (acts_are x r d c.index.result.now low there c.index.ensures)
    ∙ ap (λ (b : Played). acts_of b r) c.self.view_is
