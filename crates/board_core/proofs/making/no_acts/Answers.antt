-- One reporter more.
use Rattle.std.proofs.Common.{◌≡◌, ◌+◌, ◌<◌, ◌++◌, ◌∷◌, [], List, length, suc, take, sym, subst, ap, ◌∙◌, arith}
use Rattle.std.proofs.Math.Seq.{take-suc}
use Rattle.board_plan.specs.declared.plan.Reporter.{Reporter}
use Rattle.board_core.specs.declared.made.Made.{Made}
use Rattle.board_core.specs.OwnActs.{IsNew, Paired}
use Rattle.board_core.proofs.OwnActs.{paired_push}
use Rattle.board_core.proofs.making.no_acts.Goals as goal

pub loop-reporter-preserved : goal.loop-reporter-preserved
loop-reporter-preserved c =
    let all = c.args.reporters.now in
    let n = c.loop-reporter.reporter-index in
    let d = c.reporter-item.result in
    let low : n < length all = omega (arith, c.loop-reporter-test.true) in
    let index : suc n ≡ n + 1 = omega arith in
    let more : take n all ++ d ∷ [] ≡ take (n + 1) all =
    ap (λ (x : Reporter). take n all ++ x ∷ []) c.reporter-item.is ∙ sym (take-suc all n d low)
    ∙ ap (λ i. take i all) index in
    subst (λ (ds : List Reporter). Paired IsNew ds c.push.new.self) more
    (subst (λ (ms : List Made). Paired IsNew (take n all ++ d ∷ []) ms) (sym c.in_ok-push.ensures.ok)
    (paired_push IsNew (take n all) c.loop-reporter.acts d c.in_ok-new.field-0 c.loop-reporter.invariant
    c.in_ok-new.ensures))
