-- One reporter more.
use Rattle.std.proofs.Common.{◌≡◌, ◌++◌, [], ◌∷◌, map, true, ap, ◌∙◌, arith}
use Rattle.std.specs.List.{range_with_len}
use Rattle.board_plan.specs.State.{ReporterState}
use Rattle.board_parts.proofs.MadeOf.{one_more_of, copies_of}
use Rattle.board_parts.proofs.making.fresh_reporters.Goals as goal

abbrev plugged : ReporterState
plugged = record { made = 0; plugged = true }

pub loop-reporter-preserved : goal.loop-reporter-preserved
loop-reporter-preserved c =
    c.in_ok-push.ensures.ok ∙ ap (λ b. c.loop-reporter.reporters ++ b ∷ []) c.new.ensures
    ∙ one_more_of (λ h. plugged) c.loop-reporter.reporters c.loop-reporter.reporter c.loop-reporter.invariant

pub returns : goal.returns
returns c =
    let all : c.loop-reporter.reporter ≡ c.args.count = omega arith in
    c.into_vec.ensures ∙ c.loop-reporter.invariant ∙ ap (λ n. map (λ _. plugged) (range_with_len 0 n)) all
    ∙ copies_of plugged c.args.count
