-- Goals of `write_reporter` that the tactics leave open.
use Rattle.std.proofs.Common.{ap, arith, ◌∙◌, ◌≡◌, ◌+◌, ◌*◌, ◌/◌, ◌^◌, ◌++◌, string_bytes}
use Rattle.board_load.specs.Load.{act_line, reporter_lines, error_line, line_text, lines_text, line_below, state_after}
use Rattle.board_load.proofs.Lines.{text_no_line, text_one_line, act_drawn, state_next}
use Rattle.board_load.proofs.errors.write_reporter.Goals as goal

pub loop-i-init : goal.loop-i-init
loop-i-init c =
    let start : 500 * c.args.reporter ≡ 500 * c.args.reporter + 0 = omega arith in
    record { text = text_no_line _ _; drawn = c.requires.drawn ∙ ap (λ k. state_after c.args.n k) start }

pub loop-i-preserved : goal.loop-i-preserved
loop-i-preserved c =
    record {
      text = text_one_line (act_line c.args.n c.args.reporter) c.loop-i.i _ _ _ c.loop-i.invariant.text
          (c.in_ok-write_error.ensures
          ∙ ap (λ line. string_bytes c.loop-i.text ++ line_text line)
          (ap (λ r. error_line c.args.reporter c.loop-i.i r)
          (c.draw-drawn.ensures.drawn ∙ ap (λ y. y / 2 ^ 32) c.draw-drawn.ensures.state)
          ∙ act_drawn c.args.n c.args.reporter c.loop-i.i c.loop-i.draws.state c.loop-i.invariant.drawn));
      drawn = c.draw-drawn.ensures.state ∙ state_next c.args.n c.args.reporter c.loop-i.i _ c.loop-i.invariant.drawn;
    }

pub returns-clause-text : goal.returns-clause-text
unfolding reporter_lines
returns-clause-text c =
    let last : c.loop-i.i ≡ 500 = omega (arith, c.loop-i-test.false, c.loop-i.auto.i-end) in
    c.loop-i.invariant.text
    ∙ ap (λ i. string_bytes c.args.text.now ++ lines_text (line_below (act_line c.args.n c.args.reporter) i)) last
