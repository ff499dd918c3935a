-- Goals of `write_bank` that the tactics leave open.
use Rattle.std.proofs.Common.{ap, arith, ◌∙◌, ◌≡◌, ◌++◌, string_bytes}
use Rattle.board_load.specs.Load.{lines_text, line_below, bank_lines, record_line}
use Rattle.board_load.proofs.Lines.{text_no_line, text_one_line}
use Rattle.board_load.proofs.board.write_bank.Goals as goal

pub loop-rec-init : goal.loop-rec-init
loop-rec-init c = text_no_line _ _

pub loop-rec-preserved : goal.loop-rec-preserved
loop-rec-preserved c =
    text_one_line (record_line c.args.n c.args.bank) c.loop-rec.rec _ _ _ c.loop-rec.invariant
    c.in_ok-write_record.ensures

pub returns : goal.returns
unfolding bank_lines
returns c =
    let last : c.loop-rec.rec ≡ 4 = omega (arith, c.loop-rec-test.false, c.loop-rec.auto.rec-end) in
    c.loop-rec.invariant
    ∙ ap (λ i. string_bytes c.args.text.now ++ lines_text (line_below (record_line c.args.n c.args.bank) i)) last
