-- What the loop of `write_bank` keeps.
use Rattle.std.proofs.Common.{◌≡◌, ◌++◌, string_bytes}
use Rattle.board_load.specs.Load.{lines_text, line_below, record_line}
use Rattle.board_load.proofs.board.write_bank.Given as goal

abbrev pub invariant-loop-rec : goal.invariant-loop-rec
invariant-loop-rec l =
    string_bytes l.text ≡ string_bytes l.fn.text ++ lines_text (line_below (record_line l.n l.bank) l.rec)
