-- What the loop of `write_records` keeps.
use Rattle.std.proofs.Common.{◌≡◌, ◌++◌, string_bytes}
use Rattle.board_load.specs.Load.{lines_text, lines_below, bank_lines}
use Rattle.board_load.proofs.board.write_records.Given as goal

abbrev pub invariant-loop-bank : goal.invariant-loop-bank
invariant-loop-bank l = string_bytes l.text ≡ string_bytes l.fn.text ++ lines_text (lines_below (bank_lines l.n) l.bank)
