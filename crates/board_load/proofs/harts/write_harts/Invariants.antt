-- What the loop of `write_harts` keeps.
use Rattle.std.proofs.Common.{◌≡◌, ◌++◌, string_bytes}
use Rattle.board_load.specs.Load.{lines_text, lines_below, hart_lines}
use Rattle.board_load.proofs.harts.write_harts.Given as goal

abbrev pub invariant-loop-hart : goal.invariant-loop-hart
invariant-loop-hart l = string_bytes l.text ≡ string_bytes l.fn.text ++ lines_text (lines_below hart_lines l.hart)
