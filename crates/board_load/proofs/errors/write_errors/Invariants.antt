-- What the loop of `write_errors` keeps.
use Rattle.std.proofs.Common.{◌≡◌, ◌++◌, ◌*◌, string_bytes}
use Rattle.board_load.specs.Load.{lines_text, lines_below, reporter_lines, state_after}
use Rattle.board_load.proofs.errors.write_errors.Given as goal

abbrev pub invariant-loop-reporter : goal.invariant-loop-reporter
invariant-loop-reporter l = record {
  text : string_bytes l.text ≡ string_bytes l.fn.text ++ lines_text (lines_below (reporter_lines l.n) l.reporter);
  drawn : l.draws.state ≡ state_after l.n (500 * l.reporter);
}
