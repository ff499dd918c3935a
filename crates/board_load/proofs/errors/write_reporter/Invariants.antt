-- What the loop of `write_reporter` keeps.
use Rattle.std.proofs.Common.{◌≡◌, ◌++◌, ◌+◌, ◌*◌, string_bytes}
use Rattle.board_load.specs.Load.{lines_text, line_below, act_line, state_after}
use Rattle.board_load.proofs.errors.write_reporter.Given as goal

abbrev pub invariant-loop-i : goal.invariant-loop-i
invariant-loop-i l = record {
  text : string_bytes l.text ≡ string_bytes l.fn.text ++ lines_text (line_below (act_line l.n l.reporter) l.i);
  drawn : l.draws.state ≡ state_after l.n (500 * l.reporter + l.i);
}
