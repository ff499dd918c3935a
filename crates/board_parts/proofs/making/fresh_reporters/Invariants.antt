-- The reporters so far.
use Rattle.std.proofs.Common.{◌≡◌, map, true}
use Rattle.std.specs.List.{range_with_len}
use Rattle.board_parts.proofs.making.fresh_reporters.Given as goal

abbrev pub invariant-loop-reporter : goal.invariant-loop-reporter
invariant-loop-reporter l = l.reporters ≡ map (λ _. record { made = 0; plugged = true }) (range_with_len 0 l.reporter)
