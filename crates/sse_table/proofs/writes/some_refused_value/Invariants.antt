-- The words that are left.
use Rattle.std.proofs.Common.{◌≡◌, ◌+◌, drop}
use Rattle.sse_base.specs.Calls.{is_refused_value, some_word}
use Rattle.sse_table.proofs.writes.some_refused_value.Given as goal

abbrev pub invariant-loop-i : goal.invariant-loop-i
invariant-loop-i l =
    some_word (is_refused_value l.harts) l.base l.values
    ≡ some_word (is_refused_value l.harts) (l.base + l.i) (drop l.i l.values)
