-- What the loop of `with_entries` keeps.
use Rattle.std.proofs.Common.{◌≡◌, drop}
use Rattle.board_plan.specs.Script.{with_entries}
use Rattle.board_script.specs.Reading.{texts}
use Rattle.board_script.proofs.schedule.with_entries.Given as goal

abbrev pub invariant-loop-word : goal.invariant-loop-word
invariant-loop-word l =
    with_entries l.harts l.reporters l.steps (texts (drop l.word-index l.words))
    ≡ with_entries l.harts l.reporters l.fn.steps (texts l.words)
