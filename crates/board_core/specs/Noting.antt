-- When a board keeps the notes of its run (describes code). This project's own.
use Rattle.std.specs.Prelude.{◌≡◌, map}
use Rattle.board_plan.specs.Plans.{most_steps}
use Rattle.board_core.specs.declared.board.Board.TheInside.{Inside}
use Rattle.board_core.specs.Played.{IsPlayed, own_run}

-- its run was played, its notes are those of the run, and there is room for the notes of all steps of its plan
pub record IsBoard (b : Inside) : Type 0 where
  pub played : IsPlayed b.brief
  pub notes_are : b.notes.items.items ≡ map (λ n. n.note) (own_run b.brief).notes
  pub room : b.notes.room ≡ most_steps b.brief.plan
