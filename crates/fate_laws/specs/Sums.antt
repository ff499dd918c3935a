-- How many errors were made, by what became of them. This project's own.
use Rattle.std.specs.Prelude.{◌≡◌, ◌+◌}
use Rattle.board_plan.specs.declared.notes.Fates as fates

-- so many were made as have one of the seven fates, none being counted twice or left out
pub record AddUp (f : fates.Fates) : Type 0 where
  pub sum : f.made ≡ f.stray + f.disabled + f.counted + f.drained + f.overwritten + f.kept + f.stands
