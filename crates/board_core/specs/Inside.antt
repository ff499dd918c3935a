-- What a board that keeps no notes keeps, and when it keeps it rightly (describes code). This project's own.
use Rattle.std.specs.Prelude.{◌≡◌, length}
use Rattle.board_plan.specs.Plans.{most_steps}
use Rattle.board_fates.specs.Tallied.{Tallies}
use Rattle.board_parts.specs.Shows.{Shows}
use Rattle.board_core.specs.declared.brief.Brief.TheInside.{Inside}
use Rattle.board_core.specs.OwnActs.{Suits, Paired, acts_in}
use Rattle.board_core.specs.Played.{Played, own_run, state_of}
use Rattle.board_core.specs.Reached.{Keeps}
use Rattle.board_core.specs.Rooms.{HasRoom}

-- what was played on a board
abbrev pub played : Inside → Played
played b = record { plan = b.plan; acts = acts_in b.plan.reporters b.acts.items; steps = b.log.steps.items.items }

-- the board keeps its run, its parts are those of the run's state, its tally is that of the run's notes, there is room
-- for all steps of its plan, and each reporter's acts suit it
pub record IsBrief (b : Inside) : Type 0 where
  pub keeps : Keeps (played b) b.log.published.items.items
  pub shows : Shows b.plan (state_of (played b)) b.parts
  pub tallies : Tallies b.plan (own_run (played b)).notes b.tally
  pub harts : b.parts.firmware.events.harts ≡ b.plan.harts
  pub room : HasRoom (most_steps b.plan) b.log
  pub reporters : length b.acts.items ≡ length b.plan.reporters
  pub suit : Paired Suits b.plan.reporters b.acts.items
