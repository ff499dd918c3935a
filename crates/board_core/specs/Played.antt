-- A board as what was played on it, and what it has come to by that. This project's own, over the runs of the board
-- book.
use Rattle.std.specs.Prelude.{◌≡◌, ◌≤◌, ℕ, Bool, true, false, List, [], ◌∷◌, ◌++◌, length, take, map, slice_get, slice_set, slice_index_or, Option, Some, None, is_none}
use Rattle.ras_device.specs.declared.act.Act.{Act}
use Rattle.board_plan.specs.declared.notes.Step.{Step}
use Rattle.board_plan.specs.declared.notes.Step.TheVariants.{Hart, Reporter}
use Rattle.board_plan.specs.declared.notes.StepNote.{StepNote}
use Rattle.board_plan.specs.declared.notes.StepNote.TheVariants as note
use Rattle.board_plan.specs.declared.plan.Reporter as plan_reporter
use Rattle.board_plan.specs.declared.plan.Plan.{Plan}
use Rattle.board_plan.specs.Plans.{IsPlan, AreReports, most_steps}
use Rattle.board_plan.specs.State.{BoardState}
use Rattle.board_plan.specs.Step.{Stepped, hart_step, reporter_step, acts_made}
use Rattle.board_plan.specs.Run.{Ran, ran, steps_of, lists}
use Rattle.board_laws.specs.Safe.{IsRunSafe}
pub use Rattle.board_parts.specs.Came.{IsReport}

-- the plan, the acts that each reporter has made and the steps that were made, the oldest first
pub record Played : Type 0 where
  pub plan : Plan
  pub acts : List (List Act)
  pub steps : List Step

-- the acts that a reporter has made
abbrev pub acts_of : Played → ℕ → List Act
acts_of b r = slice_index_or b.acts r []

-- the run of these steps, and the state that it has come to
abbrev pub own_run : Played → Ran
own_run b = ran b.plan (acts_of b) b.steps

abbrev pub state_of : Played → BoardState
state_of b = (own_run b).state

-- ---- The board before its first step ----

abbrev pub fresh : Plan → Played
fresh plan = record { plan = plan; acts = map (λ r. []) plan.reporters; steps = [] }

-- ---- What a step leaves ----

-- the note of a step, or that there was none
abbrev pub note_of : Option Stepped → StepNote
note_of None = note.Idle
note_of (Some d) = d.note

-- the note of a step where it was made, else `Idle`
abbrev pub note_if : Bool → StepNote → StepNote
note_if false n = note.Idle
note_if true n = n

abbrev pub with_step : Step → Played → Played
with_step t b = record b { steps = b.steps ++ t ∷ [] }

abbrev pub with_act : ℕ → Act → Played → Played
with_act r a b = record b { acts = slice_set b.acts r (acts_of b r ++ a ∷ []) }

-- the board after a hart's step; where there is none it stays
abbrev pub after_hart_step : ℕ → Played → Option Stepped → Played
after_hart_step h b None = b
after_hart_step h b (Some d) = with_step (Hart h) b

abbrev pub after_hart : ℕ → Played → Played
after_hart h b = after_hart_step h b (hart_step h b.plan (state_of b))

-- the board after a reporter's step with the act that is handed; where there is none it stays
abbrev pub after_act : ℕ → Played → Option Act → Option Stepped → Played
after_act r b (Some a) (Some d) = with_step (Reporter r) (with_act r a b)
after_act r b a d = b

abbrev pub after_reporter : ℕ → Option Act → Played → Played
after_reporter r a b = after_act r b a (reporter_step r b.plan a (state_of b))

-- ---- Reporters ----

-- whether a reporter's acts are listed in the plan
abbrev pub has_list : Option plan_reporter.Reporter → Bool
has_list None = false
has_list (Some d) = is_none d.device

abbrev pub is_list : Plan → ℕ → Bool
is_list plan r = has_list (slice_get plan.reporters r)

-- the act of a list that comes after so many; none for a device
abbrev pub listed_act : Option ℕ → List Act → ℕ → Option Act
listed_act None acts n = slice_get acts n
listed_act (Some device) acts n = None

abbrev pub listed_for : Option plan_reporter.Reporter → ℕ → Option Act
listed_for None n = None
listed_for (Some d) n = listed_act d.device d.acts n

-- the next act of a reporter whose acts are listed
abbrev pub listed : Played → ℕ → Option Act
listed b r = listed_for (slice_get b.plan.reporters r) (acts_made r (state_of b))

-- the listed acts of a plan are reports
abbrev pub AreListsReports : Plan → Type 0
AreListsReports plan = AreReports (lists plan [])

-- ---- What is so of each board ----

pub record IsPlayed (b : Played) : Type 0 where
  -- it is a board of its plan, with acts for each reporter
  pub is_plan : IsPlan b.plan
  pub reporters : length b.acts ≡ length b.plan.reporters
  -- each of its steps was made, and no more were than the plan's budgets and limits allow
  pub all_made : steps_of (own_run b).notes ≡ b.steps
  pub few : length b.steps ≤ most_steps b.plan
  -- each reporter has made its acts, and those of a list are the first of the list
  pub used : (r : ℕ) → acts_made r (state_of b) ≡ length (acts_of b r)
  pub listed : (r : ℕ) (d : plan_reporter.Reporter) → slice_get b.plan.reporters r ≡ Some d → is_none d.device ≡ true
      → acts_of b r ≡ take (length (acts_of b r)) d.acts
  -- each error that was made has a priority below 4
  pub reports : AreReports (acts_of b)

-- The board's own run is safe: the nine facts at each of its states, amended contexts, blocks that stand, and at most
-- twelve claims.
abbrev pub IsSafe : Played → Type 0
IsSafe b = IsRunSafe b.plan (acts_of b) b.steps
