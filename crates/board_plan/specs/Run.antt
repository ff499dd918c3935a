-- Runs of a board over a list of tries, and which tries a plan makes. This project's own.
use Rattle.std.specs.Prelude.{◌≡◌, ℕ, zero, suc, ◌<◌, List, [], ◌∷◌, ◌++◌, map, length, slice_get, slice_index_or, Option, Some, None}
use Rattle.std.specs.List.{range_with_len}
use Rattle.ras_device.specs.declared.act.Act.{Act}
use Rattle.board_plan.specs.declared.notes.Published.{Published}
use Rattle.board_plan.specs.declared.notes.Step.{Step}
use Rattle.board_plan.specs.declared.notes.Step.TheVariants.{Hart, Reporter}
use Rattle.board_plan.specs.declared.notes.StepNote.{StepNote}
use Rattle.board_plan.specs.declared.plan.Reporter as plan_reporter
use Rattle.board_plan.specs.declared.plan.Plan.{Plan}
use Rattle.board_plan.specs.State.{BoardState, start_state}
use Rattle.board_plan.specs.Step.{Stepped, step}

-- ---- Runs ----

-- a step that was made: who made it, and its note
pub record Noted : Type 0 where
  pub by : Step
  pub note : StepNote

abbrev pub state_after : BoardState → Option Stepped → BoardState
state_after s None = s
state_after s (Some d) = d.state

abbrev pub noted : Step → Option Stepped → List Noted → List Noted
noted t None ns = ns
noted t (Some d) ns = record { by = t; note = d.note } ∷ ns

abbrev pub with_copy : Option Published → List Published → List Published
with_copy None ps = ps
with_copy (Some p) ps = p ∷ ps

abbrev pub published : Option Stepped → List Published → List Published
published None ps = ps
published (Some d) ps = with_copy d.published ps

-- the state after a list of tries, the first of them first: a try that has no step is passed over
abbrev pub run : Plan → (ℕ → List Act) → BoardState → List Step → BoardState
run plan acts s [] = s
run plan acts s (t ∷ ts) = run plan acts (state_after s (step plan acts t s)) ts

-- the steps that were made, with their notes
abbrev pub notes : Plan → (ℕ → List Act) → BoardState → List Step → List Noted
notes plan acts s [] = []
notes plan acts s (t ∷ ts) = noted t (step plan acts t s) (notes plan acts (state_after s (step plan acts t s)) ts)

-- the copies that were published, each with its bank
abbrev pub copies : Plan → (ℕ → List Act) → BoardState → List Step → List Published
copies plan acts s [] = []
copies plan acts s (t ∷ ts) = published (step plan acts t s) (copies plan acts (state_after s (step plan acts t s)) ts)

pub record Ran : Type 0 where
  pub state : BoardState
  pub notes : List Noted
  pub published : List Published

-- the run of a plan from its start, where each reporter has these acts
unfoldable pub ran : Plan → (ℕ → List Act) → List Step → Ran
ran plan acts tries =
    record {
      state = run plan acts (start_state plan) tries;
      notes = notes plan acts (start_state plan) tries;
      published = copies plan acts (start_state plan) tries;
    }

-- who made the steps
abbrev pub steps_of : List Noted → List Step
steps_of ns = map (λ n. n.by) ns

-- ---- Whose acts ----

-- the acts of a reporter: its own list, or that of its device; a device that isn't there gives none
abbrev pub acts_from : List (List Act) → Option plan_reporter.Reporter → List Act
acts_from devices None = []
acts_from devices (Some r) = acts_or_device devices r.acts r.device
  where
    acts_or_device : List (List Act) → List Act → Option ℕ → List Act
    acts_or_device devices acts None = acts
    acts_or_device devices acts (Some k) = slice_index_or devices k []

abbrev pub lists : Plan → List (List Act) → ℕ → List Act
lists plan devices r = acts_from devices (slice_get plan.reporters r)

-- ---- Rounds ----

-- one try of each hart, in rising number, and then one of each reporter
abbrev pub round : Plan → List Step
round plan = map Hart (range_with_len 0 plan.harts) ++ map Reporter (range_with_len 0 (length plan.reporters))

-- so many rounds
abbrev pub rounds : Plan → ℕ → List Step
rounds plan zero = []
rounds plan (suc n) = rounds plan n ++ round plan

-- round n, counted from this state and from 0, is the first in which nobody makes a step
pub record IsFirstIdle (plan : Plan) (acts : ℕ → List Act) (s : BoardState) (n : ℕ) : Type 0 where
  pub busy : (k : ℕ) → k < n → 0 < length (notes plan acts (run plan acts s (rounds plan k)) (round plan))
  pub idle : notes plan acts (run plan acts s (rounds plan n)) (round plan) ≡ []

-- the rounds of a plan up to the first idle one, which is tried too
pub record AreRounds (plan : Plan) (acts : ℕ → List Act) (tries : List Step) : Type 0 where
  pub count : ℕ
  pub first_idle : IsFirstIdle plan acts (start_state plan) count
  pub are_rounds : tries ≡ rounds plan (suc count)

-- what is tried: the schedule where one is given, else rounds
abbrev pub AreScheduled : Plan → (ℕ → List Act) → Option (List Step) → List Step → Type 0
AreScheduled plan acts None tries = AreRounds plan acts tries
AreScheduled plan acts (Some schedule) tries = tries ≡ schedule

abbrev pub AreTries : Plan → (ℕ → List Act) → List Step → Type 0
AreTries plan acts tries = AreScheduled plan acts plan.schedule tries

-- a list of which every try is a step, and after which nobody is left with one
pub record IsWhole (plan : Plan) (acts : ℕ → List Act) (steps : List Step) : Type 0 where
  pub all_made : steps_of (ran plan acts steps).notes ≡ steps
  pub over : (t : Step) → step plan acts t (ran plan acts steps).state ≡ None
