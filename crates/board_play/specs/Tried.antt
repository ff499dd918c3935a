-- What tries make of a board and of its devices (describes code). This project's own, over the runs of the board book;
-- no public clause cites it.
use Rattle.std.specs.Prelude.{◌≡◌, ◌<◌, ◌≤◌, ℕ, Bool, true, false, if◌then◌else◌, List, [], ◌∷◌, ◌++◌, drop, length, map, slice_get, slice_set, slice_index_or, Option, Some, None}
use Rattle.ras_device.specs.declared.act.Act.{Act}
use Rattle.ras_device.specs.Acts.{Remaining}
use Rattle.board_plan.specs.declared.notes.Step.{Step}
use Rattle.board_plan.specs.declared.notes.StepNote.{StepNote}
use Rattle.board_plan.specs.declared.notes.StepNote.TheVariants.{Idle}
use Rattle.board_plan.specs.declared.plan.Plan.{Plan}
use Rattle.board_plan.specs.Plans.{AreNamedOnce, named_by}
use Rattle.board_plan.specs.State.{BoardState, start_state}
use Rattle.board_plan.specs.Step.{acts_made, wants}
use Rattle.board_plan.specs.Run.{Noted, lists, notes, ran, round, rounds, run, AreRounds}
use Rattle.board_core.specs.Played.{Played, own_run, state_of}
use Rattle.board_core.specs.Watched.{ToldAll}

-- whether a note is that of a step
abbrev pub is_step : StepNote → Bool
is_step Idle = false
is_step n = true

-- whether a step was made
abbrev pub some_made : List Noted → Bool
some_made [] = false
some_made (n ∷ ns) = true

-- ---- The devices ----

-- what a device still has to give; nothing once it was let go
abbrev pub left_or_none : {D : Type 0} → (D → Remaining) → Option D → List Act
left_or_none left None = []
left_or_none left (Some d) = (left d).acts

abbrev pub lefts : {D : Type 0} → (D → Remaining) → List (Option D) → List (List Act)
lefts left devices = map (left_or_none left) devices

-- what a device is asked for: one act where its reporter is wanted
abbrev pub asked : Bool → List Act → Option Act
asked wanted acts = if wanted then slice_get acts 0 else None

-- what it has left then; it is let go where its reporter isn't wanted
abbrev pub after_asked : Bool → List Act → List Act
after_asked wanted acts = if wanted then drop 1 acts else []

-- a reporter is handed this act, and so much is left of the devices: that of its list, or of the device that it names
abbrev pub Hands : Option ℕ → Bool → Option Act → List (List Act) → Option Act → List (List Act) → Type 0
Hands None wanted next left act rest = (act ≡ next) × (rest ≡ left)
Hands (Some k) wanted next left act rest =
    (act ≡ asked wanted (slice_index_or left k []))
    × (rest ≡ slice_set left k (after_asked wanted (slice_index_or left k [])))

-- the device of each reporter that is wanted still has the acts of it that aren't made
abbrev pub Tied : Plan → (ℕ → List Act) → BoardState → List (List Act) → Type 0
Tied plan acts s left =
    (r k : ℕ) → named_by (slice_get plan.reporters r) ≡ Some k → wants plan r s ≡ true
    → slice_index_or left k [] ≡ drop (acts_made r s) (acts r)

-- what is left of the devices, of which no two reporters name one, fits what was played
pub record Fits (devices : List (List Act)) (b : Played) (left : List (List Act)) : Type 0 where
  pub once : AreNamedOnce b.plan.reporters
  pub tied : Tied b.plan (lists b.plan devices) (state_of b) left

-- ---- Tries ----

-- a board's own run is that of these tries, where the devices have these acts
abbrev pub HasTried : Plan → List (List Act) → Played → List Step → Type 0
HasTried plan devices b tries = own_run b ≡ ran plan (lists plan devices) tries

-- these tries, one after another, made this of a board
pub record Went (plan : Plan) (devices : List (List Act)) (b : Played) (ts : List Step) (made : Bool) (c : Played)
    : Type 0 where
  pub goes_on : (done : List Step) → HasTried plan devices b done → HasTried plan devices c (done ++ ts)
  pub state : state_of c ≡ run plan (lists plan devices) (state_of b) ts
  pub told : made ≡ some_made (notes plan (lists plan devices) (state_of b) ts)

-- and this of what is left of the devices, whatever they had to give at first
pub record Goes (b : Played) (left : List (List Act)) (ts : List Step) (made : Bool) (c : Played)
    (rest : List (List Act)) : Type 0 where
  pub plan : c.plan ≡ b.plan
  pub keeps : length b.steps ≤ length c.steps
  pub grows : made ≡ true → length b.steps < length c.steps
  pub went : (devices : List (List Act)) → Fits devices b left → Went b.plan devices b ts made c
  pub fits : (devices : List (List Act)) → Fits devices b left → Fits devices c rest

-- the same of what was tried alone
pub record Plays (b : Played) (left : List (List Act)) (ts : List Step) (c : Played) (rest : List (List Act))
    : Type 0 where
  pub plan : c.plan ≡ b.plan
  pub more : (devices : List (List Act)) → Fits devices b left
      → (done : List Step) → HasTried b.plan devices b done → HasTried b.plan devices c (done ++ ts)
  pub fits : (devices : List (List Act)) → Fits devices b left → Fits devices c rest

-- ---- What is told ----

-- a watcher was told of a step where it was made, and else is as it was
abbrev pub TellsIf : {W : Type 0} → (W → Noted → W → Type 0) → Bool → Noted → W → W → Type 0
TellsIf told false n w v = v ≡ w
TellsIf told true n w v = told w n v

-- a watcher was told of all steps that a board made since
pub record Tells {W : Type 0} (told : W → Noted → W → Type 0) (b c : Played) (w v : W) : Type 0 where
  pub made : List Noted
  pub notes : (own_run c).notes ≡ (own_run b).notes ++ made
  pub told_all : ToldAll told made w v

-- ---- Rounds ----

-- some rounds were played, each of which made a step
pub record IsAfter (plan : Plan) (devices : List (List Act)) (b : Played) : Type 0 where
  pub count : ℕ
  pub has : HasTried plan devices b (rounds plan count)
  pub busy : (k : ℕ) → k < count
      → 0 < length (notes plan (lists plan devices)
      (run plan (lists plan devices) (start_state plan) (rounds plan k)) (round plan))

-- the rounds of the plan were played
pub record HasRounds (plan : Plan) (devices : List (List Act)) (b : Played) : Type 0 where
  pub tries : List Step
  pub are_rounds : AreRounds plan (lists plan devices) tries
  pub has : HasTried plan devices b tries

-- the rounds that were played so far of a board, and what is left of its devices
pub record AreFollowed (b : Played) (left : List (List Act)) (c : Played) (rest : List (List Act)) : Type 0 where
  pub plan : c.plan ≡ b.plan
  pub after : (devices : List (List Act)) → Fits devices b left → HasTried b.plan devices b []
      → IsAfter b.plan devices c
  pub fits : (devices : List (List Act)) → Fits devices b left → Fits devices c rest
