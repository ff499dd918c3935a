-- What tries make of a board and of its workers (describes code). This project's own, over the runs of the board book.
use Rattle.std.specs.Prelude.{◌≡◌, ℕ, suc, ◌<◌, Bool, true, false, List, length}
use Rattle.ras_device.specs.declared.act.Act.{Act}
use Rattle.board_plan.specs.declared.notes.Step.{Step}
use Rattle.board_plan.specs.declared.notes.StepNote.{StepNote}
use Rattle.board_plan.specs.declared.notes.StepNote.TheVariants.{Idle}
use Rattle.board_plan.specs.Run.{IsFirstIdle, notes, round, rounds, run}
use Rattle.board_core.specs.Played.{Played, state_of}
use Rattle.board_lock.specs.Hand.{Hand}
use Rattle.board_lock.specs.Replaying.{Agrees, Tries}

-- whether a note is that of a step
abbrev pub is_step : StepNote → Bool
is_step Idle = false
is_step n = true

-- these tries were made of a board, and left the workers as its next tries need them
pub record Goes (b : Played) (ws : List Hand) (ts : List Step) (c : Played) (vs : List Hand) : Type 0 where
  pub plan : c.plan ≡ b.plan
  pub tries : (acts : ℕ → List Act) → Agrees acts b ws → Tries acts b ts c
  pub agrees : (acts : ℕ → List Act) → Agrees acts b ws → Agrees acts c vs

-- the same, with whether one of them was a step: if none was, the board is as before
pub record Went (b : Played) (ws : List Hand) (ts : List Step) (made : Bool) (c : Played)
    (vs : List Hand) : Type 0 where
  pub goes : Goes b ws ts c vs
  pub still : made ≡ false → c ≡ b
  pub grows : made ≡ true → length b.steps < length c.steps

-- rounds were tried, each of which made a step
pub record AreBusy (acts : ℕ → List Act) (b : Played) (c : Played) : Type 0 where
  pub count : ℕ
  pub tries : Tries acts b (rounds b.plan count) c
  pub busy : (k : ℕ) → k < count
      → 0 < length (notes b.plan acts (run b.plan acts (state_of b) (rounds b.plan k)) (round b.plan))

pub record WentBusy (b : Played) (ws : List Hand) (c : Played) (vs : List Hand) : Type 0 where
  pub plan : c.plan ≡ b.plan
  pub busy : (acts : ℕ → List Act) → Agrees acts b ws → AreBusy acts b c
  pub agrees : (acts : ℕ → List Act) → Agrees acts b ws → Agrees acts c vs

-- rounds were tried up to the first in which nobody made a step
pub record AreOver (acts : ℕ → List Act) (b : Played) (c : Played) : Type 0 where
  pub count : ℕ
  pub tries : Tries acts b (rounds b.plan (suc count)) c
  pub first_idle : IsFirstIdle b.plan acts (state_of b) count

pub record WentOver (b : Played) (ws : List Hand) (c : Played) (vs : List Hand) : Type 0 where
  pub plan : c.plan ≡ b.plan
  pub ended : (acts : ℕ → List Act) → Agrees acts b ws → AreOver acts b c
  pub agrees : (acts : ℕ → List Act) → Agrees acts b ws → Agrees acts c vs
