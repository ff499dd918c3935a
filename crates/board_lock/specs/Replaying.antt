-- What it is to try a list of steps on a board, and then rounds, with workers that hold the acts of the devices. This
-- project's own, over the runs of the board book.
use Rattle.std.specs.Prelude.{◌≡◌, ℕ, suc, ◌<◌, ◌==◌, Bool, true, false, List, [], ◌∷◌, ◌++◌, length, slice_get, Option, Some, None, is_some, is_none}
use Rattle.std.specs.List.{find}
use Rattle.ras_device.specs.declared.act.Act.{Act}
use Rattle.board_plan.specs.declared.notes.Step.{Step}
use Rattle.board_plan.specs.declared.notes.Step.TheVariants.{Hart, Reporter}
use Rattle.board_plan.specs.declared.plan.Reporter as plan_reporter
use Rattle.board_plan.specs.declared.plan.Plan.{Plan}
use Rattle.board_plan.specs.Step.{step}
use Rattle.board_plan.specs.Run.{IsFirstIdle, notes, rounds, run, steps_of}
use Rattle.board_core.specs.Played.{Played, acts_of, state_of}
use Rattle.board_lock.specs.Hand.{Hand, whole}

-- ---- Workers by their actors ----

abbrev pub is_same : Step → Step → Bool
is_same (Hart h) (Hart k) = h == k
is_same (Reporter r) (Reporter k) = r == k
is_same t u = false

-- the worker of an actor: the first that makes its steps
abbrev pub worker_of : Step → List Hand → Option Hand
worker_of t ws = find (λ w. is_same w.actor t) ws

-- the board has the actor
abbrev pub IsActor : Plan → Step → Type 0
IsActor plan (Hart h) = h < plan.harts
IsActor plan (Reporter r) = r < length plan.reporters

-- ---- Workers for a plan ----

-- a worker has all these acts, and as many may be given as the plan says
pub record IsHired (all : List Act) (most : ℕ) (w : Hand) : Type 0 where
  pub acts : whole w ≡ all
  pub limit : w.limit ≡ most

-- each actor of the plan has a worker; a reporter with a list makes the acts of its list, and any other those that its
-- worker has
pub record AreHired (acts : ℕ → List Act) (plan : Plan) (ws : List Hand) : Type 0 where
  pub has : (t : Step) → IsActor plan t → is_some (worker_of t ws) ≡ true
  pub lists : (r : ℕ) (d : plan_reporter.Reporter) → slice_get plan.reporters r ≡ Some d → is_none d.device ≡ true
      → acts r ≡ d.acts
  pub devices : (r : ℕ) (d : plan_reporter.Reporter) (w : Hand) → slice_get plan.reporters r ≡ Some d
      → is_none d.device ≡ false → worker_of (Reporter r) ws ≡ Some w → IsHired (acts r) d.limit w

-- workers for the plan of a board, each of which has handed on just the acts that its reporter has made there
pub record Agrees (acts : ℕ → List Act) (b : Played) (ws : List Hand) : Type 0 where
  pub hired : AreHired acts b.plan ws
  pub handed : (r : ℕ) (d : plan_reporter.Reporter) (w : Hand) → slice_get b.plan.reporters r ≡ Some d
      → is_none d.device ≡ false → worker_of (Reporter r) ws ≡ Some w → w.handed ≡ acts_of b r

-- ---- Tries ----

-- these tries make this of a board, where each reporter has these acts: its state is that of the tries, and the steps
-- that they made are kept
pub record Tries (acts : ℕ → List Act) (b : Played) (ts : List Step) (c : Played) : Type 0 where
  pub plan : c.plan ≡ b.plan
  pub state : state_of c ≡ run b.plan acts (state_of b) ts
  pub steps : c.steps ≡ b.steps ++ steps_of (notes b.plan acts (state_of b) ts)

-- these steps were tried, and then rounds up to the first in which nobody made a step, which was tried too; nobody has
-- a step afterwards
pub record Replays (acts : ℕ → List Act) (b : Played) (steps : List Step) (c : Played) : Type 0 where
  pub count : ℕ
  pub tries : Tries acts b (steps ++ rounds b.plan (suc count)) c
  pub first_idle : IsFirstIdle b.plan acts (run b.plan acts (state_of b) steps) count
  pub over : (t : Step) → step c.plan acts t (state_of c) ≡ None
