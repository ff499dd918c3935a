-- What holds of the firmware's parts at all times. This describes the code; no public clause cites it.
use Rattle.std.specs.Prelude.{◌≡◌, ℕ, ◌+◌, ◌<◌, ◌≤◌, Bool, true, List, [], ◌∷◌, ◌++◌, length, filter, slice_index_or}
use Rattle.sse_base.specs.declared.ids.EventId.{EventId}
use Rattle.sse_base.specs.declared.ids.Instance.{Instance}
use Rattle.sse_base.specs.declared.ids.Instance.TheVariants.{Local}
use Rattle.sse_base.specs.Ids.{same_instance, place, may_run_on, FitsHarts}
use Rattle.sse_base.specs.Events.{Events, event, is_running}
use Rattle.sse_base.specs.Contexts.{Frame, Stack, bit}
use Rattle.sse_target.specs.Lines.{Lines, Holds}

-- how often an instance stands in a list
abbrev pub times : Instance → List Instance → ℕ
times x [] = 0
times x (y ∷ ys) = bit (same_instance y x) + times x ys

-- the instances whose handlers run, on one hart and on all
abbrev pub ats : List Frame → List Instance
ats [] = []
ats (f ∷ fs) = f.at ∷ ats fs

abbrev pub running : List Stack → List Instance
running [] = []
running (s ∷ ss) = ats s.frames ++ running ss

-- the instances of a board: each stands once, at most 8 may run on one hart, and a local event that one hart has each
-- has
pub record IsBoard (harts : ℕ) (instances : List Instance) : Type 0 where
  pub once : (x : Instance) → times x instances ≤ 1
  pub few : (h : ℕ) → length (filter (may_run_on h) instances) ≤ 8
  pub whole : (id : EventId) (h k : ℕ) → place (Local id h) instances < length instances → k < harts
      → place (Local id k) instances < length instances

-- the parts: one event for each instance, one mask and one stack for each hart; an instance runs exactly where it has a
-- frame, and then it has one, on a hart on which it may run
pub record IsKept (t : Events) (masks : List Bool) (ss : List Stack) : Type 0 where
  pub board : IsBoard t.harts t.instances
  pub each : length t.each ≡ length t.instances
  pub masked : length masks ≡ t.harts
  pub harts : length ss ≡ t.harts
  pub framed : (x : Instance) → times x (running ss) ≡ bit (is_running (event x t).state)
  pub own : (h : ℕ) (d : Stack) (x : Instance) → h < length ss → 0 < times x (ats (slice_index_or ss h d).frames)
      → may_run_on h x ≡ true

-- the queues are those of the events, of which each has a mark, and on each hart of which an event means one instance
pub record Serves (l : Lines) (t : Events) : Type 0 where
  pub holds : Holds l t
  pub fits : FitsHarts t.instances
  pub marks : length t.marks ≡ length t.instances

-- both
pub record Stands (t : Events) (l : Lines) (ss : List Stack) : Type 0 where
  pub kept : IsKept t l.masks ss
  pub serves : Serves l t
