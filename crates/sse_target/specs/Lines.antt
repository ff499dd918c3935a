-- What waits for each hart of a board, kept in order of urgency.
-- SBI 3.0, "Supervisor Software Events", event priority. That the events which wait for a hart are kept in a queue of
-- its own, so that a delivery doesn't look through all instances, is this project's own.
use Rattle.std.specs.Prelude.{◌≡◌, ℕ, ◌<◌, Bool, true, false, List, [], ◌∷◌, length, filter, replicate, slice_index_or}
use Rattle.sse_base.specs.declared.ids.Instance.{Instance}
use Rattle.sse_base.specs.declared.events.Slot.{Slot}
use Rattle.sse_base.specs.Events.{Events, event, slots}
use Rattle.sse_base.specs.Choice.{waits_for, target, is_hart}
use Rattle.sse_queue.specs.declared.urgency.Waiting.{Waiting}
use Rattle.sse_queue.specs.Order.{put_in, without}

-- whether each hart is masked, and each hart's queue
pub record Lines : Type 0 where
  pub masks : List Bool
  pub queues : List (List Waiting)

-- so many harts, all masked, and nothing waits
abbrev pub fresh_lines : ℕ → Lines
fresh_lines harts = record { masks = replicate harts true; queues = replicate harts [] }

abbrev pub queue_at : ℕ → Lines → List Waiting
queue_at h l = slice_index_or l.queues h []

abbrev pub waiting_of : Slot → Waiting
waiting_of s = record { priority = s.event.priority; at = s.at }

-- instances in order of urgency
abbrev pub lined_up : List Slot → List Waiting
lined_up [] = []
lined_up (s ∷ ss) = put_in (waiting_of s) (lined_up ss)

-- what waits for a hart, the most urgent first. Where the hart is unmasked this is what can be delivered there; while
-- it is masked its own local events wait
abbrev pub line_for : ℕ → List Bool → Events → List Waiting
line_for h masks t = lined_up (filter (waits_for h masks) (slots t))

-- each hart's queue is what waits for it
pub record Holds (l : Lines) (t : Events) : Type 0 where
  pub each : (h : ℕ) → h < length l.queues → queue_at h l ≡ line_for h l.masks t

-- the same but for one instance, which may be missing or out of date on the hart on which it is delivered
pub record HoldsBut (at : Instance) (l : Lines) (t : Events) : Type 0 where
  pub others : (h : ℕ) → h < length l.queues → is_hart h (target at (event at t).preferred l.masks) ≡ false
      → queue_at h l ≡ line_for h l.masks t
  pub rest : (h : ℕ) → h < length l.queues → without at (queue_at h l) ≡ without at (line_for h l.masks t)
