-- How a queue changes as instances come and go. This describes the code; no public clause cites it.
use Rattle.std.specs.Prelude.{◌≡◌, ℕ, ◌<◌, ◌&&◌, Bool, true, false, if◌then◌else◌, List, length, Option, None}
use Rattle.sse_base.specs.declared.ids.Instance.{Instance}
use Rattle.sse_base.specs.declared.events.Event.{Event}
use Rattle.sse_base.specs.declared.events.Slot.{Slot}
use Rattle.sse_base.specs.Ids.{id_of}
use Rattle.sse_base.specs.Events.{is_enabled}
use Rattle.sse_base.specs.Choice.{is_hart, target}
use Rattle.sse_queue.specs.declared.urgency.Waiting.{Waiting}
use Rattle.sse_queue.specs.Order.{put_in, without, has_id}
use Rattle.sse_target.specs.Lines.{waiting_of}

-- an instance with its event and whether it is pending
abbrev pub shown : Instance → Event → Bool → Slot
shown at e pending = record { at = at; event = e; pending = pending }

-- the hart for which an instance waits
abbrev pub waits_on : List Bool → Slot → Option ℕ
waits_on masks s = if is_enabled s.event.state && s.pending then target s.at s.event.preferred masks else None

-- a queue has room for one more, and no instance of its event
pub record Takes (w : Waiting) (q : List Waiting) : Type 0 where
  pub room : length q < 8
  pub id : has_id (id_of w.at) q ≡ false

abbrev pub taken_if : Bool → Instance → List Waiting → List Waiting
taken_if true at q = without at q
taken_if false at q = q

abbrev pub put_if : Bool → Waiting → List Waiting → List Waiting
put_if true w q = put_in w q
put_if false w q = q

-- after an instance changed
abbrev pub renewed : ℕ → List Bool → Slot → List Waiting → List Waiting
renewed h masks s q =
    put_if (is_hart h (waits_on masks s)) (waiting_of s) (taken_if (is_hart h (target s.at s.event.preferred masks))
    s.at q)

-- an instance waited on a hart before or not, and now waits there or not
abbrev pub moved : Bool → Bool → Waiting → List Waiting → List Waiting
moved true true w q = q
moved true false w q = without w.at q
moved false true w q = put_in w q
moved false false w q = q
