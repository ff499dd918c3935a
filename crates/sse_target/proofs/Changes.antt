-- The queues of all harts as one instance changes.
use Rattle.std.proofs.Common.{◌≡◌, ℕ, ◌<◌, true, List, [], length, get_or, ap, sym, ◌∙◌, subst, arith}
use Rattle.std.specs.Prelude.{Some, slice_get}
use Rattle.sse_base.specs.declared.ids.Instance.{Instance}
use Rattle.sse_base.specs.declared.events.Slot.{Slot}
use Rattle.sse_base.specs.Ids.{FitsHarts}
use Rattle.sse_base.specs.Events.{Events, event, slots}
use Rattle.sse_base.specs.Choice.{target, is_hart}
use Rattle.sse_queue.specs.declared.urgency.Waiting.{Waiting}
use Rattle.sse_queue.specs.Order.{without}
use Rattle.sse_target.specs.Lines.{Lines, Holds, HoldsBut, line_for, queue_at, waiting_of}
use Rattle.sse_target.specs.Steps.{waits_on, Takes, renewed}
use Rattle.sse_target.proofs.Waits.{renewed_takes, renewed_is}

-- the slot of an instance
pub record IsSlotOf (at : Instance) (s : Slot) (i : ℕ) (t : Events) : Type 0 where
  pub slot : slice_get (slots t) i ≡ Some s
  pub own : s.at ≡ at
  pub event : s.event ≡ event at t

rest_of : (at : Instance) (l : Lines) (t : Events) (s : Slot) (i h : ℕ) → IsSlotOf at s i t → HoldsBut at l t
    → h < length l.queues →
    without s.at (queue_at h l) ≡ without s.at (line_for h l.masks t)
rest_of at l t s i h o held k =
    subst (λ x. without x (queue_at h l) ≡ without x (line_for h l.masks t)) (sym o.own) (held.rest h k)

pub change_takes : (at : Instance) (l : Lines) (t : Events) (s : Slot) (i h : ℕ) → FitsHarts t.instances
    → IsSlotOf at s i t → HoldsBut at l t →
    h < length l.queues → is_hart h (waits_on l.masks s) ≡ true → Takes (waiting_of s) (without s.at (queue_at h l))
change_takes at l t s i h f o held k y =
    renewed_takes h i l.masks t s (queue_at h l) f o.slot (rest_of at l t s i h o held k) y

pub change_holds : (at : Instance) (l : Lines) (t : Events) (s : Slot) (i : ℕ) (news : List (List Waiting))
    → FitsHarts t.instances → IsSlotOf at s i t →
    HoldsBut at l t → length news ≡ length l.queues
    → ((h : ℕ) → h < length l.queues → get_or news h [] ≡ renewed h l.masks s (queue_at h l)) →
    Holds (record { masks = l.masks; queues = news }) t
change_holds at l t s i news f o held e new =
    record {
      each = λ h k.
          let here : h < length l.queues = omega arith
          in let same : is_hart h (target at (event at t).preferred l.masks)
          ≡ is_hart h (target s.at s.event.preferred l.masks) =
          sym (ap (λ x. is_hart h (target x s.event.preferred l.masks)) o.own
          ∙ ap (λ v. is_hart h (target at v.preferred l.masks)) o.event)
          in new h here
          ∙ renewed_is h i l.masks t s (queue_at h l) f o.slot (λ y. held.others h here (same
          ∙ y)) (rest_of at l t s i h o held here);
    }
