-- The events of a board: three lists side by side, in the order of the instances.
-- SBI 3.0, "Supervisor Software Events", event states and attributes. Which attributes outlive an unregister is
-- this project's own rule.
use Rattle.std.specs.Prelude.{ℕ, ◌<◌, Bool, true, false, nat_lt, if◌then◌else◌, List, [], ◌∷◌, map, length, slice_index_or, slice_set, Option, option_map, unwrap_or}
use Rattle.std.specs.List.{flat_map}
use Rattle.sse_base.specs.declared.arrows.State.{State}
use Rattle.sse_base.specs.declared.arrows.State.TheVariants.{Unused, Registered, Enabled, Running}
use Rattle.sse_base.specs.declared.arrows.Move.{Move}
use Rattle.sse_base.specs.declared.arrows.Move.TheVariants.{Deliver, Complete, CompleteOnce}
use Rattle.sse_base.specs.Arrows.{arrow}
use Rattle.sse_base.specs.declared.ids.Instance.{Instance}
use Rattle.sse_base.specs.declared.ids.Instance.TheVariants.{Local, Global}
use Rattle.sse_base.specs.declared.events.Event.{Event}
use Rattle.sse_base.specs.declared.events.EventDecl.{EventDecl}
use Rattle.sse_base.specs.declared.events.Slot.{Slot}
use Rattle.sse_base.specs.Ids.{place, in_order, instances_of_event}

-- the events of a board of so many harts: its instances, and at the place of each its event and whether it is pending
pub record Events : Type 0 where
  pub harts : ℕ
  pub instances : List Instance
  pub each : List Event
  pub marks : List Bool

abbrev pub is_unused : State → Bool
is_unused Unused = true
is_unused state = false

abbrev pub is_registered : State → Bool
is_registered Registered = true
is_registered state = false

abbrev pub is_enabled : State → Bool
is_enabled Enabled = true
is_enabled state = false

abbrev pub is_running : State → Bool
is_running Running = true
is_running state = false

abbrev pub is_on_board : Instance → Events → Bool
is_on_board at t = nat_lt (place at t.instances) (length t.instances)

abbrev pub IsOnBoard : Instance → Events → Type 0
IsOnBoard at t = place at t.instances < length t.instances

-- an event that nobody has used yet
abbrev pub fresh_event : Bool → ℕ → Event
fresh_event inject preferred =
    record { inject = inject; state = Unused; priority = 0; oneshot = false; preferred = preferred; entry = 0; arg = 0 }

-- the event of an instance, and whether it is pending
abbrev pub event : Instance → Events → Event
event at t = slice_index_or t.each (place at t.instances) (fresh_event false 0)

abbrev pub is_pending : Instance → Events → Bool
is_pending at t = slice_index_or t.marks (place at t.instances) false

-- the events with one of them changed
abbrev pub change : Instance → Event → Events → Events
change at e t = record {
  harts = t.harts;
  instances = t.instances;
  each = slice_set t.each (place at t.instances) e;
  marks = t.marks;
}

-- the events with one of them pending, or no longer
abbrev pub mark : Instance → Bool → Events → Events
mark at pending t = record {
  harts = t.harts;
  instances = t.instances;
  each = t.each;
  marks = slice_set t.marks (place at t.instances) pending;
}

abbrev pub signal : Instance → Events → Events
signal at t = mark at true t

-- an event after a move, where its state has such an arrow
abbrev pub in_state : Event → State → Event
in_state e state = record e { state = state }

abbrev pub moved : Move → Event → Option Event
moved mv e = option_map (in_state e) (arrow e.state mv)

-- an event that goes along the arrow of a move, and stays as it is where its state has none
abbrev pub gone : Move → Event → Event
gone mv e = in_state e (unwrap_or (arrow e.state mv) e.state)

-- a delivery: it runs, and is no longer pending
abbrev pub set_running : Instance → Events → Events
set_running at t = mark at false (change at (gone Deliver (event at t)) t)

-- a completion: it is enabled again, or registered where it is oneshot
abbrev pub completion_of : Event → Move
completion_of e = if e.oneshot then CompleteOnce else Complete

abbrev pub set_completed : Instance → Events → Events
set_completed at t = change at (gone (completion_of (event at t)) (event at t)) t

-- the events of a board at its start
abbrev pub preferred_at_start : Instance → ℕ
preferred_at_start (Local id hart) = hart
preferred_at_start (Global id) = 0

abbrev pub fresh_events : Bool → List Instance → List Event
fresh_events inject is = map (λ at. fresh_event inject (preferred_at_start at)) is

abbrev pub start_in_order : ℕ → List EventDecl → Events
start_in_order harts ds =
    record {
      harts = harts;
      instances = flat_map (λ d. instances_of_event harts d.id) ds;
      each = flat_map (λ d. fresh_events d.inject (instances_of_event harts d.id)) ds;
      marks = map (λ at. false) (flat_map (λ d. instances_of_event harts d.id) ds);
    }

abbrev pub start_events : ℕ → List EventDecl → Events
start_events harts decls = start_in_order harts (in_order decls)

-- the three lists as one
abbrev pub joined : List Instance → List Event → List Bool → List Slot
joined (at ∷ is) (e ∷ es) (b ∷ bs) = record { at = at; event = e; pending = b } ∷ joined is es bs
joined is es bs = []

abbrev pub slots : Events → List Slot
slots t = joined t.instances t.each t.marks
