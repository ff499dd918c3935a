-- Which event is delivered on which hart.
-- SBI 3.0, "Supervisor Software Events", event priority: the smaller priority first, and the smaller id at equal
-- priority. To which hart a global event goes, and that a delivery comes whatever SIE is, are this project's own.
use Rattle.std.specs.Prelude.{ℕ, suc, ◌==◌, ◌&&◌, ◌||◌, nat_lt, Bool, true, false, if◌then◌else◌, List, [], ◌∷◌, filter, slice_index_or, Option, Some, None, option_map}
use Rattle.sse_base.specs.declared.ids.EventId.{EventId}
use Rattle.sse_base.specs.declared.ids.Instance.{Instance}
use Rattle.sse_base.specs.declared.ids.Instance.TheVariants.{Local, Global}
use Rattle.sse_base.specs.declared.events.Slot.{Slot}
use Rattle.sse_base.specs.Ids.{id_of}
use Rattle.sse_base.specs.Events.{Events, event, is_enabled, slots}
use Rattle.sse_base.specs.Contexts.{Frame, newest}
use Rattle.sse_base.specs.Machine.{Reach}

-- how urgent an event is: its priority and its id, the smaller pair being the more urgent
abbrev pub Urgency : Type 0
Urgency = ℕ × EventId

unfoldable pub is_more_urgent : Urgency → Urgency → Bool
is_more_urgent a b = nat_lt a.0 b.0 || ((a.0 == b.0) && nat_lt a.1.0 b.1.0)

abbrev pub urgency_of : Slot → Urgency
urgency_of s = (s.event.priority, id_of s.at)

-- a hart that the board hasn't counts as masked
abbrev pub is_masked : ℕ → List Bool → Bool
is_masked h masks = slice_index_or masks h true

-- the first hart that isn't masked
abbrev pub first_unmasked : List Bool → Option ℕ
first_unmasked [] = None
first_unmasked (true ∷ masks) = option_map suc (first_unmasked masks)
first_unmasked (false ∷ masks) = Some 0

-- the hart on which an instance is delivered: its own for a local one; for a global one its preferred hart, or where
-- that is masked the first that isn't
unfoldable pub target : Instance → ℕ → List Bool → Option ℕ
target (Local id hart) preferred masks = Some hart
target (Global id) preferred masks = if is_masked preferred masks then first_unmasked masks else Some preferred

abbrev pub is_hart : ℕ → Option ℕ → Bool
is_hart h None = false
is_hart h (Some k) = k == h

-- enabled, pending, and for this hart
unfoldable pub waits_for : ℕ → List Bool → Slot → Bool
waits_for h masks s = is_enabled s.event.state && s.pending && is_hart h (target s.at s.event.preferred masks)

-- what can be delivered on a hart: nothing where it is masked
abbrev pub deliverable : ℕ → List Bool → Events → List Slot
deliverable h masks t = if is_masked h masks then [] else filter (waits_for h masks) (slots t)

-- the most urgent of a list
abbrev pub more_urgent_of : Slot → Option Slot → Slot
more_urgent_of s None = s
more_urgent_of s (Some t) = if is_more_urgent (urgency_of t) (urgency_of s) then t else s

abbrev pub least : List Slot → Option Slot
least [] = None
least (s ∷ ss) = Some (more_urgent_of s (least ss))

-- it goes first if nothing runs, or only something that is less urgent
abbrev pub is_above : Slot → Option Urgency → Bool
is_above s None = true
is_above s (Some top) = is_more_urgent (urgency_of s) top

abbrev pub above : Option Slot → Option Urgency → Option Instance
above None top = None
above (Some s) top = if is_above s top then Some s.at else None

-- which instance is delivered next on a hart, if any, where this is how urgent its newest handler is
unfoldable pub chosen : ℕ → List Bool → Option Urgency → Events → Option Instance
chosen h masks top t = above (least (deliverable h masks t)) top

-- how urgent a hart's newest handler is
abbrev pub top_urgency : List Frame → Events → Option Urgency
top_urgency frames t = option_map (λ at. ((event at t).priority, id_of at)) (newest frames)

-- which instance is delivered next on a hart, with what it can reach
abbrev pub next_for : ℕ → Reach → Option Instance
next_for h r = chosen h r.masks (top_urgency r.stack.frames r.events) r.events
