-- A queue of events in order of urgency.
-- SBI 3.0, "Supervisor Software Events", event priority: the smaller priority first, and the smaller id at equal
-- priority. That a queue is what is kept of the events that wait is this project's own.
use Rattle.std.specs.Prelude.{ℕ, ◌==◌, ◌&&◌, Bool, true, if◌then◌else◌, List, [], ◌∷◌, Option, Some, None}
use Rattle.std.specs.List.{list_any, list_all}
use Rattle.sse_base.specs.declared.ids.EventId.{EventId}
use Rattle.sse_base.specs.declared.ids.Instance.{Instance}
use Rattle.sse_base.specs.Ids.{id_of, same_instance}
use Rattle.sse_base.specs.Choice.{Urgency, is_more_urgent}
use Rattle.sse_queue.specs.declared.urgency.Waiting.{Waiting}

abbrev pub urgency_of : Waiting → Urgency
urgency_of w = (w.priority, id_of w.at)

-- the first is strictly more urgent
abbrev pub is_before : Waiting → Waiting → Bool
is_before v w = is_more_urgent (urgency_of v) (urgency_of w)

-- each is strictly more urgent than all behind it
abbrev pub is_in_order : List Waiting → Bool
is_in_order [] = true
is_in_order (v ∷ vs) = list_all (is_before v) vs && is_in_order vs

-- an instance, or some instance of an event, is there
abbrev pub holds : Instance → List Waiting → Bool
holds at vs = list_any (λ v. same_instance v.at at) vs

abbrev pub has_id : EventId → List Waiting → Bool
has_id id vs = list_any (λ v. (id_of v.at).0 == id.0) vs

-- one more, behind all that are more urgent
abbrev pub put_in : Waiting → List Waiting → List Waiting
put_in w [] = w ∷ []
put_in w (v ∷ vs) = if is_before v w then v ∷ put_in w vs else w ∷ v ∷ vs

-- an instance waits no longer
abbrev pub without : Instance → List Waiting → List Waiting
without at [] = []
without at (v ∷ vs) = if same_instance v.at at then vs else v ∷ without at vs

-- the most urgent one
abbrev pub front : List Waiting → Option (ℕ × Instance)
front [] = None
front (v ∷ vs) = Some (v.priority, v.at)
