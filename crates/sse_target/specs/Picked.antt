-- Whether what comes first in a queue is delivered. SBI 3.0, "Supervisor Software Events", event priority.
use Rattle.std.specs.Prelude.{ℕ, if◌then◌else◌, Option, Some, None}
use Rattle.sse_base.specs.declared.ids.Instance.{Instance}
use Rattle.sse_base.specs.Ids.{id_of}
use Rattle.sse_base.specs.Choice.{Urgency, is_more_urgent}

-- the first of a queue with its priority, where nothing runs or where it is strictly more urgent than what runs
abbrev pub picked : Option (ℕ × Instance) → Option Urgency → Option Instance
picked None top = None
picked (Some w) None = Some w.1
picked (Some w) (Some top) = if is_more_urgent (w.0, id_of w.1) top then Some w.1 else None
