-- The states of an event. SBI 3.0, "Supervisor Software Events", the diagram of event states: these seven arrows and
-- no other.
use Rattle.std.specs.Prelude.{Option, Some, None}
use Rattle.sse_base.specs.declared.arrows.State.{State}
use Rattle.sse_base.specs.declared.arrows.State.TheVariants.{Unused, Registered, Enabled, Running}
use Rattle.sse_base.specs.declared.arrows.Move.{Move}
use Rattle.sse_base.specs.declared.arrows.Move.TheVariants.{Register, Unregister, Enable, Disable, Deliver, Complete, CompleteOnce}

-- where the arrow of this move leads from a state, if there is one
abbrev pub arrow : State → Move → Option State
arrow Unused Register = Some Registered
arrow Registered Unregister = Some Unused
arrow Registered Enable = Some Enabled
arrow Enabled Disable = Some Registered
arrow Enabled Deliver = Some Running
arrow Running Complete = Some Enabled
arrow Running CompleteOnce = Some Registered
arrow state mv = None
