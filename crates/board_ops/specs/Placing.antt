-- A hart with another stack. This describes the code; no public clause cites it.
use Rattle.std.specs.Prelude.{ℕ, slice_set}
use Rattle.sse_base.specs.Contexts.{Stack}
use Rattle.sse_base.specs.Machine.{Machine}

-- the machine with another stack on one hart
abbrev pub with_stack : ℕ → Stack → Machine → Machine
with_stack hart s m =
    record { events = m.events; masks = m.masks; stacks = slice_set m.stacks hart s; memory = m.memory }
