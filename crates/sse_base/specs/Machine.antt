-- The machine of a board: what its firmware keeps, as plain lists. The form is this project's own.
use Rattle.std.specs.Prelude.{ℕ, Bool, List, slice_index_or, slice_set}
use Rattle.sse_base.specs.Events.{Events}
use Rattle.sse_base.specs.Contexts.{Stack, fresh_stack}

-- events, whether each hart is masked, what each hart runs, and the words of memory
pub record Machine : Type 0 where
  pub events : Events
  pub masks : List Bool
  pub stacks : List Stack
  pub memory : List ℕ

-- all that one hart's step can change: its own stack, and what all harts share
pub record Reach : Type 0 where
  pub stack : Stack
  pub events : Events
  pub masks : List Bool
  pub memory : List ℕ

abbrev pub stack_of : ℕ → Machine → Stack
stack_of h m = slice_index_or m.stacks h (fresh_stack 0)

abbrev pub reach : ℕ → Machine → Reach
reach h m = record { stack = stack_of h m; events = m.events; masks = m.masks; memory = m.memory }

-- the machine after a step of a hart: every other hart's stack stays
abbrev pub placed : ℕ → Reach → Machine → Machine
placed h r m = record { events = r.events; masks = r.masks; stacks = slice_set m.stacks h r.stack; memory = r.memory }
