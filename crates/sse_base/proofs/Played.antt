-- Calls and deliveries in a row on one machine, for the worked examples.
use Rattle.std.specs.Prelude.{ℕ, true, List, [], ◌∷◌, replicate, Option, Some, None}
use Rattle.sse_base.specs.declared.codes.SbiCode.{SbiCode}
use Rattle.sse_base.specs.declared.ids.Instance.{Instance}
use Rattle.sse_base.specs.declared.ids.Instance.TheVariants.{Local, Global}
use Rattle.sse_base.specs.declared.events.EventDecl.{EventDecl}
use Rattle.sse_base.specs.Events.{Events, start_events, signal}
use Rattle.sse_base.specs.Contexts.{fresh_stack}
use Rattle.sse_base.specs.Words.{fresh_memory, put_words}
use Rattle.sse_base.specs.Machine.{Machine, reach, placed}
use Rattle.sse_base.specs.Choice.{next_for}
use Rattle.sse_base.specs.Calls.{Answer, call, delivered, extension}

-- a call on the whole machine
abbrev pub call_on : ℕ → ℕ → ℕ → List ℕ → Machine → Answer
call_on h eid fid args m = call h eid fid args m.stacks (reach h m)

-- a call: the hart that makes it, the function and the arguments
pub record Asked : Type 0 where
  pub hart : ℕ
  pub fid : ℕ
  pub args : List ℕ

abbrev pub ask : ℕ → ℕ → List ℕ → Asked
ask hart fid args = record { hart = hart; fid = fid; args = args }

abbrev pub answer : Asked → Machine → Answer
answer c m = call_on c.hart extension c.fid c.args m

abbrev pub after : Asked → Machine → Machine
after c m = placed c.hart (answer c m).reach m

-- what calls in a row answer, and what they leave
abbrev pub codes : List Asked → Machine → List SbiCode
codes [] m = []
codes (c ∷ cs) m = (answer c m).code ∷ codes cs (after c m)

abbrev pub after_all : List Asked → Machine → Machine
after_all [] m = m
after_all (c ∷ cs) m = after_all cs (after c m)

-- which instance is delivered next on a hart, and what that delivery leaves
abbrev pub next_on : ℕ → Machine → Option Instance
next_on h m = next_for h (reach h m)

abbrev pub with_next : Option Instance → ℕ → Machine → Machine
with_next None h m = m
with_next (Some at) h m = placed h (delivered h at (reach h m)) m

abbrev pub after_delivery : ℕ → Machine → Machine
after_delivery h m = with_next (next_on h m) h m

abbrev pub with_events : Events → Machine → Machine
with_events t m = record { events = t; masks = m.masks; stacks = m.stacks; memory = m.memory }

abbrev pub with_words : List ℕ → Machine → Machine
with_words words m = record {
  events = m.events;
  masks = m.masks;
  stacks = m.stacks;
  memory = put_words m.memory 0 words;
}

abbrev pub with_signal : Instance → Machine → Machine
with_signal at m = with_events (signal at m.events) m

-- an event that software may inject
abbrev pub injectable : ℕ → EventDecl
injectable id = record { id = record { 0 = id }; inject = true }

-- a board before its first step: all harts masked
abbrev pub board : ℕ → List EventDecl → Machine
board harts decls =
    record {
      events = start_events harts decls;
      masks = replicate harts true;
      stacks = replicate harts (fresh_stack 0);
      memory = fresh_memory;
    }

abbrev pub local_on : ℕ → ℕ → Instance
local_on id hart = Local (record { 0 = id }) hart

abbrev pub global : ℕ → Instance
global id = Global (record { 0 = id })
