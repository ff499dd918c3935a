-- Small plans of one hart and its handlers, for the worked contexts.
use Rattle.std.specs.Prelude.{ℕ, ◌+◌, Bool, false, List, [], ◌∷◌, length, slice_index_or, None}
use Rattle.sse_base.specs.declared.contexts.Privilege.{Privilege}
use Rattle.sse_base.specs.declared.events.EventDecl.{EventDecl}
use Rattle.sse_base.specs.Contexts.{Context, Triple, top_triple}
use Rattle.sse_base.specs.Machine.{stack_of}
use Rattle.ras_device.specs.declared.act.Act.{Act}
use Rattle.board_plan.specs.declared.notes.Step.{Step}
use Rattle.board_plan.specs.declared.notes.Step.TheVariants.{Hart, Reporter}
use Rattle.board_plan.specs.declared.ops.Op.{Op}
use Rattle.board_plan.specs.declared.ops.Op.TheVariants as ops
use Rattle.board_plan.specs.declared.ops.Placed.{Placed}
use Rattle.board_plan.specs.declared.plan.Plan.{Plan}
use Rattle.board_plan.specs.State.{BoardState}
use Rattle.board_plan.specs.Run.{lists}

-- an event that hardware signals
abbrev pub event : ℕ → EventDecl
event id = record { id = record { 0 = id }; inject = false }

-- the ops from an address on
abbrev pub ops_from : ℕ → List Op → List Placed
ops_from pc [] = []
ops_from pc (op ∷ more) = record { pc = pc; op = op } ∷ ops_from (pc + 4) more

-- a call of the SSE extension with up to five arguments
abbrev pub sbi : ℕ → List ℕ → Op
sbi fid args =
    ops.Sbi 0x535345 fid (slice_index_or args 0 0 ∷ slice_index_or args 1 0 ∷ slice_index_or args 2 0
    ∷ slice_index_or args 3 0 ∷ slice_index_or args 4 0 ∷ [])

-- one hart that begins at 0x1000, and one reporter
abbrev pub handlers_plan : List EventDecl → List Placed → List Act → Plan
handlers_plan events ops acts =
    record {
      version = 1;
      harts = 1;
      events = events;
      banks = [];
      recs = [];
      ops = ops;
      starts = record { hart = 0; pc = 0x1000; budget = 100 } ∷ [];
      reporters = record { device = None; limit = length acts; acts = acts } ∷ [];
      schedule = None;
    }

-- the acts that the plan lists
abbrev pub own_acts : Plan → ℕ → List Act
own_acts plan = lists plan []

abbrev pub h0 : Step
h0 = Hart 0

abbrev pub r0 : Step
r0 = Reporter 0

abbrev pub context : ℕ → Privilege → Bool → ℕ → ℕ → Context
context pc privilege sie a6 a7 = record { pc = pc; privilege = privilege; sie = sie; a6 = a6; a7 = a7 }

abbrev pub triple : ℕ → Privilege → Bool → Triple
triple sepc spp spie = record { sepc = sepc; spp = spp; spie = spie }

abbrev pub live_in : BoardState → Context
live_in s = (stack_of 0 s.machine).live

-- sepc, spp and spie
abbrev pub below_live : BoardState → Triple
below_live s = top_triple (stack_of 0 s.machine)
