-- The ops of a supervisor's program: what each of them makes of its hart, and its note. `sret`, and which registers
-- user mode doesn't see, follow the RISC-V Privileged Specification in this project's profile: six registers, an `sret`
-- that leaves sepc, and an illegal op that is passed over. All else is this project's own. An op acts on a hart whose
-- pc is already past the op, 4 further.
use Rattle.std.specs.Prelude.{ℕ, ◌+◌, ◌%◌, ◌^◌, ◌==◌, nat_lt, Bool, true, false, if◌then◌else◌, List, Option, Some, None, find, option_map}
use Rattle.sse_base.specs.declared.contexts.Privilege.{Privilege}
use Rattle.sse_base.specs.declared.contexts.Privilege.TheVariants.{User, Supervisor}
use Rattle.sse_base.specs.Contexts.{Context, Stack, with_triple, with_pc, top_triple, change_top, privilege_bit, privilege_at, bit}
use Rattle.sse_base.specs.Words.{store}
use Rattle.sse_base.specs.Machine.{Reach}
use Rattle.sse_base.specs.Calls.{Answer, call, with_memory}
use Rattle.board_plan.specs.declared.notes.StepNote.{StepNote}
use Rattle.board_plan.specs.declared.notes.StepNote.TheVariants as note
use Rattle.board_plan.specs.declared.ops.Op.{Op}
use Rattle.board_plan.specs.declared.ops.Op.TheVariants as ops
use Rattle.board_plan.specs.declared.ops.Placed.{Placed}
use Rattle.board_plan.specs.declared.ops.Reg.{Reg}
use Rattle.board_plan.specs.declared.ops.Reg.TheVariants.{A6, A7, Sepc, Spp, Spie, Sie}

-- the op at an address
abbrev pub op_at : ℕ → List Placed → Option Op
op_at pc placed = option_map (λ p. p.op) (find (λ p. p.pc == pc) placed)

-- ---- Privilege ----

abbrev pub is_user : Privilege → Bool
is_user User = true
is_user Supervisor = false

-- user mode sees a6 and a7 alone
abbrev pub is_supervisors : Reg → Bool
is_supervisors A6 = false
is_supervisors A7 = false
is_supervisors reg = true

-- the ops that are illegal in user mode
abbrev pub needs_supervisor : Op → Bool
needs_supervisor (ops.Sbi eid fid args) = true
needs_supervisor (ops.Set reg value) = is_supervisors reg
needs_supervisor (ops.Load reg addr) = is_supervisors reg
needs_supervisor (ops.Save reg addr) = is_supervisors reg
needs_supervisor ops.Sret = true
needs_supervisor (ops.Ack bank) = true
needs_supervisor (ops.Unplug reporter) = true
needs_supervisor op = false

-- ---- Registers ----

-- what a register reads: sepc, spp and spie are those of the newest handler, or of the hart where none runs
abbrev pub register : Reg → Stack → ℕ
register A6 s = s.live.a6
register A7 s = s.live.a7
register Sepc s = (top_triple s).sepc
register Spp s = privilege_bit (top_triple s).spp
register Spie s = bit (top_triple s).spie
register Sie s = bit s.live.sie

-- the low bit of a value
abbrev pub is_odd : ℕ → Bool
is_odd value = value % 2 == 1

abbrev pub with_live : Context → Stack → Stack
with_live c s = record s { live = c }

-- a register takes a value; one of a single bit takes the value's lowest
abbrev pub set_register : Reg → ℕ → Stack → Stack
set_register A6 value s = with_live (record s.live { a6 = value }) s
set_register A7 value s = with_live (record s.live { a7 = value }) s
set_register Sepc value s = change_top (λ t. record t { sepc = value }) s
set_register Spp value s = change_top (λ t. record t { spp = privilege_at (is_odd value) }) s
set_register Spie value s = change_top (λ t. record t { spie = is_odd value }) s
set_register Sie value s = with_live (record s.live { sie = is_odd value }) s

-- ---- The ops that act on their hart and on memory ----

-- what an op leaves of its hart's reach, and its note
pub record Done : Type 0 where
  pub reach : Reach
  pub note : StepNote

abbrev pub done : Reach → StepNote → Done
done r n = record { reach = r; note = n }

abbrev pub on_stack : (Stack → Stack) → Reach → Reach
on_stack f r = record r { stack = f r.stack }

-- 4 further, modulo 2^64
abbrev pub past : Reach → Reach
past r = on_stack (with_pc ((r.stack.live.pc + 4) % 2 ^ 64)) r

-- `sbi`: a call of the firmware, which sees every hart's handlers
abbrev pub called : ℕ → ℕ → List ℕ → Answer → Done
called eid fid args a = done a.reach (note.Call eid fid args a.code a.written)

abbrev pub sbi : ℕ → ℕ → ℕ → List ℕ → List Stack → Reach → Done
sbi h eid fid args stacks r = called eid fid args (call h eid fid args stacks r)

-- `set`
abbrev pub set : Reg → ℕ → Reach → Done
set reg value r = done (on_stack (set_register reg value) r) (note.Set reg value)

-- `load`: the note has what the register reads then
abbrev pub loaded : Reg → Reach → Option ℕ → Done
loaded reg r None = done r note.Fault
loaded reg r (Some word) =
    let s = set_register reg word r.stack in
    done (record r { stack = s }) (note.Load reg (register reg s))

-- a word of memory takes a value
abbrev pub stored : Reach → StepNote → Option (List ℕ) → Done
stored r n None = done r note.Fault
stored r n (Some memory) = done (with_memory memory r) n

-- `save` and `store`
abbrev pub save : Reg → ℕ → Reach → Done
save reg addr r =
    let value = register reg r.stack in
    stored r (note.Save addr value) (store r.memory addr value)

abbrev pub store_word : ℕ → ℕ → Reach → Done
store_word addr value r = stored r (note.Store addr value) (store r.memory addr value)

-- `inc`: modulo 2^64
abbrev pub risen : ℕ → Reach → Option ℕ → Done
risen addr r None = done r note.Fault
risen addr r (Some word) =
    let value = (word + 1) % 2 ^ 64 in
    stored r (note.Inc addr value) (store r.memory addr value)

-- `jump`, and `jlt`, which jumps where a word is below a value
abbrev pub jump : ℕ → Reach → Done
jump pc r = done (on_stack (with_pc pc) r) (note.Jump pc)

abbrev pub jumped : ℕ → ℕ → Reach → Option ℕ → Done
jumped value pc r None = done r note.Fault
jumped value pc r (Some word) =
    if nat_lt word value then done (on_stack (with_pc pc) r) (note.Jlt true) else done r (note.Jlt false)

-- `sret`: to sepc, in the mode spp, with spie as sie; then spie is 1 and spp is user
abbrev pub returned : Stack → Stack
returned s =
    change_top (λ t. record t { spp = User; spie = true }) (with_live (with_triple (top_triple s) s.live) s)

abbrev pub sret : Reach → Done
sret r = done (on_stack returned r) note.Sret
