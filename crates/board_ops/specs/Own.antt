-- The ops that reach their hart and memory alone, as the board book defines each of them: all but `ack` and `unplug`.
-- `ack` and `unplug` reach further: here they only move the pc on.
use Rattle.std.specs.Prelude.{ℕ, ◌&&◌, true, false, List, if◌then◌else◌}
use Rattle.sse_base.specs.Contexts.{Stack, bit, privilege_at}
use Rattle.sse_base.specs.Words.{load}
use Rattle.sse_base.specs.Machine.{Reach}
use Rattle.hart_ctx.specs.declared.regs.Regs.{Regs}
use Rattle.board_plan.specs.declared.notes.StepNote.TheVariants as note
use Rattle.board_plan.specs.declared.ops.Op.{Op}
use Rattle.board_plan.specs.declared.ops.Op.TheVariants as ops
use Rattle.board_plan.specs.declared.ops.Reg.{Reg}
use Rattle.board_plan.specs.declared.ops.Reg.TheVariants.{A6, A7, Sepc, Spp, Spie, Sie}
use Rattle.board_plan.specs.Ops.{Done, done, is_odd, is_user, needs_supervisor, past, sbi, set, loaded, save, store_word, risen, jump, jumped, sret}

-- on a hart that is past the op; `ack` and `unplug` are not the hart's own, and do nothing to it
abbrev pub own_done : ℕ → List Stack → Reach → Op → Done
own_done h stacks r ops.Nop = done r note.Nop
own_done h stacks r (ops.Sbi eid fid args) = sbi h eid fid args stacks r
own_done h stacks r (ops.Set reg value) = set reg value r
own_done h stacks r (ops.Load reg addr) = loaded reg r (load r.memory addr)
own_done h stacks r (ops.Save reg addr) = save reg addr r
own_done h stacks r (ops.Store addr value) = store_word addr value r
own_done h stacks r (ops.Inc addr) = risen addr r (load r.memory addr)
own_done h stacks r (ops.Jump pc) = jump pc r
own_done h stacks r (ops.Jlt addr value pc) = jumped value pc r (load r.memory addr)
own_done h stacks r ops.Sret = sret r
own_done h stacks r (ops.Ack bank) = done r note.Nop
own_done h stacks r (ops.Unplug reporter) = done r note.Nop

-- the hart's step: it goes past the op, which is passed over where it is illegal in the hart's mode
abbrev pub own_step : ℕ → List Stack → Reach → Op → Done
own_step h stacks r op =
    if is_user r.stack.live.privilege && needs_supervisor op then done (past r) note.Illegal
    else own_done h stacks (past r) op

-- a register among a hart's registers, and these with another value in it
abbrev pub register_in : Reg → Regs → ℕ
register_in A6 r = r.a6
register_in A7 r = r.a7
register_in Sepc r = r.sepc
register_in Spp r = bit r.spp
register_in Spie r = bit r.spie
register_in Sie r = bit r.sie

abbrev pub with_register : Reg → ℕ → Regs → Regs
with_register A6 value r = record r { a6 = value }
with_register A7 value r = record r { a7 = value }
with_register Sepc value r = record r { sepc = value }
with_register Spp value r = record r { spp = is_odd value }
with_register Spie value r = record r { spie = is_odd value }
with_register Sie value r = record r { sie = is_odd value }

-- the registers after a return
abbrev pub returned_in : Regs → Regs
returned_in r =
    record {
      pc = r.sepc;
      privilege = privilege_at r.spp;
      sie = r.spie;
      sepc = r.sepc;
      spp = false;
      spie = true;
      a6 = r.a6;
      a7 = r.a7;
    }
