-- A delivery and a completion in terms of registers.
-- SBI 3.0, "Supervisor Software Events", software event delivery and completion. That sepc keeps all 64 bits is this
-- project's own rule.
use Rattle.std.specs.Prelude.{ℕ, ◌+◌, ◌*◌, ◌/◌, ◌%◌, ◌==◌, Bool, true, false}
use Rattle.sse_base.specs.declared.contexts.Privilege.{Privilege}
use Rattle.sse_base.specs.declared.contexts.Privilege.TheVariants.{User, Supervisor}
use Rattle.sse_base.specs.Contexts.{Context, Triple, Stack, bit, privilege_at, over, with_below, top_triple}
use Rattle.hart_ctx.specs.declared.regs.Regs.{Regs}
use Rattle.hart_ctx.specs.declared.regs.Saved.{Saved}

abbrev pub is_supervisor : Privilege → Bool
is_supervisor User = false
is_supervisor Supervisor = true

-- what a delivery keeps
abbrev pub saved_of : Regs → Saved
saved_of r = record { sepc = r.sepc; flags = bit r.spp + 2 * bit r.spie; a6 = r.a6; a7 = r.a7 }

-- the registers after a delivery
abbrev pub entered : ℕ → ℕ → ℕ → Regs → Regs
entered entry arg hart r =
    record {
      pc = entry;
      privilege = Supervisor;
      sie = false;
      sepc = r.pc;
      spp = is_supervisor r.privilege;
      spie = r.sie;
      a6 = hart;
      a7 = arg;
    }

-- the registers after a completion
abbrev pub resumed : Saved → Regs → Regs
resumed s r =
    record {
      pc = r.sepc;
      privilege = privilege_at r.spp;
      sie = r.spie;
      sepc = s.sepc;
      spp = s.flags % 2 == 1;
      spie = s.flags / 2 % 2 == 1;
      a6 = s.a6;
      a7 = s.a7;
    }

-- The registers as a hart's contexts: what is live, and the triple below it.

abbrev pub live_of : Regs → Context
live_of r = record { pc = r.pc; privilege = r.privilege; sie = r.sie; a6 = r.a6; a7 = r.a7 }

abbrev pub triple_in : Regs → Triple
triple_in r = record { sepc = r.sepc; spp = privilege_at r.spp; spie = r.spie }

-- the registers of a hart
abbrev pub regs_with : Context → Triple → Regs
regs_with c t =
    record {
      pc = c.pc;
      privilege = c.privilege;
      sie = c.sie;
      sepc = t.sepc;
      spp = is_supervisor t.spp;
      spie = t.spie;
      a6 = c.a6;
      a7 = c.a7;
    }

abbrev pub regs_of : Stack → Regs
regs_of s = regs_with s.live (top_triple s)

-- the hart with other registers: what is live, and the triple that the running code sees
abbrev pub with_regs : Regs → Stack → Stack
with_regs r s = over (live_of r) (with_below (triple_in r) s.frames s.base)
