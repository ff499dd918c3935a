-- A hart's line by its registers.
use Rattle.std.proofs.Common.{◌≡◌, refl}
use Rattle.sse_base.specs.declared.contexts.Privilege.{Privilege}
use Rattle.sse_base.specs.declared.contexts.Privilege.TheVariants.{User, Supervisor}
use Rattle.sse_base.specs.Contexts.{Stack, top_triple, privilege_at}
use Rattle.hart_ctx.specs.declared.regs.Regs.{Regs}
use Rattle.hart_ctx.specs.Registers.{is_supervisor, live_of, triple_in, regs_of}
use Rattle.board_plan.specs.Text.{context_text}

spp-again : (p : Privilege) → privilege_at (is_supervisor p) ≡ p
spp-again User = refl
spp-again Supervisor = refl

-- the registers are what is live, and the triple below
pub context-regs : (r : Regs) (s : Stack) → r ≡ regs_of s → context_text (live_of r)
    (triple_in r) ≡ context_text s.live (top_triple s)
context-regs r s e = rw (e, spp-again (top_triple s).spp)

pub ruleset hart = (context-regs)
