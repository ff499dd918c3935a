-- Registers of a hart in code, and the contexts that they stand for.
use Rattle.std.proofs.Common.{◌≡◌, ℕ, Bool, true, false, List, [], ◌∷◌, get_or, set, refl, ap, sym, ◌∙◌}
use Rattle.std.proofs.lemmas.List.{set-get_or}
use Rattle.sse_base.specs.declared.contexts.Privilege.{Privilege}
use Rattle.sse_base.specs.declared.contexts.Privilege.TheVariants.{User, Supervisor}
use Rattle.sse_base.specs.Contexts.{Context, Frame, Triple, Stack, below, bit, fresh_stack, over, privilege_at, privilege_bit, top_triple, with_below}
use Rattle.hart_ctx.specs.Registers.{is_supervisor, regs_of, triple_in, with_regs}
use Rattle.board_plan.specs.declared.ops.Reg.{Reg}
use Rattle.board_plan.specs.declared.ops.Reg.TheVariants.{A6, A7, Sepc, Spp, Spie, Sie}
use Rattle.board_plan.specs.Ops.{is_odd, register, returned, set_register}
use Rattle.board_ops.specs.Own.{register_in, returned_in, with_register}

-- a hart's stack that is put back where it was
pub stays : (ss : List Stack) (h : ℕ) → set ss h (get_or ss h (fresh_stack 0)) ≡ ss
stays ss h = set-get_or ss h (fresh_stack 0)

same_privilege : (p : Privilege) → privilege_at (is_supervisor p) ≡ p
same_privilege User = refl
same_privilege Supervisor = refl

same_bit : (p : Privilege) → bit (is_supervisor p) ≡ privilege_bit p
same_bit User = refl
same_bit Supervisor = refl

put_back : (fs : List Frame) (base : Triple) → with_below (below fs base) fs base ≡ record { frames = fs; base = base }
put_back [] base = refl
put_back (f ∷ fs) base = refl

-- the triple in a hart's registers is its own
same_triple : (s : Stack) → triple_in (regs_of s) ≡ top_triple s
same_triple s =
    ap (λ p. record { sepc = (top_triple s).sepc; spp = p; spie = (top_triple s).spie })
    (same_privilege (top_triple s).spp)

-- a change of what is live alone
live_set : (live : Context) (s : Stack) → over live (with_below (triple_in (regs_of s)) s.frames s.base)
    ≡ record { live = live; frames = s.frames; base = s.base }
live_set live s =
    ap (λ t. over live (with_below t s.frames s.base)) (same_triple s) ∙ ap (over live) (put_back s.frames s.base)

pub register_set : (reg : Reg) (value : ℕ) (s : Stack) → with_regs (with_register reg value (regs_of s)) s
    ≡ set_register reg value s
register_set A6 value s = live_set (record s.live { a6 = value }) s
register_set A7 value s = live_set (record s.live { a7 = value }) s
register_set Sepc value s =
    ap (λ p. over s.live (with_below (record { sepc = value; spp = p; spie = (top_triple s).spie }) s.frames s.base))
    (same_privilege (top_triple s).spp)
register_set Spp value s = refl
register_set Spie value s =
    ap (λ p. over s.live (with_below
    (record { sepc = (top_triple s).sepc; spp = p; spie = is_odd value }) s.frames s.base))
    (same_privilege (top_triple s).spp)
register_set Sie value s = live_set (record s.live { sie = is_odd value }) s

pub register_read : (reg : Reg) (s : Stack) → register_in reg (regs_of s) ≡ register reg s
register_read A6 s = refl
register_read A7 s = refl
register_read Sepc s = refl
register_read Spp s = same_bit (top_triple s).spp
register_read Spie s = refl
register_read Sie s = refl

pub return_made : (s : Stack) → with_regs (returned_in (regs_of s)) s ≡ returned s
return_made s =
    ap (λ p. over (record {
      pc = (top_triple s).sepc;
      privilege = p;
      sie = (top_triple s).spie;
      a6 = s.live.a6;
      a7 =
          s.live.a7;
    })
    (with_below (record { sepc = (top_triple s).sepc; spp = User; spie = true }) s.frames s.base))
    (same_privilege (top_triple s).spp)

-- what is put below the handlers is what stands below them
set_below : (t : Triple) (fs : List Frame) (base : Triple) →
    below (with_below t fs base).frames (with_below t fs base).base ≡ t
set_below t [] base = refl
set_below t (f ∷ fs) base = refl

bit_of_privilege : (b : Bool) → bit b ≡ privilege_bit (privilege_at b)
bit_of_privilege true = refl
bit_of_privilege false = refl

-- what a register reads once it has been set
pub register_kept : (reg : Reg) (value : ℕ) (s : Stack) → register_in reg (with_register reg value (regs_of s))
    ≡ register reg (set_register reg value s)
register_kept A6 value s = refl
register_kept A7 value s = refl
register_kept Sepc value s =
    ap (λ (t : Triple). t.sepc) (sym (set_below (record (top_triple s) { sepc = value }) s.frames s.base))
register_kept Spp value s =
    bit_of_privilege (is_odd value)
    ∙ ap (λ (t : Triple). privilege_bit t.spp)
    (sym (set_below (record (top_triple s) { spp = privilege_at (is_odd value) }) s.frames s.base))
register_kept Spie value s =
    ap (λ (t : Triple). bit t.spie) (sym (set_below (record (top_triple s) { spie = is_odd value }) s.frames s.base))
register_kept Sie value s = refl

-- a register that a word is loaded into
pub ruleset loaded = (register_set, register_kept, stays)
