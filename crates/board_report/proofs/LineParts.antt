-- The parts of a line, one after another.
use Rattle.std.proofs.Common.{◌≡◌, ℕ, Bool, true, false, List, [], ◌∷◌, ◌++◌, codes, decimal, refl, append_assoc}
use Rattle.std.specs.Fmt.{signed_decimal}
use Rattle.ras_text.specs.Numbers.{hexadecimal}
use Rattle.hart_ctx.specs.declared.regs.Regs.{Regs}
use Rattle.hart_ctx.specs.Registers.{live_of, triple_in}
use Rattle.sse_base.specs.Contexts.{bit, privilege_at, privilege_bit}
use Rattle.board_plan.specs.declared.notes.Counts.{Counts}
use Rattle.board_plan.specs.Text.{field, bit_text, privilege_text, context_text, counts_text}

-- a name and a value behind a text
pub field-put : (old name value : List ℕ) → (((old ++ 32 ∷ []) ++ name) ++ 32 ∷ []) ++ value ≡ old ++ field name value
unfolding field
field-put old name value = simp append_assoc

pub ruleset fields = (field-put)

-- one more word in a value
pub field-more : (old name value more : List ℕ) → ((old ++ field name value) ++ 32 ∷ []) ++ more ≡ old ++ field name
    (value ++ 32 ∷ more)
unfolding field
field-more old name value more = simp append_assoc

pub ruleset drains = (field-more)

pub bit-put : (b : Bool) → decimal (bit b) ≡ bit_text b
bit-put b = refl

pub ruleset bits = (bit-put)

pub spp-put : (b : Bool) → decimal (privilege_bit (privilege_at b)) ≡ bit_text b
spp-put true = refl
spp-put false = refl

pub context-put : (old : List ℕ) (r : Regs) →
    (((((((old ++ field (codes "pc") (hexadecimal r.pc)) ++ field (codes "priv") (privilege_text r.privilege))
    ++ field (codes "sie") (bit_text r.sie))
    ++ field (codes "sepc") (hexadecimal r.sepc)) ++ field (codes "spp") (bit_text r.spp)) ++ field (codes "spie")
    (bit_text r.spie))
    ++ field (codes "a6") (hexadecimal r.a6)) ++ field (codes "a7") (hexadecimal r.a7) ≡ old ++ context_text
    (live_of r) (triple_in r)
unfolding context_text
context-put old r = rw (spp-put r.spp) (simp append_assoc)

pub ruleset contexts = (context-put)

pub counts-put : (old : List ℕ) (c : Counts) →
    ((old ++ field (codes "calls") (decimal c.calls)) ++ field (codes "failed") (decimal c.failed)) ++ field
    (codes "last") (signed_decimal c.last) ≡ old ++ counts_text c
unfolding counts_text
counts-put old c = simp append_assoc

pub ruleset counts = (counts-put)
