-- The handlers of a hart from the oldest on, each with its INTERRUPTED attributes.
-- SBI 3.0, "Supervisor Software Events", event attributes.
use Rattle.std.specs.Prelude.{ℕ, ◌==◌, if◌then◌else◌, List, [], ◌∷◌, ◌++◌}
use Rattle.sse_base.specs.declared.ids.Instance.{Instance}
use Rattle.sse_base.specs.Attributes.{INTERRUPTED_SEPC, INTERRUPTED_FLAGS, INTERRUPTED_A6}
use Rattle.sse_base.specs.Contexts.{Frame, Triple, below, flags_of}
use Rattle.hart_ctx.specs.declared.regs.Saved.{Saved}

-- an event, and the INTERRUPTED attributes of its handler, with the triple below it
abbrev pub told_by : Frame → Triple → Instance × Saved
told_by f t = (f.at, record { sepc = t.sepc; flags = flags_of t; a6 = f.saved.a6; a7 = f.saved.a7 })

abbrev pub running_in : List Frame → Triple → List (Instance × Saved)
running_in [] base = []
running_in (f ∷ fs) base = running_in fs base ++ told_by f (below fs base) ∷ []

-- one of the INTERRUPTED attributes, 6 to 9
abbrev pub word_of : ℕ → Saved → ℕ
word_of attr s =
    if attr == INTERRUPTED_SEPC then s.sepc
    else (if attr == INTERRUPTED_FLAGS then s.flags
    else (if attr == INTERRUPTED_A6 then s.a6
    else s.a7))
