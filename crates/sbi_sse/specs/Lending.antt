-- What becomes of the firmware while its memory is lent. This project's own.
use Rattle.std.specs.Prelude.{ℕ, List}
use Rattle.std.specs.Borrow.{Lends, MutBor, Fml}
use Rattle.sse_base.specs.Machine.{Machine}
use Rattle.hart_ctx.specs.contracts.memory.Memory.{the_row as memory_row}
use Rattle.sbi_sse.specs.contracts.firmware.Firmware.{the_row}

-- the machine with other memory
abbrev pub with_words : Machine → List ℕ → Machine
with_words m words = record { events = m.events; masks = m.masks; stacks = m.stacks; memory = words }

-- it ends with the memory as the borrower left it, and all else as it was
abbrev pub LendsMemory : MutBor Machine → MutBor (List ℕ) → Fml
LendsMemory s r = Lends the_row memory_row s r (with_words s.now)
