-- The attributes of an event, and ranges of them.
-- SBI 3.0, "Supervisor Software Events", event attributes: there are ten, with these names and numbers. That an empty
-- range is refused before one that is too long is this project's own rule.
use Rattle.std.specs.Prelude.{ℕ, ◌+◌, ◌==◌, nat_lt, if◌then◌else◌, Result, Ok, Err}
use Rattle.sse_base.specs.declared.attributes.AttrRange.{AttrRange}
use Rattle.sse_base.specs.declared.attributes.RangeFault.{RangeFault}
use Rattle.sse_base.specs.declared.attributes.RangeFault.TheVariants.{Zero, Reserved}

abbrev pub STATUS : ℕ
STATUS = 0

abbrev pub PRIORITY : ℕ
PRIORITY = 1

abbrev pub CONFIG : ℕ
CONFIG = 2

abbrev pub PREFERRED_HART : ℕ
PREFERRED_HART = 3

abbrev pub ENTRY_PC : ℕ
ENTRY_PC = 4

abbrev pub ENTRY_ARG : ℕ
ENTRY_ARG = 5

abbrev pub INTERRUPTED_SEPC : ℕ
INTERRUPTED_SEPC = 6

abbrev pub INTERRUPTED_FLAGS : ℕ
INTERRUPTED_FLAGS = 7

abbrev pub INTERRUPTED_A6 : ℕ
INTERRUPTED_A6 = 8

abbrev pub INTERRUPTED_A7 : ℕ
INTERRUPTED_A7 = 9

-- so many attributes from one on
abbrev pub range_of : ℕ → ℕ → Result AttrRange RangeFault
range_of base count =
    if count == 0 then Err Zero
    else (if nat_lt 10 (base + count) then Err Reserved else Ok (record { base = base; count = count }))
