-- The texts of a run: the trace, the full report and the short one. This project's own, but for the spelling of a
-- block, which is that of the record book. Words are joined by single spaces, a bit is the digit 0 or 1, and a newline
-- ends each line.
use Rattle.std.specs.Prelude.{ℕ, ◌+◌, ◌*◌, ◌/◌, ◌%◌, max, ◌==◌, nat_lt, Bool, true, false, if◌then◌else◌, List, [], ◌∷◌, ◌++◌, map, length, take, drop, Option, Some, None, codes, decimal}
use Rattle.std.specs.List.{flat_map, range_with_len}
use Rattle.std.specs.Fmt.{signed_decimal}
use Rattle.ras_text.specs.Numbers.{hexadecimal}
use Rattle.sse_base.specs.declared.contexts.Privilege.{Privilege}
use Rattle.sse_base.specs.declared.contexts.Privilege.TheVariants.{User, Supervisor}
use Rattle.sse_base.specs.declared.ids.Instance.{Instance}
use Rattle.sse_base.specs.declared.ids.Instance.TheVariants.{Local, Global}
use Rattle.sse_base.specs.declared.events.Slot.{Slot}
use Rattle.sse_base.specs.Ids.{id_of}
use Rattle.sse_base.specs.Events.{slots}
use Rattle.sse_base.specs.Contexts.{Context, Frame, Triple, Stack, below, top_triple, bit, privilege_bit, flags_of}
use Rattle.sse_base.specs.Calls.{state_number}
use Rattle.reri_fields.specs.declared.report.RecordCopy.{RecordCopy}
use Rattle.reri_fields.specs.declared.drain.Phase.{Phase}
use Rattle.reri_fields.specs.declared.drain.Phase.TheVariants.{Scan, Claim, Address, Info, Supplement, Time, Check, Invalidate, Signal}
use Rattle.reri_fields.specs.Records.{Origin, copy_after}
use Rattle.reri_fields.specs.Banks.{BankEvent, events_of, asks}
use Rattle.reri_fields.specs.Block.{spelling}
use Rattle.reri_fields.specs.Drain.{Draining, BankState}
use Rattle.ras_device.specs.declared.act.Act.{Act}
use Rattle.board_plan.specs.declared.notes.Step.{Step}
use Rattle.board_plan.specs.declared.notes.Step.TheVariants.{Hart, Reporter}
use Rattle.board_plan.specs.declared.notes.Counts.{Counts}
use Rattle.board_plan.specs.declared.notes.Fates as fates
use Rattle.board_plan.specs.declared.plan.BankDecl.{BankDecl}
use Rattle.board_plan.specs.declared.plan.RecDecl.{RecDecl}
use Rattle.board_plan.specs.declared.plan.Plan.{Plan}
use Rattle.board_plan.specs.State.{bank_plan}
use Rattle.board_plan.specs.Run.{Noted, Ran, ran, steps_of}
use Rattle.board_plan.specs.Notes.{note_text}
use Rattle.board_plan.specs.Fates.{fates_of}

-- ---- Parts of lines ----

-- a value behind its name: ` NAME VALUE`
unfoldable pub field : List ℕ → List ℕ → List ℕ
field name value = 32 ∷ (name ++ 32 ∷ value)

-- the bytes of some lines
abbrev pub bytes_of : List (List ℕ) → List ℕ
bytes_of [] = []
bytes_of (l ∷ ls) = l ++ 10 ∷ bytes_of ls

abbrev pub bit_text : Bool → List ℕ
bit_text b = decimal (bit b)

-- an actor: `h` or `r`, and its number
abbrev pub actor_text : Step → List ℕ
actor_text (Hart h) = codes "h" ++ decimal h
actor_text (Reporter r) = codes "r" ++ decimal r

-- ---- The trace ----

-- a step: its number from 1 on, who made it, and its note
unfoldable pub trace_line : ℕ → Noted → List ℕ
trace_line number n = decimal number ++ 32 ∷ (actor_text n.by ++ 32 ∷ note_text n.note)

abbrev pub trace_lines : ℕ → List Noted → List (List ℕ)
trace_lines number [] = []
trace_lines number (n ∷ ns) = trace_line number n ∷ trace_lines (number + 1) ns

-- ---- The report: what was made, on which board ----

unfoldable pub head_line : Plan → ℕ → List ℕ
head_line plan steps =
    codes "board " ++ decimal plan.version ++ field (codes "harts") (decimal plan.harts)
    ++ field (codes "banks") (decimal (length plan.banks))
    ++ field (codes "reporters") (decimal (length plan.reporters)) ++ field (codes "steps") (decimal steps)

-- ---- Harts ----

abbrev pub privilege_text : Privilege → List ℕ
privilege_text User = codes "U"
privilege_text Supervisor = codes "S"

-- a hart: what it runs, and what is counted of it
unfoldable pub context_text : Context → Triple → List ℕ
context_text c t =
    field (codes "pc") (hexadecimal c.pc) ++ field (codes "priv") (privilege_text c.privilege)
    ++ field (codes "sie") (bit_text c.sie) ++ field (codes "sepc") (hexadecimal t.sepc)
    ++ field (codes "spp") (decimal (privilege_bit t.spp)) ++ field (codes "spie") (bit_text t.spie)
    ++ field (codes "a6") (hexadecimal c.a6) ++ field (codes "a7") (hexadecimal c.a7)

unfoldable pub counts_text : Counts → List ℕ
counts_text c =
    field (codes "calls") (decimal c.calls) ++ field (codes "failed") (decimal c.failed)
    ++ field (codes "last") (signed_decimal c.last)

unfoldable pub hart_line : ℕ → Counts → Bool → Stack → List ℕ
hart_line h c masked s =
    codes "hart " ++ decimal h ++ field (codes "steps") (decimal c.steps) ++ field (codes "masked") (bit_text masked)
    ++ context_text s.live (top_triple s) ++ field (codes "depth") (decimal (length s.frames)) ++ counts_text c

-- a handler that runs, by number from the oldest, with its INTERRUPTED attributes
unfoldable pub frame_line : ℕ → ℕ → Instance → Context → Triple → List ℕ
frame_line h number at own t =
    codes "frame " ++ decimal h ++ 32 ∷ (decimal number ++ field (codes "event") (hexadecimal (id_of at).0)
    ++ field (codes "sepc") (hexadecimal t.sepc) ++ field (codes "flags") (decimal (flags_of t))
    ++ field (codes "a6") (hexadecimal own.a6) ++ field (codes "a7") (hexadecimal own.a7))

abbrev pub frame_lines : ℕ → List Frame → Triple → List (List ℕ)
frame_lines h [] base = []
frame_lines h (f ∷ fs) base =
    frame_lines h fs base ++ frame_line h (length (f ∷ fs)) f.at f.saved (below fs base) ∷ []

abbrev pub lines_of_hart : ℕ → Counts → Bool → Stack → List (List ℕ)
lines_of_hart h c masked s = hart_line h c masked s ∷ frame_lines h s.frames s.base

-- hart by hart, from this number on
abbrev pub hart_lines : ℕ → List Counts → List Bool → List Stack → List (List ℕ)
hart_lines h (c ∷ cs) (m ∷ ms) (s ∷ ss) = lines_of_hart h c m s ++ hart_lines (h + 1) cs ms ss
hart_lines h cs ms ss = []

-- ---- Events ----

-- an instance with its attributes; a global one belongs to no hart
abbrev pub owner_text : Instance → List ℕ
owner_text (Local id hart) = decimal hart
owner_text (Global id) = codes "-"

unfoldable pub event_line : Slot → List ℕ
event_line s =
    codes "event " ++ hexadecimal (id_of s.at).0 ++ field (codes "hart") (owner_text s.at)
    ++ field (codes "state") (decimal (state_number s.event.state)) ++ field (codes "pending") (bit_text s.pending)
    ++ field (codes "priority") (decimal s.event.priority) ++ field (codes "config") (bit_text s.event.oneshot)
    ++ field (codes "preferred") (decimal s.event.preferred) ++ field (codes "entry") (hexadecimal s.event.entry)
    ++ field (codes "arg") (hexadecimal s.event.arg)

-- ---- Banks ----

abbrev pub scope_text : Bool → List ℕ
scope_text false = codes "local"
scope_text true = codes "global"

abbrev pub slot_text : List RecordCopy → List ℕ
slot_text [] = codes "free"
slot_text (copy ∷ copies) = codes "full"

abbrev pub phase_text : Phase → List ℕ
phase_text Scan = codes "scan"
phase_text Claim = codes "claim"
phase_text Address = codes "address"
phase_text Info = codes "info"
phase_text Supplement = codes "supplement"
phase_text Time = codes "time"
phase_text Check = codes "check"
phase_text Invalidate = codes "invalidate"
phase_text Signal = codes "signal"

-- the next phase of a drain, and its record
abbrev pub drain_text : Option Draining → List ℕ
drain_text None = codes "none"
drain_text (Some d) = phase_text d.phase ++ 32 ∷ decimal d.rec

unfoldable pub bank_line : ℕ → BankDecl → List Origin → BankState → List ℕ
bank_line bank d origins s =
    codes "bank " ++ decimal bank ++ field (codes "home") (decimal d.home)
    ++ field (codes "scope") (scope_text d.global) ++ field (codes "asks") (bit_text (asks origins s.history))
    ++ field (codes "block") (slot_text s.slot)
    ++ field (codes "drain") (drain_text s.drain)

unfoldable pub record_line : ℕ → ℕ → RecordCopy → List ℕ
record_line bank rec copy =
    codes "record " ++ decimal bank ++ 32 ∷ (decimal rec ++ field (codes "control") (hexadecimal copy.control)
    ++ field (codes "status") (hexadecimal copy.status) ++ field (codes "address") (hexadecimal copy.address)
    ++ field (codes "info") (hexadecimal copy.info) ++ field (codes "supplement") (hexadecimal copy.supplement)
    ++ field (codes "time") (hexadecimal copy.time))

abbrev pub record_lines : ℕ → ℕ → List Origin → List BankEvent → List (List ℕ)
record_lines bank rec [] history = []
record_lines bank rec (o ∷ os) history =
    record_line bank rec (copy_after o (events_of rec history)) ∷ record_lines bank (rec + 1) os history

-- a byte as two hexadecimal digits
abbrev pub hex_digit : ℕ → ℕ
hex_digit n = if nat_lt n 10 then 48 + n else 87 + n

abbrev pub byte_text : ℕ → List ℕ
byte_text b = hex_digit (b / 16) ∷ hex_digit (b % 16) ∷ []

-- The bytes of a block go on lines of their own: the first 140, which are its header and its first entry, and then each
-- next 120, an entry each.
unfoldable pub bytes_of_entry : List ℕ → ℕ → List ℕ
bytes_of_entry bytes k = if k == 0 then take 140 bytes else take 120 (drop (20 + 120 * k) bytes)

unfoldable pub block_line : ℕ → List ℕ → List ℕ
block_line bank bytes = codes "block " ++ decimal bank ++ 32 ∷ flat_map byte_text bytes

abbrev pub block_lines : ℕ → List RecordCopy → List (List ℕ)
block_lines bank copies =
    map (λ k. block_line bank (bytes_of_entry (spelling copies) k)) (range_with_len 0 (length copies))

abbrev pub lines_of_bank : ℕ → BankDecl → List Origin → BankState → List (List ℕ)
lines_of_bank bank d origins s =
    (bank_line bank d origins s ∷ record_lines bank 0 origins s.history) ++ block_lines bank s.slot

-- bank by bank, from this number on
abbrev pub bank_lines : ℕ → List RecDecl → List BankDecl → List BankState → List (List ℕ)
bank_lines bank recs (d ∷ ds) (s ∷ ss) =
    lines_of_bank bank d (bank_plan bank d recs).origins s ++ bank_lines (bank + 1) recs ds ss
bank_lines bank recs ds ss = []

-- ---- Fates, memory, the steps that were made ----

unfoldable pub fates_line : fates.Fates → List ℕ
fates_line f =
    codes "fates" ++ field (codes "made") (decimal f.made) ++ field (codes "stray") (decimal f.stray)
    ++ field (codes "disabled") (decimal f.disabled) ++ field (codes "counted") (decimal f.counted)
    ++ field (codes "drained") (decimal f.drained) ++ field (codes "overwritten") (decimal f.overwritten)
    ++ field (codes "kept") (decimal f.kept) ++ field (codes "stands") (decimal f.stands)

-- the words of memory that aren't 0, by rising address
unfoldable pub word_line : ℕ → ℕ → List ℕ
word_line addr word = codes "word " ++ hexadecimal addr ++ 32 ∷ hexadecimal word

abbrev pub word_lines : ℕ → List ℕ → List (List ℕ)
word_lines addr [] = []
word_lines addr (w ∷ ws) = if w == 0 then word_lines (addr + 8) ws else word_line addr w ∷ word_lines (addr + 8) ws

-- 16 steps a line, and one line without a step where none was made
abbrev pub entry_text : Step → List ℕ
entry_text step = 32 ∷ actor_text step

unfoldable pub schedule_line : List Step → List ℕ
schedule_line entries = codes "schedule" ++ flat_map entry_text entries

unfoldable pub entries_of_line : List Step → ℕ → List Step
entries_of_line steps k = take 16 (drop (16 * k) steps)

abbrev pub schedule_lines : List Step → List (List ℕ)
schedule_lines steps =
    map (λ k. schedule_line (entries_of_line steps k)) (range_with_len 0 (max 1 ((length steps + 15) / 16)))

abbrev pub end_line : List ℕ
end_line = codes "end"

-- ---- The texts of a run ----

abbrev pub full_lines : Plan → Ran → List (List ℕ)
full_lines plan r =
    (head_line plan (length r.notes) ∷ [])
    ++ hart_lines 0 r.state.counts r.state.machine.masks r.state.machine.stacks
    ++ map event_line (slots r.state.machine.events)
    ++ bank_lines 0 plan.recs plan.banks r.state.banks
    ++ fates_line (fates_of plan r.notes) ∷ []
    ++ word_lines 0x80000000 r.state.machine.memory
    ++ schedule_lines (steps_of r.notes)
    ++ end_line ∷ []

abbrev pub short_lines : Plan → Ran → List (List ℕ)
short_lines plan r = head_line plan (length r.notes) ∷ fates_line (fates_of plan r.notes) ∷ end_line ∷ []

unfoldable pub trace : Plan → (ℕ → List Act) → List Step → List ℕ
trace plan acts tries = bytes_of (trace_lines 1 (ran plan acts tries).notes)

unfoldable pub full : Plan → (ℕ → List Act) → List Step → List ℕ
full plan acts tries = bytes_of (full_lines plan (ran plan acts tries))

unfoldable pub short : Plan → (ℕ → List Act) → List Step → List ℕ
short plan acts tries = bytes_of (short_lines plan (ran plan acts tries))
