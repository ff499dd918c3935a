-- The lines of a report by what is told of a board, and not by the states that it stands for (describes code). This
-- project's own, over the texts of the board book; no public clause cites it.
use Rattle.std.specs.Prelude.{◌≡◌, ℕ, ◌+◌, ◌^◌, ◌<◌, Bool, List, [], ◌∷◌, ◌++◌, map, length, slice_get, IsTrue, Option, Some, None, option_map, codes, decimal}
use Rattle.ras_text.specs.Numbers.{hexadecimal}
use Rattle.sse_base.specs.declared.ids.Instance.{Instance}
use Rattle.sse_base.specs.Ids.{id_of}
use Rattle.sse_base.specs.Events.{slots}
use Rattle.hart_ctx.specs.declared.regs.Saved.{Saved}
use Rattle.reri_fields.specs.declared.report.RecordCopy.{RecordCopy}
use Rattle.reri_fields.specs.declared.drain.Phase.{Phase}
use Rattle.reri_fields.specs.Banks.{BankView}
use Rattle.reri_fields.specs.Drain.{Draining}
use Rattle.board_plan.specs.declared.notes.Step.{Step}
use Rattle.board_plan.specs.declared.notes.StepNote.{StepNote}
use Rattle.board_plan.specs.declared.notes.Fates.{Fates}
use Rattle.board_plan.specs.declared.plan.BankDecl.{BankDecl}
use Rattle.board_plan.specs.declared.plan.Plan.{Plan}
use Rattle.board_plan.specs.State.{BoardState}
use Rattle.board_plan.specs.Notes.{has_text}
use Rattle.board_plan.specs.Text.{field, bit_text, scope_text, slot_text, phase_text, head_line, hart_lines, event_line, record_line, block_lines, fates_line, word_lines, schedule_lines, end_line, trace_line}
use Rattle.board_bank.specs.Standing.{BankParts}
use Rattle.board_parts.specs.declared.parts.Parts.{Parts}
use Rattle.board_parts.specs.Shows.{Shows}

-- a handler that runs, by its INTERRUPTED attributes
unfoldable pub told_line : ℕ → ℕ → Instance → Saved → List ℕ
told_line h number at saved =
    codes "frame " ++ decimal h ++ 32 ∷ (decimal number ++ field (codes "event") (hexadecimal (id_of at).0)
    ++ field (codes "sepc") (hexadecimal saved.sepc) ++ field (codes "flags") (decimal saved.flags)
    ++ field (codes "a6") (hexadecimal saved.a6) ++ field (codes "a7") (hexadecimal saved.a7))

-- these handlers from the oldest on, numbered from here
abbrev pub told_lines : ℕ → ℕ → List (Instance × Saved) → List (List ℕ)
told_lines h number [] = []
told_lines h number (t ∷ ts) = told_line h number t.0 t.1 ∷ told_lines h (number + 1) ts

-- the next phase of a drain and its record
abbrev pub told_phase : Option (Phase × ℕ) → List ℕ
told_phase None = codes "none"
told_phase (Some at) = phase_text at.0 ++ 32 ∷ decimal at.1

-- a bank, by whether it asks, whether its slot is full, and the phase of its drain
unfoldable pub told_bank : ℕ → BankDecl → Bool → List RecordCopy → Option (Phase × ℕ) → List ℕ
told_bank bank d asking copies phase =
    codes "bank " ++ decimal bank ++ field (codes "home") (decimal d.home)
    ++ field (codes "scope") (scope_text d.global) ++ field (codes "asks") (bit_text asking) ++ field (codes "block")
    (slot_text copies)
    ++ field (codes "drain") (told_phase phase)

-- the records of a bank by their registers, numbered from here
abbrev pub told_records : ℕ → ℕ → List RecordCopy → List (List ℕ)
told_records bank rec [] = []
told_records bank rec (copy ∷ copies) = record_line bank rec copy ∷ told_records bank (rec + 1) copies

-- a bank by its registers, the copies in its slot, and the phase of its drain
abbrev pub told_bank_lines : ℕ → BankDecl → BankView → List RecordCopy → Option (Phase × ℕ) → List (List ℕ)
told_bank_lines number d bank copies phase =
    (told_bank number d bank.asks copies phase ∷ told_records number 0 bank.copies) ++ block_lines number copies

-- the phase of a drain that is under way, and its record
abbrev pub phase_of : Option Draining → Option (Phase × ℕ)
phase_of drain = option_map (λ d. (d.phase, d.rec)) drain

-- bank by bank, numbered from here
abbrev pub told_banks : ℕ → List BankDecl → List BankParts → List (List ℕ)
told_banks number (d ∷ ds) (b ∷ bs) =
    told_bank_lines number d b.bank b.slot (phase_of b.drain) ++ told_banks (number + 1) ds bs
told_banks number ds bs = []

-- each status fits a word
abbrev pub AreWords : List RecordCopy → Type 0
AreWords copies = (i : ℕ) (copy : RecordCopy) → slice_get copies i ≡ Some copy → copy.status < 2 ^ 64

abbrev pub EachAreWords : List BankParts → Type 0
EachAreWords banks = (i : ℕ) (b : BankParts) → slice_get banks i ≡ Some b → AreWords b.bank.copies

-- a bank has as many records as are declared of it
abbrev pub HaveRecords : List BankDecl → List BankParts → Type 0
HaveRecords decls banks =
    (i : ℕ) (d : BankDecl) (b : BankParts) → slice_get decls i ≡ Some d → slice_get banks i ≡ Some b
    → d.recs ≡ length b.bank.copies

-- the full report of a board after these steps, of which this became of the errors
abbrev pub told_full : Plan → Parts → List Step → Fates → List (List ℕ)
told_full plan parts steps fates =
    (head_line plan (length steps) ∷ [])
    ++ hart_lines 0 parts.counts.items parts.firmware.masks parts.firmware.stacks
    ++ map event_line (slots parts.firmware.events)
    ++ told_banks 0 parts.decls.items parts.banks.items
    ++ fates_line fates ∷ []
    ++ word_lines 0x80000000 parts.firmware.memory
    ++ schedule_lines steps
    ++ end_line ∷ []

-- they are the parts of the plan's board in some state
abbrev pub ArePartsOf : Plan → Parts → Type 0
ArePartsOf plan parts = (s : BoardState) × Shows plan s parts

-- each note has a text
abbrev pub HaveTexts : List StepNote → Type 0
HaveTexts notes = (i : ℕ) (note : StepNote) → slice_get notes i ≡ Some note → IsTrue (has_text note)

-- steps and their notes, side by side, as lines of a trace numbered from here
abbrev pub told_steps : ℕ → List Step → List StepNote → List (List ℕ)
told_steps number (by ∷ steps) (note ∷ notes) =
    trace_line number (record { by = by; note = note }) ∷ told_steps (number + 1) steps notes
told_steps number steps notes = []
