-- The text of a note: its words, joined by single spaces. This project's own. What numbers a part of the board (a bank,
-- record, hart or reporter), a level, a priority, an error code and the signed code that a call answers are written in
-- decimal, and ids, addresses and words in hexadecimal.
use Rattle.std.specs.Prelude.{ℕ, ◌==◌, ◌&&◌, nat_le, Bool, true, false, if◌then◌else◌}
use Rattle.std.specs.Prelude.{List, [], ◌∷◌, ◌++◌, take, drop, map, slice_index, Option, Some, None, codes, decimal}
use Rattle.std.specs.Fmt.{signed_decimal}
use Rattle.std.specs.List.{list_all, join_with_byte}
use Rattle.ras_text.specs.Numbers.{hexadecimal}
use Rattle.sse_base.specs.declared.codes.SbiCode.{SbiCode}
use Rattle.sse_base.specs.Codes.{number_of, is_success}
use Rattle.reri_fields.specs.declared.severity.Severity.{Severity}
use Rattle.reri_fields.specs.declared.severity.Severity.TheVariants.{Ce, Ued, Uec}
use Rattle.reri_fields.specs.declared.report.Report.{Report}
use Rattle.reri_fields.specs.declared.report.Logged.{Logged}
use Rattle.reri_fields.specs.declared.report.Logged.TheVariants.{Disabled, Counted, Wrote, Kept}
use Rattle.board_plan.specs.declared.ops.Reg.{Reg}
use Rattle.board_plan.specs.declared.ops.Reg.TheVariants.{A6, A7, Sepc, Spp, Spie, Sie}
use Rattle.board_plan.specs.declared.notes.StepNote.{StepNote}
use Rattle.board_plan.specs.declared.notes.StepNote.TheVariants as note

-- ---- Words that stand for values ----

abbrev pub choice_word : List ℕ → List ℕ → Bool → List ℕ
choice_word yes_word no_word b = if b then yes_word else no_word

-- the record that a Scan took
abbrev pub scanned_word : Option ℕ → List ℕ
scanned_word None = codes "over"
scanned_word (Some rec) = decimal rec

-- a register of a record, by its place among the six
abbrev pub register_word : ℕ → List ℕ
register_word n =
    if n == 2 then codes "address"
    else (if n == 3 then codes "info"
    else (if n == 4 then codes "supplement"
    else codes "time"))

-- the event that a drain signalled
abbrev pub event_word : Option ℕ → List ℕ
event_word None = codes "none"
event_word (Some id) = hexadecimal id

abbrev pub reg_word : Reg → List ℕ
reg_word A6 = codes "a6"
reg_word A7 = codes "a7"
reg_word Sepc = codes "sepc"
reg_word Spp = codes "spp"
reg_word Spie = codes "spie"
reg_word Sie = codes "sie"

-- whether the slot was full, where there is such a bank
abbrev pub slot_word : Option Bool → List ℕ
slot_word None = codes "none"
slot_word (Some full) = choice_word (codes "yes") (codes "no") full

abbrev pub severity_word : Severity → List ℕ
severity_word Ce = codes "ce"
severity_word Ued = codes "ued"
severity_word Uec = codes "uec"

-- what became of an error
abbrev pub logged_words : Option Logged → List (List ℕ)
logged_words None = codes "stray" ∷ []
logged_words (Some Disabled) = codes "disabled" ∷ []
logged_words (Some Counted) = codes "counted" ∷ []
logged_words (Some (Wrote level)) = codes "wrote" ∷ decimal level ∷ []
logged_words (Some Kept) = codes "kept" ∷ []

-- ---- Calls and errors ----

-- a write_attrs that was accepted: SSE's function 1, with a third argument that can be a number of attributes
abbrev pub is_accepted_write : ℕ → ℕ → List ℕ → SbiCode → Bool
is_accepted_write eid fid args code =
    (eid == 0x535345) && (fid == 1) && is_success code && nat_le (slice_index args 2) 10

-- the words that an accepted write_attrs took, behind a colon
abbrev pub written_words : Bool → ℕ → List ℕ → List (List ℕ)
written_words false count written = []
written_words true count written = codes ":" ∷ map hexadecimal (take count written)

unfoldable pub call_words : ℕ → ℕ → List ℕ → SbiCode → List ℕ → List (List ℕ)
call_words eid fid args code written =
    codes "call" ∷ hexadecimal eid ∷ hexadecimal fid
    ∷ (map hexadecimal args
    ++ codes "=" ∷ signed_decimal (number_of code)
    ∷ written_words (is_accepted_write eid fid args code) (slice_index args 2) written)

-- an error as a script states it
abbrev pub report_words : Report → List (List ℕ)
report_words r =
    codes "error" ∷ decimal r.bank ∷ decimal r.rec ∷ severity_word r.severity ∷ decimal r.priority ∷ decimal r.code
    ∷ hexadecimal r.address ∷ hexadecimal r.info ∷ hexadecimal r.supplement ∷ hexadecimal r.time ∷ []

-- each word behind a space
abbrev pub after_spaces : List (List ℕ) → List ℕ
after_spaces [] = []
after_spaces (w ∷ ws) = 32 ∷ (w ++ after_spaces ws)

-- ---- Notes ----

-- the words of a note; an actor that had no step has none
unfoldable pub note_words : StepNote → List (List ℕ)
note_words note.Idle = []
note_words (note.Scan bank rec) = codes "scan" ∷ decimal bank ∷ scanned_word rec ∷ []
note_words (note.Claim bank rec) = codes "claim" ∷ decimal bank ∷ decimal rec ∷ []
note_words (note.Read bank rec register) = codes "read" ∷ decimal bank ∷ decimal rec ∷ register_word register ∷ []
note_words (note.Check bank rec torn) =
    codes "check" ∷ decimal bank ∷ decimal rec ∷ choice_word (codes "torn") (codes "published") torn ∷ []
note_words (note.Invalidate bank rec cleared) =
    codes "invalidate" ∷ decimal bank ∷ decimal rec ∷ choice_word (codes "cleared") (codes "stood") cleared ∷ []
note_words (note.Signal bank level id) = codes "signal" ∷ decimal bank ∷ decimal level ∷ event_word id ∷ []
note_words (note.Deliver id) = codes "deliver" ∷ hexadecimal id ∷ []
note_words (note.Call eid fid args code written) = call_words eid fid args code written
note_words note.Nop = codes "nop" ∷ []
note_words (note.Set reg value) = codes "set" ∷ reg_word reg ∷ hexadecimal value ∷ []
note_words (note.Load reg value) = codes "load" ∷ reg_word reg ∷ hexadecimal value ∷ []
note_words (note.Save addr value) = codes "save" ∷ hexadecimal addr ∷ hexadecimal value ∷ []
note_words (note.Store addr value) = codes "store" ∷ hexadecimal addr ∷ hexadecimal value ∷ []
note_words (note.Inc addr value) = codes "inc" ∷ hexadecimal addr ∷ hexadecimal value ∷ []
note_words (note.Jump pc) = codes "jump" ∷ hexadecimal pc ∷ []
note_words (note.Jlt taken) = codes "jlt" ∷ choice_word (codes "yes") (codes "no") taken ∷ []
note_words note.Sret = codes "sret" ∷ []
note_words (note.Ack bank was) = codes "ack" ∷ decimal bank ∷ slot_word was ∷ []
note_words (note.Unplug reporter was) =
    codes "unplug" ∷ decimal reporter ∷ choice_word (codes "yes") (codes "no") was ∷ []
note_words note.Illegal = codes "illegal" ∷ []
note_words note.Fault = codes "fault" ∷ []
note_words (note.Error report logged) = report_words report ++ codes "=" ∷ logged_words logged
note_words (note.Raise id hart signalled) =
    codes "raise" ∷ hexadecimal id ∷ decimal hart ∷ choice_word (codes "signalled") (codes "stray") signalled ∷ []

unfoldable pub note_text : StepNote → List ℕ
note_text n = join_with_byte 32 (note_words n)

-- how many of a call's words its text tells
abbrev pub told_count : ℕ → ℕ → List ℕ → SbiCode → ℕ
told_count eid fid args code = if is_accepted_write eid fid args code then slice_index args 2 else 0

-- A text tells all of its note. So a call has no words but those that are told, a Read names one of the registers that
-- a drain reads on its own, and an actor that had no step has no text.
abbrev pub has_text : StepNote → Bool
has_text note.Idle = false
has_text (note.Read bank rec register) = nat_le 2 register && nat_le register 5
has_text (note.Call eid fid args code written) =
    list_all (λ word. word == 0) (drop (told_count eid fid args code) written)
has_text n = true
