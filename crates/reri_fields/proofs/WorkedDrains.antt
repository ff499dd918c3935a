-- Runs of a bank with its drain, step by step, computed from the definitions.
use Rattle.std.proofs.Common.{◌≡◌, ℕ, true, false, List, [], ◌∷◌, ◌++◌, Option, Some, None, refl}
use Rattle.std.specs.Prelude.{replicate}
use Rattle.reri_fields.specs.declared.severity.Severity.{Severity}
use Rattle.reri_fields.specs.declared.severity.Severity.TheVariants.{Ce, Ued, Uec}
use Rattle.reri_fields.specs.declared.report.RecordCopy.{RecordCopy}
use Rattle.reri_fields.specs.declared.report.Logged.{Logged}
use Rattle.reri_fields.specs.declared.report.Logged.TheVariants.{Wrote}
use Rattle.reri_fields.specs.declared.drain.DrainNote.TheVariants as note
use Rattle.reri_fields.specs.Fields.{control_fields, status_fields, level_of, greatest, severity_number, flag, bits, bit_at, status_word}
use Rattle.reri_fields.specs.Records.{Error, Origin, severity_of, rank_of, greatest_of, is_any, shown, is_multiple, has_severity, came_at, is_shown_after, is_ce, is_counted, counted, is_logged, since, in_progress, number_in, status_after, copy_after}
use Rattle.reri_fields.specs.Outcome.{wrote, outcome}
use Rattle.reri_fields.specs.Banks.{events_of, level_in, raised, asks, level_after, is_signalled_after, least_signalled, copy_level}
use Rattle.reri_fields.specs.Drain.{BankPlan, BankState, BankTry, BankNote, BankStep, bank_start, bank_step, is_free}
use Rattle.reri_fields.specs.Drain.BankTry.{Reports, Drains, Acknowledges}
use Rattle.reri_fields.specs.Drain.BankNote.{Heard, Drew, Acknowledged}

-- an error for a record, at a step: its severity, priority, code, address and time
abbrev error : ℕ → ℕ → Severity → ℕ → ℕ → ℕ → ℕ → Error
error step rec severity priority code address time = record {
  step = step;
  report = record {
    bank = 0;
    rec = rec;
    severity = severity;
    priority = priority;
    code = code;
    address = address;
    info = 0;
    supplement = 0;
    time = time;
  };
}

-- what became of an error
abbrev heard_of : Error → Option Logged → BankNote
heard_of e logged = Heard e.report logged

-- a bank after some tries, and the notes of those that made a step
abbrev taken : Option BankStep → BankState → BankState
taken None s = s
taken (Some step) s = step.state

abbrev after : BankPlan → BankState → List BankTry → BankState
after plan s [] = s
after plan s (t ∷ tries) = after plan (taken (bank_step plan s t) s) tries

abbrev noted : Option BankStep → List BankNote → List BankNote
noted None notes = notes
noted (Some step) notes = step.note ∷ notes

abbrev notes : BankPlan → BankState → List BankTry → List BankNote
notes plan s [] = []
notes plan s (t ∷ tries) = noted (bank_step plan s t) (notes plan (taken (bank_step plan s t) s) tries)

-- enabled, no counting, levels 1, 1 and 2
abbrev plain : Origin
plain = record { control = 0x95; count = 0 }

abbrev read_all : ℕ → List BankNote
read_all rec = Drew rec (note.Read 2) ∷ Drew rec (note.Read 3) ∷ Drew rec (note.Read 4) ∷ Drew rec (note.Read 5) ∷ []

-- ---- A drain that gathers two copies ----

abbrev two : BankPlan
two = record { origins = plain ∷ plain ∷ []; gather = 2 }

abbrev two_errors : List BankTry
two_errors = Reports (error 1 0 Ce 0 1 0x100 1) ∷ Reports (error 2 1 Uec 0 2 0x200 2) ∷ []

abbrev first_copy : RecordCopy
first_copy = record { control = 0x95; status = 0x10083; address = 0x100; info = 0; supplement = 0; time = 1 }

abbrev second_copy : RecordCopy
second_copy = record { control = 0x95; status = 0x20089; address = 0x200; info = 0; supplement = 0; time = 2 }

-- what a drain of one record does from its Scan to its Invalidate
abbrev one_record : ℕ → RecordCopy → List BankNote
one_record rec copy =
    Drew 0 (note.Scanned rec) ∷ Drew rec note.Claimed
    ∷ (read_all rec ++ Drew rec (note.Published copy) ∷ Drew rec (note.Invalidated true) ∷ [])

two_notes : notes two bank_start (two_errors ++ replicate 17 Drains) ≡
    heard_of (error 1 0 Ce 0 1 0x100 1) (Some (Wrote 1)) ∷ heard_of (error 2 1 Uec 0 2 0x200 2) (Some (Wrote 2))
    ∷ (one_record 0 first_copy ++ one_record 1 second_copy ++ Drew 1 (note.Signal 2) ∷ [])
unfolding bank_step asks raised least_signalled is_signalled_after level_after events_of level_in outcome wrote
    in_progress since is_logged control_fields status_fields flag bits level_of is_counted is_ce counted is_any
    is_shown_after came_at shown greatest_of rank_of severity_of severity_number has_severity is_multiple number_in
    status_after copy_after status_word bit_at copy_level greatest is_free
two_notes = refl

-- the slot holds both copies, and the bank still asks, since no Scan has come up empty
two_slot : (after two bank_start (two_errors ++ replicate 17 Drains)).slot ≡ first_copy ∷ second_copy ∷ []
unfolding bank_step asks raised least_signalled is_signalled_after level_after events_of level_in outcome wrote
    in_progress since is_logged control_fields status_fields flag bits level_of is_counted is_ce counted is_any
    is_shown_after came_at shown greatest_of rank_of severity_of severity_number has_severity is_multiple number_in
    status_after copy_after status_word bit_at copy_level greatest is_free
two_slot = refl

two_asks : asks two.origins (after two bank_start (two_errors ++ replicate 17 Drains)).history ≡ true
unfolding bank_step asks raised least_signalled is_signalled_after level_after events_of level_in outcome wrote
    in_progress since is_logged control_fields status_fields flag bits level_of is_counted is_ce counted is_any
    is_shown_after came_at shown greatest_of rank_of severity_of severity_number has_severity is_multiple number_in
    status_after copy_after status_word bit_at copy_level greatest is_free
two_asks = refl

-- No drain begins while the slot is full. Once it is acknowledged, one begins whose Scan finds nothing: it is over,
-- and the bank no longer asks.
abbrev drained : BankState
drained = after two bank_start (two_errors ++ replicate 17 Drains)

full_waits : notes two drained (Drains ∷ Acknowledges ∷ Acknowledges ∷ Drains ∷ Drains ∷ []) ≡
    Acknowledged true ∷ Acknowledged false ∷ Drew 0 note.Over ∷ []
unfolding bank_step asks raised least_signalled is_signalled_after level_after events_of level_in outcome wrote
    in_progress since is_logged control_fields status_fields flag bits level_of is_counted is_ce counted is_any
    is_shown_after came_at shown greatest_of rank_of severity_of severity_number has_severity is_multiple number_in
    status_after copy_after status_word bit_at copy_level greatest is_free
full_waits = refl

-- ---- An acknowledgement while the drain is on its way: the slot holds the copies that came after it ----

acknowledged_midway :
    (after two bank_start (two_errors ++ replicate 8 Drains ++ Acknowledges ∷ replicate 9 Drains)).slot ≡ second_copy
    ∷ []
unfolding bank_step asks raised least_signalled is_signalled_after level_after events_of level_in outcome wrote
    in_progress since is_logged control_fields status_fields flag bits level_of is_counted is_ce counted is_any
    is_shown_after came_at shown greatest_of rank_of severity_of severity_number has_severity is_multiple number_in
    status_after copy_after status_word bit_at copy_level greatest is_free
acknowledged_midway = refl

-- ---- A claim is torn by a greater error ----

abbrev one : BankPlan
one = record { origins = plain ∷ []; gather = 1 }

abbrev torn_tries : List BankTry
torn_tries =
    Reports (error 1 0 Ued 0 2 0x100 1) ∷ Drains ∷ Drains ∷ Reports (error 4 0 Uec 0 2 0x200 2) ∷ replicate 13 Drains

torn_copy : RecordCopy
torn_copy = record { control = 0x95; status = 0x2008d; address = 0x200; info = 0; supplement = 0; time = 2 }

torn_notes : notes one bank_start torn_tries ≡
    heard_of (error 1 0 Ued 0 2 0x100 1) (Some (Wrote 1)) ∷ Drew 0 (note.Scanned 0) ∷ Drew 0 note.Claimed
    ∷ heard_of (error 4 0 Uec 0 2 0x200 2) (Some (Wrote 2))
    ∷ (read_all 0 ++ Drew 0 note.Torn ∷ Drew 0 note.Claimed ∷ (read_all 0
    ++ Drew 0 (note.Published torn_copy) ∷ Drew 0 (note.Invalidated true) ∷ Drew 0 (note.Signal 2) ∷ []))
unfolding bank_step asks raised least_signalled is_signalled_after level_after events_of level_in outcome wrote
    in_progress since is_logged control_fields status_fields flag bits level_of is_counted is_ce counted is_any
    is_shown_after came_at shown greatest_of rank_of severity_of severity_number has_severity is_multiple number_in
    status_after copy_after status_word bit_at copy_level greatest is_free torn_copy
torn_notes = refl

-- ---- An error after the Check: the record is not cleared, and stays signalled ----

abbrev late_tries : List BankTry
late_tries =
    Reports (error 1 0 Ued 0 2 0x100 1)
    ∷ (replicate 7 Drains ++ Reports (error 9 0 Uec 1 2 0x200 2) ∷ Drains ∷ Drains ∷ [])

late_stays : is_signalled_after one.origins (after one bank_start late_tries).history 0 ≡ true
unfolding bank_step asks raised least_signalled is_signalled_after level_after events_of level_in outcome wrote
    in_progress since is_logged control_fields status_fields flag bits level_of is_counted is_ce counted is_any
    is_shown_after came_at shown greatest_of rank_of severity_of severity_number has_severity is_multiple number_in
    status_after copy_after status_word bit_at copy_level greatest is_free
late_stays = refl

late_stands :
    notes one (after one bank_start (Reports (error 1 0 Ued 0 2 0x100 1) ∷ replicate 7 Drains))
    (Reports (error 9 0 Uec 1 2 0x200 2) ∷ Drains ∷ Drains ∷ [])
    ≡
    heard_of (error 9 0 Uec 1 2 0x200 2) (Some (Wrote 2)) ∷ Drew 0 (note.Invalidated false) ∷ Drew 0 (note.Signal 1)
    ∷ []
unfolding bank_step asks raised least_signalled is_signalled_after level_after events_of level_in outcome wrote
    in_progress since is_logged control_fields status_fields flag bits level_of is_counted is_ce counted is_any
    is_shown_after came_at shown greatest_of rank_of severity_of severity_number has_severity is_multiple number_in
    status_after copy_after status_word bit_at copy_level greatest is_free
late_stands = refl

-- ---- Nothing to drain ----

-- no drain is due where the bank does not ask
nothing_due : notes one bank_start (Drains ∷ Acknowledges ∷ []) ≡ Acknowledged false ∷ []
unfolding bank_step asks raised least_signalled is_signalled_after level_after events_of level_in outcome wrote
    in_progress since is_logged control_fields status_fields flag bits level_of is_counted is_ce counted is_any
    is_shown_after came_at shown greatest_of rank_of severity_of severity_number has_severity is_multiple number_in
    status_after copy_after status_word bit_at copy_level greatest is_free
nothing_due = refl

-- an error for a record that the bank has not
stray : notes one bank_start (Reports (error 1 1 Uec 0 2 0x100 1) ∷ Drains ∷ [])
    ≡ heard_of (error 1 1 Uec 0 2 0x100 1) None ∷ []
unfolding bank_step asks raised least_signalled is_signalled_after level_after events_of level_in outcome wrote
    in_progress since is_logged control_fields status_fields flag bits level_of is_counted is_ce counted is_any
    is_shown_after came_at shown greatest_of rank_of severity_of severity_number has_severity is_multiple number_in
    status_after copy_after status_word bit_at copy_level greatest is_free
stray = refl
