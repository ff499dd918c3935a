-- A drain gathers the copies of two records and signals once, at the greater level. Where the slot is acknowledged in
-- between, the block at the end holds the second copy alone.
use Rattle.std.proofs.Common.{◌≡◌, ℕ, true, false, List, [], ◌∷◌, ◌++◌, Some, refl}
use Rattle.std.specs.Prelude.{replicate, map, codes}
use Rattle.std.specs.Fmt.{digits}
use Rattle.ras_text.specs.Numbers.{hexadecimal}
use Rattle.reri_fields.specs.declared.severity.Severity.TheVariants.{Ce, Uec}
use Rattle.reri_fields.specs.declared.report.Report.{Report}
use Rattle.reri_fields.specs.declared.report.RecordCopy.{RecordCopy}
use Rattle.reri_fields.specs.declared.report.Logged.TheVariants.{Wrote}
use Rattle.reri_fields.specs.Fields.{control_fields, status_fields, level_of, greatest, severity_number, flag, bits, bit_at, status_word}
use Rattle.reri_fields.specs.Records.{severity_of, rank_of, greatest_of, is_any, shown, is_multiple, has_severity, came_at, is_shown_after, is_ce, is_counted, counted, is_logged, since, in_progress, number_in, status_after, copy_after}
use Rattle.reri_fields.specs.Outcome.{wrote, outcome}
use Rattle.reri_fields.specs.Banks.{events_of, level_in, raised, asks, level_after, is_signalled_after, least_signalled, copy_level}
use Rattle.reri_fields.specs.Block as block
use Rattle.reri_fields.specs.Block.{zeros, is_worst, has_worst, is_corrected, is_uncorrected, are_several, block_status, error_severity, header, section_type, section, entry, spelling}
use Rattle.reri_fields.specs.Drain.{BankState, bank_step, is_free}
use Rattle.sse_base.specs.Ids.{is_global, is_platform, class_of, same_instance}
use Rattle.sse_base.specs.Choice.{is_more_urgent, target, waits_for, chosen}
use Rattle.sse_base.specs.Calls.{is_reserved}
use Rattle.board_plan.specs.declared.notes.Step.{Step}
use Rattle.board_plan.specs.declared.notes.StepNote.{StepNote}
use Rattle.board_plan.specs.declared.notes.StepNote.TheVariants as note
use Rattle.board_plan.specs.declared.ops.Op.TheVariants as ops
use Rattle.board_plan.specs.declared.plan.Plan.{Plan}
use Rattle.board_plan.specs.Step.{at_bank, first_bank, bank_due, hart_step, wants, reporter_step, step}
use Rattle.board_plan.specs.Run.{Ran, ran}
use Rattle.board_plan.specs.Fates.{is_shown, is_answered, is_drained, is_written_over, has_fate_here, deed_at, number_with}
use Rattle.board_plan.specs.Text.{field, head_line, context_text, counts_text, hart_line, frame_line, event_line, bank_line, record_line, bytes_of_entry, block_line, fates_line, word_line, schedule_line, entries_of_line, full}
use Rattle.board_worked.proofs.Boards.{event, local_bank, plain_record, starts_at, ops_from, error, one_bank_plan, own_acts, h0, h1, r0, only_notes, reads}

abbrev corrected : Report
corrected = error 0 0 Ce 0 1 0x100 1

abbrev fatal : Report
fatal = error 0 1 Uec 0 2 0x200 2

abbrev plan : Plan
plan =
    record (one_bank_plan 2 (event 0x0 ∷ []) (local_bank 2 2) (plain_record 0 0 ∷ plain_record 0 1 ∷ [])
    (ops_from 0x1000 (ops.Ack 0 ∷ [])) 0 (corrected ∷ fatal ∷ [])) {
      harts = 2;
      starts = starts_at 0 0 100 ∷ starts_at 1 0x1000 100 ∷ [];
    }

abbrev tries : List Step
tries = r0 ∷ r0 ∷ replicate 17 h0

-- the other hart acknowledges the slot between the two records
abbrev acknowledged : List Step
acknowledged = r0 ∷ r0 ∷ (replicate 8 h0 ++ h1 ∷ replicate 9 h0)

abbrev after : Ran
after = ran plan (own_acts plan) tries

abbrev after_acknowledged : Ran
after_acknowledged = ran plan (own_acts plan) acknowledged

abbrev first_copy : RecordCopy
first_copy = record { control = 0x95; status = 0x10083; address = 0x100; info = 0; supplement = 0; time = 1 }

abbrev second_copy : RecordCopy
second_copy = record { control = 0x95; status = 0x20089; address = 0x200; info = 0; supplement = 0; time = 2 }

-- what a drain does with one record, from its Scan to its Invalidate
abbrev one_record : ℕ → List StepNote
one_record rec =
    note.Scan 0 (Some rec) ∷ note.Claim 0 rec
    ∷ (reads 0 rec ++ note.Check 0 rec false ∷ note.Invalidate 0 rec true ∷ [])

abbrev slots_of : List BankState → List (List RecordCopy)
slots_of banks = map (λ b. b.slot) banks

pub record Gathered : Type 0 where
  pub the_drain_goes_on_to_the_second_record_and_signals_once :
      only_notes after.notes
      ≡ note.Error corrected (Some (Wrote 1)) ∷ note.Error fatal (Some (Wrote 2))
      ∷ (one_record 0 ++ one_record 1 ++ note.Signal 0 2 (Some 0x0) ∷ [])
  pub the_slot_holds_both_copies :
      slots_of after.state.banks ≡ (first_copy ∷ second_copy ∷ []) ∷ []
  pub an_acknowledgement_frees_the_slot_in_between :
      only_notes after_acknowledged.notes
      ≡ note.Error corrected (Some (Wrote 1)) ∷ note.Error fatal (Some (Wrote 2))
      ∷ (one_record 0 ++ note.Ack 0 (Some true) ∷ (one_record 1 ++ note.Signal 0 2 (Some 0x0) ∷ []))
  pub then_the_slot_holds_the_second_copy_alone :
      slots_of after_acknowledged.state.banks ≡ (second_copy ∷ []) ∷ []
  pub both_copies_were_published_all_the_same :
      after_acknowledged.published
      ≡ record { bank = 0; copy = first_copy } ∷ record { bank = 0; copy = second_copy } ∷ []
  pub the_report_is :
      full plan (own_acts plan) tries
      ≡ codes "board 2 harts 2 banks 1 reporters 1 steps 19\n"
      ++ codes "hart 0 steps 17 masked 1 pc 0x0 priv S sie 0 sepc 0x0 spp 0 spie 0 a6 0x0 a7 0x0 depth 0 calls 0"
      ++ codes " failed 0 last 0\n"
      ++ codes "hart 1 steps 0 masked 1 pc 0x1000 priv S sie 0 sepc 0x0 spp 0 spie 0 a6 0x0 a7 0x0 depth 0 calls"
      ++ codes " 0 failed 0 last 0\n"
      ++ codes "event 0x0 hart 0 state 0 pending 1 priority 0 config 0 preferred 0 entry 0x0 arg 0x0\n"
      ++ codes "event 0x0 hart 1 state 0 pending 0 priority 0 config 0 preferred 1 entry 0x0 arg 0x0\n"
      ++ codes "bank 0 home 0 scope local asks 1 block full drain none\n"
      ++ codes "record 0 0 control 0x95 status 0x0 address 0x0 info 0x0 supplement 0x0 time 0x0\n"
      ++ codes "record 0 1 control 0x95 status 0x0 address 0x0 info 0x0 supplement 0x0 time 0x0\n"
      ++ codes "block 0 230000000000000000000000f000000001000000524552492d5245434f52442d303030310200000000030000"
      ++ codes "300000000000000000000000000000000000000000000000000000000000000000000000000000000000000000000000"
      ++ codes "950000000000000083000100000000000001000000000000000000000000000000000000000000000100000000000000"
      ++ codes "\n"
      ++ codes "block 0 524552492d5245434f52442d3030303101000000000300003000000000000000000000000000000000000000"
      ++ codes "000000000000000000000000000000000000000000000000000000009500000000000000890002000000000000020000"
      ++ codes "00000000000000000000000000000000000000000200000000000000\n"
      ++ codes "fates made 2 stray 0 disabled 0 counted 0 drained 2 overwritten 0 kept 0 stands 0\n"
      ++ codes "schedule r0 r0 h0 h0 h0 h0 h0 h0 h0 h0 h0 h0 h0 h0 h0 h0\nschedule h0 h0 h0\nend\n"

pub gathered : Gathered
unfolding ran step hart_step reporter_step wants at_bank first_bank bank_due
    is_global is_platform class_of is_reserved same_instance is_more_urgent target waits_for chosen
    bank_step asks raised least_signalled is_signalled_after level_after events_of level_in outcome wrote in_progress
    since is_logged control_fields status_fields flag bits level_of is_counted is_ce counted is_any is_shown_after
    came_at shown greatest_of rank_of severity_of severity_number has_severity is_multiple number_in status_after
    copy_after status_word bit_at copy_level greatest is_free
    is_shown is_answered is_drained is_written_over has_fate_here deed_at number_with
    full head_line field hart_line context_text counts_text frame_line event_line bank_line record_line fates_line
    word_line schedule_line entries_of_line hexadecimal digits
    block_line bytes_of_entry spelling header block_status is_uncorrected is_corrected has_worst is_worst are_several
    error_severity block.digits entry section_type zeros section
gathered = record {
  the_drain_goes_on_to_the_second_record_and_signals_once = refl;
  the_slot_holds_both_copies = refl;
  an_acknowledgement_frees_the_slot_in_between = refl;
  then_the_slot_holds_the_second_copy_alone = refl;
  both_copies_were_published_all_the_same = refl;
  the_report_is = refl;
}
