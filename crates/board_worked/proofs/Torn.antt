-- A greater error comes between a claim and the Check: the Check is torn, the record is claimed again, and the greater
-- error is what is published.
use Rattle.std.proofs.Common.{◌≡◌, true, false, List, [], ◌∷◌, ◌++◌, Some, refl}
use Rattle.std.specs.Prelude.{replicate, codes}
use Rattle.std.specs.Fmt.{digits}
use Rattle.ras_text.specs.Numbers.{hexadecimal}
use Rattle.reri_fields.specs.declared.severity.Severity.TheVariants.{Ued, Uec}
use Rattle.reri_fields.specs.declared.report.Report.{Report}
use Rattle.reri_fields.specs.declared.report.RecordCopy.{RecordCopy}
use Rattle.reri_fields.specs.declared.report.Logged.TheVariants.{Wrote}
use Rattle.reri_fields.specs.Fields.{control_fields, status_fields, level_of, greatest, severity_number, flag, bits, bit_at, status_word}
use Rattle.reri_fields.specs.Records.{severity_of, rank_of, greatest_of, is_any, shown, is_multiple, has_severity, came_at, is_shown_after, is_ce, is_counted, counted, is_logged, since, in_progress, number_in, status_after, copy_after}
use Rattle.reri_fields.specs.Outcome.{wrote, outcome}
use Rattle.reri_fields.specs.Banks.{events_of, level_in, raised, asks, level_after, is_signalled_after, least_signalled, copy_level}
use Rattle.reri_fields.specs.Block as block
use Rattle.reri_fields.specs.Block.{zeros, is_worst, has_worst, is_corrected, is_uncorrected, are_several, block_status, error_severity, header, section_type, section, entry, spelling}
use Rattle.reri_fields.specs.Drain.{bank_step, is_free}
use Rattle.sse_base.specs.Ids.{is_global, is_platform, class_of, same_instance}
use Rattle.sse_base.specs.Choice.{is_more_urgent, target, waits_for, chosen}
use Rattle.sse_base.specs.Calls.{is_reserved}
use Rattle.board_plan.specs.declared.notes.Step.{Step}
use Rattle.board_plan.specs.declared.notes.StepNote.TheVariants as note
use Rattle.board_plan.specs.declared.plan.Plan.{Plan}
use Rattle.board_plan.specs.Step.{at_bank, first_bank, bank_due, hart_step, wants, reporter_step, step}
use Rattle.board_plan.specs.Run.{Ran, ran}
use Rattle.board_plan.specs.Notes.{call_words, note_words, note_text}
use Rattle.board_plan.specs.Fates.{is_shown, is_answered, is_drained, is_written_over, has_fate_here, deed_at, number_with, fates_of}
use Rattle.board_plan.specs.Text.{field, head_line, context_text, counts_text, hart_line, frame_line, event_line, bank_line, record_line, bytes_of_entry, block_line, fates_line, word_line, schedule_line, entries_of_line, trace_line, trace, full}
use Rattle.board_worked.proofs.Boards.{event, local_bank, plain_record, error, one_bank_plan, own_acts, h0, r0, only_notes, reads}

abbrev lesser : Report
lesser = error 0 0 Ued 0 1 0x100 1

abbrev greater : Report
greater = error 0 0 Uec 0 2 0x200 2

abbrev plan : Plan
plan = one_bank_plan 1 (event 0x0 ∷ []) (local_bank 1 1) (plain_record 0 0 ∷ []) [] 0 (lesser ∷ greater ∷ [])

-- the greater error comes right after the claim
abbrev tries : List Step
tries = r0 ∷ h0 ∷ h0 ∷ r0 ∷ replicate 13 h0

abbrev after : Ran
after = ran plan (own_acts plan) tries

abbrev published_copy : RecordCopy
published_copy = record { control = 0x95; status = 0x2008d; address = 0x200; info = 0; supplement = 0; time = 2 }

pub record Torn : Type 0 where
  pub the_first_check_is_torn_and_the_second_publishes :
      only_notes after.notes
      ≡ note.Error lesser (Some (Wrote 1)) ∷ note.Scan 0 (Some 0) ∷ note.Claim 0 0 ∷ note.Error greater (Some (Wrote 2))
      ∷ (reads 0 0 ++ note.Check 0 0 true ∷ note.Claim 0 0 ∷ (reads 0 0
      ++ note.Check 0 0 false ∷ note.Invalidate 0 0 true ∷ note.Signal 0 2 (Some 0x0) ∷ []))
  pub the_greater_error_is_published :
      after.published ≡ record { bank = 0; copy = published_copy } ∷ []
  pub the_lesser_one_is_overwritten :
      fates_of plan after.notes
      ≡ record { made = 2; stray = 0; disabled = 0; counted = 0; drained = 1; overwritten = 1; kept = 0; stands = 0 }
  pub the_trace_is :
      trace plan (own_acts plan) tries
      ≡ codes "1 r0 error 0 0 ued 0 1 0x100 0x0 0x0 0x1 = wrote 1\n2 h0 scan 0 0\n3 h0 claim 0 0\n"
      ++ codes "4 r0 error 0 0 uec 0 2 0x200 0x0 0x0 0x2 = wrote 2\n5 h0 read 0 0 address\n6 h0 read 0 0 info\n"
      ++ codes "7 h0 read 0 0 supplement\n8 h0 read 0 0 time\n9 h0 check 0 0 torn\n10 h0 claim 0 0\n"
      ++ codes "11 h0 read 0 0 address\n12 h0 read 0 0 info\n13 h0 read 0 0 supplement\n14 h0 read 0 0 time\n"
      ++ codes "15 h0 check 0 0 published\n16 h0 invalidate 0 0 cleared\n17 h0 signal 0 2 0x0\n"
  pub the_report_is :
      full plan (own_acts plan) tries
      ≡ codes "board 1 harts 1 banks 1 reporters 1 steps 17\n"
      ++ codes "hart 0 steps 15 masked 1 pc 0x0 priv S sie 0 sepc 0x0 spp 0 spie 0 a6 0x0 a7 0x0 depth 0 calls 0"
      ++ codes " failed 0 last 0\n"
      ++ codes "event 0x0 hart 0 state 0 pending 1 priority 0 config 0 preferred 0 entry 0x0 arg 0x0\n"
      ++ codes "bank 0 home 0 scope local asks 1 block full drain none\n"
      ++ codes "record 0 0 control 0x95 status 0x0 address 0x0 info 0x0 supplement 0x0 time 0x0\n"
      ++ codes "block 0 1100000000000000000000007800000001000000524552492d5245434f52442d303030310100000000030000"
      ++ codes "300000000000000000000000000000000000000000000000000000000000000000000000000000000000000000000000"
      ++ codes "95000000000000008d000200000000000002000000000000000000000000000000000000000000000200000000000000"
      ++ codes "\nfates made 2 stray 0 disabled 0 counted 0 drained 1 overwritten 1 kept 0 stands 0\n"
      ++ codes "schedule r0 h0 h0 r0 h0 h0 h0 h0 h0 h0 h0 h0 h0 h0 h0 h0\nschedule h0\nend\n"

pub torn : Torn
unfolding ran step hart_step reporter_step wants at_bank first_bank bank_due
    is_global is_platform class_of is_reserved same_instance is_more_urgent target waits_for chosen
    bank_step asks raised least_signalled is_signalled_after level_after events_of level_in outcome wrote in_progress
    since is_logged control_fields status_fields flag bits level_of is_counted is_ce counted is_any is_shown_after
    came_at shown greatest_of rank_of severity_of severity_number has_severity is_multiple number_in status_after
    copy_after status_word bit_at copy_level greatest is_free
    is_shown is_answered is_drained is_written_over has_fate_here deed_at number_with
    trace trace_line note_text note_words call_words hexadecimal digits
    full head_line field hart_line context_text counts_text frame_line event_line bank_line record_line fates_line
    word_line schedule_line entries_of_line
    block_line bytes_of_entry spelling header block_status is_uncorrected is_corrected has_worst is_worst are_several
    error_severity block.digits entry section_type zeros section
torn = record {
  the_first_check_is_torn_and_the_second_publishes = refl;
  the_greater_error_is_published = refl;
  the_lesser_one_is_overwritten = refl;
  the_trace_is = refl;
  the_report_is = refl;
}
