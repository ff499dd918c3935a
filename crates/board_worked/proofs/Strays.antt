-- Errors for records that the board hasn't, and events that it hasn't, are stray. A reporter that is unplugged makes no
-- further act.
use Rattle.std.proofs.Common.{◌≡◌, true, false, List, [], ◌∷◌, ◌++◌, Some, None, refl}
use Rattle.std.specs.Prelude.{replicate}
use Rattle.reri_fields.specs.declared.severity.Severity.TheVariants.{Ce}
use Rattle.reri_fields.specs.declared.report.Report.{Report}
use Rattle.reri_fields.specs.Fields.{control_fields, status_fields, level_of, greatest, severity_number, flag, bits, bit_at, status_word}
use Rattle.reri_fields.specs.Records.{severity_of, rank_of, greatest_of, is_any, shown, is_multiple, has_severity, came_at, is_shown_after, is_ce, is_counted, counted, is_logged, since, in_progress, number_in, status_after, copy_after}
use Rattle.reri_fields.specs.Outcome.{wrote, outcome}
use Rattle.reri_fields.specs.Banks.{events_of, level_in, raised, asks, level_after, is_signalled_after, least_signalled, copy_level}
use Rattle.reri_fields.specs.Drain.{bank_step, is_free}
use Rattle.sse_base.specs.Ids.{is_global, is_platform, class_of, same_instance}
use Rattle.sse_base.specs.Choice.{is_more_urgent, target, waits_for, chosen}
use Rattle.sse_base.specs.Calls.{is_reserved}
use Rattle.ras_device.specs.declared.act.Act.TheVariants as act
use Rattle.board_plan.specs.declared.notes.Step.{Step}
use Rattle.board_plan.specs.declared.notes.StepNote.TheVariants as note
use Rattle.board_plan.specs.declared.ops.Op.TheVariants as ops
use Rattle.board_plan.specs.declared.plan.Plan.{Plan}
use Rattle.board_plan.specs.Step.{at_bank, first_bank, bank_due, hart_step, wants, reporter_step, step}
use Rattle.board_plan.specs.Run.{Ran, ran}
use Rattle.board_plan.specs.Fates.{is_shown, is_answered, is_drained, is_written_over, has_fate_here, deed_at, number_with, fates_of}
use Rattle.board_worked.proofs.Boards.{injectable, local_bank, ops_from, listed, error, one_bank_plan, own_acts, h0, r0, only_notes}

abbrev no_bank : Report
no_bank = error 9 0 Ce 0 0 0 0

abbrev no_record : Report
no_record = error 0 1 Ce 0 0 0 0

abbrev plan : Plan
plan =
    record (one_bank_plan 1 (injectable 0xffff0000 ∷ []) (local_bank 1 1) []
    (ops_from 0x1000 (ops.Ack 0 ∷ ops.Ack 3 ∷ ops.Unplug 0 ∷ ops.Unplug 0 ∷ ops.Unplug 7 ∷ [])) 0x1000 []) {
      reporters =
          listed (act.Error no_bank ∷ act.Error no_record ∷ act.Raise 0x10000 0 ∷ act.Raise 0xffff0000 7
          ∷ act.Raise 0xffff0000 0 ∷ act.Raise 0xffff0000 0 ∷ [])
          ∷ [];
    }

-- the reporter's sixth act doesn't come any more
abbrev tries : List Step
tries = replicate 5 r0 ++ replicate 5 h0 ++ r0 ∷ h0 ∷ []

abbrev after : Ran
after = ran plan (own_acts plan) tries

pub record Strays : Type 0 where
  pub strays_are_noted_and_change_nothing :
      only_notes after.notes
      ≡ note.Error no_bank None ∷ note.Error no_record None ∷ note.Raise 0x10000 0 false ∷ note.Raise 0xffff0000 7 false
      ∷ note.Raise 0xffff0000 0 true ∷ note.Ack 0 (Some false) ∷ note.Ack 3 None ∷ note.Unplug 0 true
      ∷ note.Unplug 0 false ∷ note.Unplug 7 false ∷ []
  pub only_errors_have_a_fate :
      fates_of plan after.notes
      ≡ record { made = 2; stray = 2; disabled = 0; counted = 0; drained = 0; overwritten = 0; kept = 0; stands = 0 }

pub strays : Strays
unfolding ran step hart_step reporter_step wants at_bank first_bank bank_due
    is_global is_platform class_of is_reserved same_instance is_more_urgent target waits_for chosen
    bank_step asks raised least_signalled is_signalled_after level_after events_of level_in outcome wrote in_progress
    since is_logged control_fields status_fields flag bits level_of is_counted is_ce counted is_any is_shown_after
    came_at shown greatest_of rank_of severity_of severity_number has_severity is_multiple number_in status_after
    copy_after status_word bit_at copy_level greatest is_free
    is_shown is_answered is_drained is_written_over has_fate_here deed_at number_with
strays = record {
  strays_are_noted_and_change_nothing = refl;
  only_errors_have_a_fate = refl;
}
