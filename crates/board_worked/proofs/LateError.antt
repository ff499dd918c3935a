-- An error comes between the Check and the Invalidate: the record isn't cleared, and the error is drained by the next
-- drain, which waits until the slot was acknowledged.
use Rattle.std.proofs.Common.{◌≡◌, ℕ, true, false, List, [], ◌∷◌, ◌++◌, Some, refl}
use Rattle.std.specs.Prelude.{replicate}
use Rattle.reri_fields.specs.declared.severity.Severity.TheVariants.{Ce, Uec}
use Rattle.reri_fields.specs.declared.report.Report.{Report}
use Rattle.reri_fields.specs.declared.report.Logged.TheVariants.{Wrote}
use Rattle.reri_fields.specs.Fields.{control_fields, status_fields, level_of, greatest, severity_number, flag, bits, bit_at, status_word}
use Rattle.reri_fields.specs.Records.{severity_of, rank_of, greatest_of, is_any, shown, is_multiple, has_severity, came_at, is_shown_after, is_ce, is_counted, counted, is_logged, since, in_progress, number_in, status_after, copy_after}
use Rattle.reri_fields.specs.Outcome.{wrote, outcome}
use Rattle.reri_fields.specs.Banks.{events_of, level_in, raised, asks, level_after, is_signalled_after, least_signalled, copy_level}
use Rattle.reri_fields.specs.Drain.{bank_step, is_free}
use Rattle.sse_base.specs.Ids.{is_global, is_platform, class_of, same_instance}
use Rattle.sse_base.specs.Choice.{is_more_urgent, target, waits_for, chosen}
use Rattle.sse_base.specs.Calls.{is_reserved}
use Rattle.board_plan.specs.declared.notes.Step.{Step}
use Rattle.board_plan.specs.declared.notes.Published.{Published}
use Rattle.board_plan.specs.declared.notes.StepNote.TheVariants as note
use Rattle.board_plan.specs.declared.ops.Op.TheVariants as ops
use Rattle.board_plan.specs.declared.plan.Plan.{Plan}
use Rattle.board_plan.specs.Step.{at_bank, first_bank, bank_due, hart_step, wants, reporter_step, step}
use Rattle.board_plan.specs.Run.{Ran, ran}
use Rattle.board_plan.specs.Fates.{is_shown, is_answered, is_drained, is_written_over, has_fate_here, deed_at, number_with, fates_of}
use Rattle.board_worked.proofs.Boards.{event, local_bank, plain_record, ops_from, error, one_bank_plan, own_acts, h0, r0, only_notes, reads}

abbrev first : Report
first = error 0 0 Ce 0 1 0x100 1

abbrev late : Report
late = error 0 0 Uec 0 2 0x200 2

abbrev plan : Plan
plan =
    one_bank_plan 1 (event 0x0 ∷ event 0x100000 ∷ []) (local_bank 1 1) (plain_record 0 0 ∷ [])
    (ops_from 0x1000 (ops.Ack 0 ∷ [])) 0x1000 (first ∷ late ∷ [])

-- seven steps of the hart bring its drain up to the Check
abbrev tries : List Step
tries = r0 ∷ (replicate 7 h0 ++ r0 ∷ replicate 12 h0)

abbrev after : Ran
after = ran plan (own_acts plan) tries

abbrev copy_of : ℕ → ℕ → ℕ → Published
copy_of status address time =
    record {
      bank = 0;
      copy = record { control = 0x95; status = status; address = address; info = 0; supplement = 0; time = time };
    }

pub record LateError : Type 0 where
  pub the_record_is_not_cleared_and_is_drained_again :
      only_notes after.notes
      ≡ note.Error first (Some (Wrote 1)) ∷ note.Scan 0 (Some 0) ∷ note.Claim 0 0
      ∷ (reads 0 0 ++ note.Check 0 0 false ∷ note.Error late (Some (Wrote 2)) ∷ note.Invalidate 0 0 false
      ∷ note.Signal 0 1 (Some 0x100000) ∷ note.Ack 0 (Some true) ∷ note.Scan 0 (Some 0) ∷ note.Claim 0 0
      ∷ (reads 0 0 ++ note.Check 0 0 false ∷ note.Invalidate 0 0 true ∷ note.Signal 0 2 (Some 0x0) ∷ []))
  pub both_errors_are_published :
      after.published ≡ copy_of 0x10083 0x100 1 ∷ copy_of 0x2008b 0x200 2 ∷ []
  pub both_errors_are_drained :
      fates_of plan after.notes
      ≡ record { made = 2; stray = 0; disabled = 0; counted = 0; drained = 2; overwritten = 0; kept = 0; stands = 0 }

pub late_error : LateError
unfolding ran step hart_step reporter_step wants at_bank first_bank bank_due
    is_global is_platform class_of is_reserved same_instance is_more_urgent target waits_for chosen
    bank_step asks raised least_signalled is_signalled_after level_after events_of level_in outcome wrote in_progress
    since is_logged control_fields status_fields flag bits level_of is_counted is_ce counted is_any is_shown_after
    came_at shown greatest_of rank_of severity_of severity_number has_severity is_multiple number_in status_after
    copy_after status_word bit_at copy_level greatest is_free
    is_shown is_answered is_drained is_written_over has_fate_here deed_at number_with
late_error = record {
  the_record_is_not_cleared_and_is_drained_again = refl;
  both_errors_are_published = refl;
  both_errors_are_drained = refl;
}
