-- A hart unmasks itself, registers, enables and injects the software event; its handler counts a word up and completes.
-- The tries are rounds, since the plan has no schedule.
use Rattle.std.proofs.Common.{◌≡◌, false, [], ◌∷◌, ◌++◌, refl}
use Rattle.std.specs.Prelude.{codes, pos}
use Rattle.std.specs.Fmt.{digits}
use Rattle.ras_text.specs.Numbers.{hexadecimal}
use Rattle.sse_base.specs.declared.contexts.Privilege.TheVariants.{Supervisor}
use Rattle.sse_base.specs.Ids.{is_global, is_platform, class_of, same_instance}
use Rattle.sse_base.specs.Choice.{is_more_urgent, target, waits_for, chosen}
use Rattle.sse_base.specs.Calls.{is_reserved}
use Rattle.board_plan.specs.declared.notes.StepNote.TheVariants as note
use Rattle.board_plan.specs.declared.ops.Op.TheVariants as ops
use Rattle.board_plan.specs.declared.plan.Plan.{Plan}
use Rattle.board_plan.specs.State.{start_state}
use Rattle.board_plan.specs.Step.{at_bank, first_bank, bank_due, hart_step, wants, reporter_step, step}
use Rattle.board_plan.specs.Run.{Ran, ran, run, notes, round, rounds}
use Rattle.board_plan.specs.Fates.{is_shown, is_answered, is_drained, is_written_over, has_fate_here, deed_at, number_with}
use Rattle.board_plan.specs.Text.{field, head_line, context_text, counts_text, hart_line, frame_line, event_line, bank_line, record_line, fates_line, word_line, schedule_line, entries_of_line, full}
use Rattle.board_worked.proofs.Boards.{injectable, starts_at, ops_from, sbi, handlers_plan, own_acts, only_notes, called, context, live_on}

abbrev plan : Plan
plan =
    handlers_plan 1 (injectable 0xffff0000 ∷ [])
    (ops_from 0x1000
    (sbi 8 [] ∷ sbi 2 (0xffff0000 ∷ 0x2000 ∷ 7 ∷ []) ∷ sbi 4 (0xffff0000 ∷ []) ∷ sbi 7 (0xffff0000 ∷ 0 ∷ []) ∷ [])
    ++ ops_from 0x2000 (ops.Inc 0x80000000 ∷ sbi 6 [] ∷ []))
    (starts_at 0 0x1000 100 ∷ []) []

abbrev after : Ran
after = ran plan (own_acts plan) (rounds plan 8)

pub record FirstEvent : Type 0 where
  pub the_run_has_seven_notes :
      only_notes after.notes
      ≡ called 8 [] ∷ called 2 (0xffff0000 ∷ 0x2000 ∷ 7 ∷ []) ∷ called 4 (0xffff0000 ∷ [])
      ∷ called 7 (0xffff0000 ∷ 0 ∷ []) ∷ note.Deliver 0xffff0000 ∷ note.Inc 0x80000000 1 ∷ called 6 [] ∷ []
  pub the_eighth_round_is_idle :
      notes plan (own_acts plan) (run plan (own_acts plan) (start_state plan) (rounds plan 7)) (round plan) ≡ []
  pub the_hart_goes_on_behind_its_last_call :
      live_on 0 after.state ≡ context 0x1010 Supervisor false 0 0
  pub five_calls_succeeded_in_seven_steps :
      after.state.counts ≡ record { steps = 7; calls = 5; failed = 0; last = pos 0 } ∷ []
  pub the_report_is :
      full plan (own_acts plan) (rounds plan 8)
      ≡ codes "board 1 harts 1 banks 0 reporters 1 steps 7\n"
      ++ codes "hart 0 steps 7 masked 0 pc 0x1010 priv S sie 0 sepc 0x0 spp 0 spie 0 a6 0x0 a7 0x0 depth 0 calls"
      ++ codes " 5 failed 0 last 0\n"
      ++ codes "event 0xffff0000 hart 0 state 2 pending 0 priority 0 config 0 preferred 0 entry 0x2000 arg 0x7\n"
      ++ codes "fates made 0 stray 0 disabled 0 counted 0 drained 0 overwritten 0 kept 0 stands 0\n"
      ++ codes "word 0x80000000 0x1\nschedule h0 h0 h0 h0 h0 h0 h0\nend\n"

pub first_event : FirstEvent
unfolding ran step hart_step reporter_step wants at_bank first_bank bank_due
    is_global is_platform class_of is_reserved same_instance is_more_urgent target waits_for chosen
    is_shown is_answered is_drained is_written_over has_fate_here deed_at number_with
    full head_line field hart_line context_text counts_text frame_line event_line bank_line record_line fates_line
    word_line schedule_line entries_of_line hexadecimal digits
first_event = record {
  the_run_has_seven_notes = refl;
  the_eighth_round_is_idle = refl;
  the_hart_goes_on_behind_its_last_call = refl;
  five_calls_succeeded_in_seven_steps = refl;
  the_report_is = refl;
}
