-- A global event goes to its preferred hart where that is unmasked, and else to the unmasked hart of least number; it
-- runs on one hart at a time.
use Rattle.std.proofs.Common.{◌≡◌, ℕ, true, false, List, [], ◌∷◌, ◌++◌, refl}
use Rattle.std.specs.Prelude.{replicate, drop}
use Rattle.sse_base.specs.declared.contexts.Privilege.TheVariants.{Supervisor}
use Rattle.sse_base.specs.Ids.{is_global, is_platform, class_of, same_instance}
use Rattle.sse_base.specs.Choice.{is_more_urgent, target, waits_for, chosen}
use Rattle.sse_base.specs.Calls.{is_reserved, attribute, is_never_written, is_shut, is_refused_value, word_for}
use Rattle.ras_device.specs.declared.act.Act.TheVariants as act
use Rattle.board_plan.specs.declared.notes.Step.{Step}
use Rattle.board_plan.specs.declared.notes.StepNote.TheVariants as note
use Rattle.board_plan.specs.declared.ops.Op.TheVariants as ops
use Rattle.board_plan.specs.declared.plan.Plan.{Plan}
use Rattle.board_plan.specs.Step.{at_bank, first_bank, bank_due, hart_step, wants, reporter_step, step}
use Rattle.board_plan.specs.Run.{Ran, ran, steps_of}
use Rattle.board_worked.proofs.Boards.{injectable, starts_at, ops_from, sbi, handlers_plan, own_acts, h0, h1, r0, only_notes, called, context, live_on}

abbrev shared : ℕ
shared = 0xffff8000

-- Hart 0 registers the event, prefers hart 1, enables it and unmasks itself; its handler injects the event again, masks
-- and unmasks the hart, and completes. Hart 1 unmasks itself and does nothing more.
abbrev plan : Plan
plan =
    handlers_plan 2 (injectable shared ∷ [])
    (ops_from 0x1000
    (sbi 2 (shared ∷ 0x2000 ∷ 5 ∷ []) ∷ ops.Store 0x80000000 1 ∷ sbi 1 (shared ∷ 3 ∷ 1 ∷ 0x80000000 ∷ [])
    ∷ sbi 4 (shared ∷ []) ∷ sbi 8 [] ∷ ops.Nop ∷ [])
    ++ ops_from 0x2000 (sbi 7 (shared ∷ 0 ∷ []) ∷ sbi 9 [] ∷ sbi 8 [] ∷ ops.Nop ∷ sbi 6 [] ∷ [])
    ++ ops_from 0x4000 (sbi 8 [] ∷ ops.Nop ∷ ops.Nop ∷ []))
    (starts_at 0 0x1000 100 ∷ starts_at 1 0x4000 100 ∷ []) (act.Raise shared 1 ∷ [])

abbrev called_by_0 : List Step
called_by_0 = replicate 5 h0

-- raised and delivered; injected while it runs; hart 0 masked, hart 1 unmasked, hart 0 unmasked; each hart makes an op;
-- completed; each hart makes a step
abbrev tries : List Step
tries = called_by_0 ++ r0 ∷ h0 ∷ h0 ∷ h0 ∷ h1 ∷ h0 ∷ h0 ∷ h1 ∷ h0 ∷ h0 ∷ h1 ∷ []

abbrev after : Ran
after = ran plan (own_acts plan) tries

pub record FollowsMasks : Type 0 where
  pub it_runs_on_hart_0_and_then_on_the_hart_that_it_prefers :
      drop 5 (only_notes after.notes)
      ≡ note.Raise shared 1 true ∷ note.Deliver shared ∷ called 7 (shared ∷ 0 ∷ []) ∷ called 9 [] ∷ called 8 []
      ∷ called 8 [] ∷ note.Nop ∷ note.Nop ∷ called 6 [] ∷ note.Nop ∷ note.Deliver shared ∷ []
  pub the_steps_were_made_by :
      steps_of after.notes ≡ tries
  pub hart_0_is_back_behind_its_calls :
      live_on 0 after.state ≡ context 0x1018 Supervisor false 0 0
  pub hart_1_runs_the_handler :
      live_on 1 after.state ≡ context 0x2000 Supervisor false 1 5

pub follows_masks : FollowsMasks
unfolding ran step hart_step reporter_step wants at_bank first_bank bank_due
    is_global is_platform class_of is_reserved same_instance is_more_urgent target waits_for chosen
    attribute is_never_written is_shut is_refused_value word_for
follows_masks = record {
  it_runs_on_hart_0_and_then_on_the_hart_that_it_prefers = refl;
  the_steps_were_made_by = refl;
  hart_0_is_back_behind_its_calls = refl;
  hart_1_runs_the_handler = refl;
}
