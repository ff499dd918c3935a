-- `sret` goes to user mode, where supervisor ops are illegal and are passed over; an event that is delivered there
-- keeps the mode.
use Rattle.std.proofs.Common.{◌≡◌, ℕ, true, false, List, [], ◌∷◌, ◌++◌, Option, Some, refl}
use Rattle.std.specs.Prelude.{replicate, map, drop}
use Rattle.sse_base.specs.declared.contexts.Privilege.TheVariants.{User, Supervisor}
use Rattle.sse_base.specs.declared.ids.Instance.TheVariants.{Local}
use Rattle.sse_base.specs.Ids.{is_global, is_platform, class_of, same_instance}
use Rattle.sse_base.specs.Contexts.{Stack, interrupted}
use Rattle.sse_base.specs.Machine.{stack_of}
use Rattle.sse_base.specs.Choice.{is_more_urgent, target, waits_for, chosen}
use Rattle.sse_base.specs.Calls.{is_reserved, attribute, is_never_written, is_shut, is_refused_value, word_for}
use Rattle.ras_device.specs.declared.act.Act.TheVariants as act
use Rattle.board_plan.specs.declared.notes.Step.{Step}
use Rattle.board_plan.specs.declared.notes.StepNote.TheVariants as note
use Rattle.board_plan.specs.declared.ops.Op.TheVariants as ops
use Rattle.board_plan.specs.declared.ops.Reg.TheVariants.{A6, A7, Sepc, Spp}
use Rattle.board_plan.specs.declared.plan.Plan.{Plan}
use Rattle.board_plan.specs.Step.{at_bank, first_bank, bank_due, hart_step, wants, reporter_step, step}
use Rattle.board_plan.specs.Run.{Ran, ran}
use Rattle.board_worked.proofs.Boards.{injectable, starts_at, ops_from, sbi, handlers_plan, own_acts, h0, r0, only_notes, context, triple, live_on, below_on}

abbrev soft : ℕ
soft = 0xffff0000

-- In user mode: a call, a register that user mode has, one that it hasn't at a bad address, and one that it has there.
abbrev plan : Plan
plan =
    handlers_plan 1 (injectable soft ∷ [])
    (ops_from 0x1000 (sbi 2 (soft ∷ 0x2000 ∷ []) ∷ sbi 4 (soft ∷ []) ∷ sbi 8 [] ∷ ops.Set Sepc 0x1100 ∷ ops.Sret ∷ [])
    ++ ops_from 0x1100 (sbi 8 [] ∷ ops.Set A6 5 ∷ ops.Load Spp 1 ∷ ops.Load A7 1 ∷ []))
    (starts_at 0 0x1000 100 ∷ []) (act.Raise soft 0 ∷ [])

abbrev to_user : List Step
to_user = replicate 5 h0

abbrev tries : List Step
tries = to_user ++ h0 ∷ h0 ∷ h0 ∷ h0 ∷ r0 ∷ h0 ∷ []

abbrev in_user : Ran
in_user = ran plan (own_acts plan) to_user

abbrev after : Ran
after = ran plan (own_acts plan) tries

-- what its INTERRUPTED_SEPC, _FLAGS, _A6 and _A7 are
abbrev kept_by : Stack → List (Option ℕ)
kept_by x = map (λ attr. interrupted attr (Local (record { 0 = soft }) 0) x.frames x.base) (6 ∷ 7 ∷ 8 ∷ 9 ∷ [])

abbrev kept : List (Option ℕ)
kept = kept_by (stack_of 0 after.state.machine)

pub record UserMode : Type 0 where
  pub sret_goes_to_user_mode :
      live_on 0 in_user.state ≡ context 0x1100 User false 0 0
  pub sepc_stays_and_spie_is_set :
      below_on 0 in_user.state ≡ triple 0x1100 User true
  pub supervisor_ops_are_illegal_before_their_address_is_looked_at :
      drop 5 (only_notes after.notes)
      ≡ note.Illegal ∷ note.Set A6 5 ∷ note.Illegal ∷ note.Fault ∷ note.Raise soft 0 true ∷ note.Deliver soft ∷ []
  pub the_handler_runs_in_supervisor_mode :
      live_on 0 after.state ≡ context 0x2000 Supervisor false 0 0
  pub sepc_is_past_the_last_op_in_user_mode :
      below_on 0 after.state ≡ triple 0x1110 User false
  pub the_handler_keeps_what_sepc_and_a6_were :
      kept ≡ Some 0x1100 ∷ Some 2 ∷ Some 5 ∷ Some 0 ∷ []

pub user_mode : UserMode
unfolding ran step hart_step reporter_step wants at_bank first_bank bank_due
    is_global is_platform class_of is_reserved same_instance is_more_urgent target waits_for chosen
    attribute is_never_written is_shut is_refused_value word_for
user_mode = record {
  sret_goes_to_user_mode = refl;
  sepc_stays_and_spie_is_set = refl;
  supervisor_ops_are_illegal_before_their_address_is_looked_at = refl;
  the_handler_runs_in_supervisor_mode = refl;
  sepc_is_past_the_last_op_in_user_mode = refl;
  the_handler_keeps_what_sepc_and_a6_were = refl;
}
