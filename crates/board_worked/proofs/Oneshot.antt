-- A oneshot event that is signalled again while it runs is registered and pending after its completion, and is
-- delivered once it is enabled again.
use Rattle.std.proofs.Common.{◌≡◌, ℕ, true, List, [], ◌∷◌, ◌++◌, refl}
use Rattle.std.specs.Prelude.{replicate, take, drop}
use Rattle.sse_base.specs.Ids.{is_global, is_platform, class_of, same_instance}
use Rattle.sse_base.specs.Choice.{is_more_urgent, target, waits_for, chosen}
use Rattle.sse_base.specs.Calls.{is_reserved, attribute, is_never_written, is_shut, is_refused_value, word_for}
use Rattle.ras_device.specs.declared.act.Act.TheVariants as act
use Rattle.board_plan.specs.declared.notes.Step.{Step}
use Rattle.board_plan.specs.declared.notes.StepNote.TheVariants as note
use Rattle.board_plan.specs.declared.ops.Op.TheVariants as ops
use Rattle.board_plan.specs.declared.plan.Plan.{Plan}
use Rattle.board_plan.specs.Step.{at_bank, first_bank, bank_due, hart_step, wants, reporter_step, step}
use Rattle.board_plan.specs.Run.{Ran, ran}
use Rattle.board_worked.proofs.Boards.{injectable, starts_at, ops_from, sbi, handlers_plan, own_acts, h0, r0, only_notes, called}

abbrev once : ℕ
once = 0xffff0000

-- the STATUS of the event to a word of memory
abbrev status_to : ℕ → List ℕ
status_to addr = once ∷ 0 ∷ 1 ∷ addr ∷ []

-- the hart makes the event oneshot, enables it and unmasks itself; it reads STATUS and enables the event in turn
abbrev plan : Plan
plan =
    handlers_plan 1 (injectable once ∷ [])
    (ops_from 0x1000
    (sbi 2 (once ∷ 0x2000 ∷ []) ∷ ops.Store 0x80000000 1 ∷ sbi 1 (once ∷ 2 ∷ 1 ∷ 0x80000000 ∷ []) ∷ sbi 4 (once ∷ [])
    ∷ sbi 8 [] ∷ sbi 0 (status_to 0x80000008) ∷ sbi 4 (once ∷ []) ∷ sbi 0 (status_to 0x80000010)
    ∷ sbi 0 (status_to 0x80000018) ∷ sbi 4 (once ∷ []) ∷ [])
    ++ ops_from 0x2000 (sbi 6 [] ∷ []))
    (starts_at 0 0x1000 100 ∷ []) (replicate 3 (act.Raise once 0))

-- raised, delivered, raised while it runs, completed; enabled and delivered again, completed; raised, enabled,
-- delivered
abbrev tries : List Step
tries =
    replicate 5 h0 ++ r0 ∷ h0 ∷ r0 ∷ h0 ∷ h0 ∷ h0 ∷ h0 ∷ h0 ∷ h0 ∷ r0 ∷ h0 ∷ h0 ∷ h0 ∷ []

abbrev after : Ran
after = ran plan (own_acts plan) tries

pub record Oneshot : Type 0 where
  pub it_waits_until_it_is_enabled :
      drop 5 (only_notes after.notes)
      ≡ note.Raise once 0 true ∷ note.Deliver once ∷ note.Raise once 0 true ∷ called 6 []
      ∷ called 0 (status_to 0x80000008) ∷ called 4 (once ∷ []) ∷ note.Deliver once ∷ called 6 []
      ∷ called 0 (status_to 0x80000010) ∷ note.Raise once 0 true ∷ called 0 (status_to 0x80000018)
      ∷ called 4 (once ∷ []) ∷ note.Deliver once ∷ []
  pub its_status_was_registered_and_pending_then_registered_then_pending_again :
      take 4 after.state.machine.memory ≡ 1 ∷ 0xd ∷ 0x9 ∷ 0xd ∷ []

pub oneshot : Oneshot
unfolding ran step hart_step reporter_step wants at_bank first_bank bank_due
    is_global is_platform class_of is_reserved same_instance is_more_urgent target waits_for chosen
    attribute is_never_written is_shut is_refused_value word_for
oneshot = record {
  it_waits_until_it_is_enabled = refl;
  its_status_was_registered_and_pending_then_registered_then_pending_again = refl;
}
