-- A handler returns by `sret` before it completes: the hart goes on with the interrupted code, while the handler still
-- runs. Its completion then goes back to the very same place, but in user mode with SIE set, which is what `sret` has
-- made of the interrupted context. The event is oneshot, so it is registered then.
use Rattle.std.proofs.Common.{◌≡◌, ℕ, true, false, List, [], ◌∷◌, ◌++◌, refl}
use Rattle.std.specs.Prelude.{replicate}
use Rattle.sse_base.specs.declared.arrows.State.{State}
use Rattle.sse_base.specs.declared.arrows.State.TheVariants.{Registered, Running}
use Rattle.sse_base.specs.declared.contexts.Privilege.TheVariants.{User, Supervisor}
use Rattle.sse_base.specs.Ids.{is_global, is_platform, class_of, same_instance, instance_of}
use Rattle.sse_base.specs.Choice.{is_more_urgent, target, waits_for, chosen}
use Rattle.sse_base.specs.Calls.{is_reserved, attribute, is_never_written, is_shut, is_refused_value, word_for}
use Rattle.ras_device.specs.declared.act.Act.TheVariants as act
use Rattle.board_plan.specs.declared.notes.Step.{Step}
use Rattle.board_plan.specs.declared.notes.StepNote.{StepNote}
use Rattle.board_plan.specs.declared.notes.StepNote.TheVariants as note
use Rattle.board_plan.specs.declared.ops.Op.TheVariants as ops
use Rattle.board_plan.specs.declared.plan.Plan.{Plan}
use Rattle.board_plan.specs.State.{BoardState, start_state}
use Rattle.board_plan.specs.Step.{at_bank, first_bank, bank_due, hart_step, wants, reporter_step, step}
use Rattle.board_plan.specs.Run.{ran, run, notes}
use Rattle.board_plan.specs.Sound.{state_of}
use Rattle.board_plan.specs.Amend.{own_notes, amend, is_open}
use Rattle.context_laws.proofs.WorkedPlans.{event, ops_from, sbi, handlers_plan, own_acts, h0, r0, context, triple, live_in, below_live}

abbrev once : ℕ
once = 0xffff0000

-- The event is registered, made oneshot and enabled, and the hart is unmasked. Its handler is one `sret`. What it
-- interrupts is a completion.
abbrev plan : Plan
plan =
    handlers_plan (event once ∷ [])
    (ops_from 0x1000
    (sbi 2 (once ∷ 0x2000 ∷ 7 ∷ []) ∷ ops.Store 0x80000000 1 ∷ sbi 1 (once ∷ 2 ∷ 1 ∷ 0x80000000 ∷ [])
    ∷ sbi 4 (once ∷ []) ∷ sbi 8 [] ∷ sbi 6 [] ∷ [])
    ++ ops_from 0x2000 (ops.Sret ∷ []))
    (act.Raise once 0 ∷ [])

abbrev to_handler : List Step
to_handler = replicate 5 h0 ++ r0 ∷ h0 ∷ []

abbrev run_on : BoardState → List Step → BoardState
run_on s tries = run plan (own_acts plan) s tries

abbrev notes_on : BoardState → List Step → List StepNote
notes_on s tries = own_notes 0 (notes plan (own_acts plan) s tries)

abbrev handler_runs : BoardState
handler_runs = run_on (start_state plan) to_handler

abbrev has_returned : BoardState
has_returned = run_on handler_runs (h0 ∷ [])

abbrev is_done : BoardState
is_done = run_on has_returned (h0 ∷ [])

abbrev state_in : BoardState → State
state_in s = state_of (instance_of once 0) s

pub record Return : Type 0 where
  pub the_handler_begins :
      live_in handler_runs ≡ context 0x2000 Supervisor false 0 7
  pub it_interrupts_this :
      below_live handler_runs ≡ triple 0x1014 Supervisor false
  pub sret_goes_on_with_the_interrupted_code_and_with_the_handlers_a6_and_a7 :
      live_in has_returned ≡ context 0x1014 Supervisor false 0 7
  pub the_handler_still_runs_then :
      state_in has_returned ≡ Running
  pub sret_amends_what_it_interrupted :
      below_live has_returned ≡ triple 0x1014 User true
  pub no_note_completes_it :
      is_open 1 (once ∷ []) (notes_on handler_runs (h0 ∷ [])) ≡ true
  pub the_notes_amend_the_context_so :
      amend 1 (once ∷ []) (context 0x1014 Supervisor false 0 0) (notes_on handler_runs (h0 ∷ []))
      ≡ context 0x1014 User true 0 0
  pub the_completion_goes_there :
      live_in is_done ≡ context 0x1014 User true 0 0
  pub the_event_is_registered_then :
      state_in is_done ≡ Registered
  pub user_mode_may_not_complete_again :
      notes_on is_done (h0 ∷ []) ≡ note.Illegal ∷ []

pub return : Return
unfolding ran step hart_step reporter_step wants at_bank first_bank bank_due
    is_global is_platform class_of is_reserved same_instance is_more_urgent target waits_for chosen
    attribute is_never_written is_shut is_refused_value word_for
return = record {
  the_handler_begins = refl;
  it_interrupts_this = refl;
  sret_goes_on_with_the_interrupted_code_and_with_the_handlers_a6_and_a7 = refl;
  the_handler_still_runs_then = refl;
  sret_amends_what_it_interrupted = refl;
  no_note_completes_it = refl;
  the_notes_amend_the_context_so = refl;
  the_completion_goes_there = refl;
  the_event_is_registered_then = refl;
  user_mode_may_not_complete_again = refl;
}
