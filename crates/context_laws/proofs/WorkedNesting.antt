-- A handler that interrupts another writes all four INTERRUPTED attributes of both: those of the other reach what that
-- one interrupted and what lies below it, and its own reach what it interrupted itself and what lies below that.
use Rattle.std.proofs.Common.{◌≡◌, ℕ, true, false, List, [], ◌∷◌, ◌++◌, refl}
use Rattle.std.specs.Prelude.{replicate}
use Rattle.sse_base.specs.declared.contexts.Privilege.TheVariants.{User, Supervisor}
use Rattle.sse_base.specs.Ids.{is_global, is_platform, class_of, same_instance}
use Rattle.sse_base.specs.Contexts.{triple_of}
use Rattle.sse_base.specs.Choice.{is_more_urgent, target, waits_for, chosen}
use Rattle.sse_base.specs.Calls.{is_reserved, attribute, is_never_written, is_shut, is_refused_value, word_for}
use Rattle.ras_device.specs.declared.act.Act.TheVariants as act
use Rattle.board_plan.specs.declared.notes.Step.{Step}
use Rattle.board_plan.specs.declared.notes.StepNote.{StepNote}
use Rattle.board_plan.specs.declared.ops.Op.TheVariants as ops
use Rattle.board_plan.specs.declared.plan.Plan.{Plan}
use Rattle.board_plan.specs.State.{BoardState, start_state}
use Rattle.board_plan.specs.Step.{at_bank, first_bank, bank_due, hart_step, wants, reporter_step, step}
use Rattle.board_plan.specs.Run.{ran, run, notes}
use Rattle.board_plan.specs.Amend.{own_notes, amend, ids_after}
use Rattle.context_laws.proofs.WorkedPlans.{event, ops_from, sbi, handlers_plan, own_acts, h0, r0, context, triple, live_in, below_live}

-- the event of the handler that is interrupted, and that of the one that interrupts it
abbrev outer : ℕ
outer = 0x100000

abbrev inner : ℕ
inner = 0x0

-- Eight words are stored, four for the attributes of each; both events are registered and enabled, and the hart is
-- unmasked. The inner handler writes the attributes of the outer event, then its own, and completes.
-- The outer one is interrupted behind its first op.
abbrev plan : Plan
plan =
    handlers_plan (event outer ∷ event inner ∷ [])
    (ops_from 0x1000
    (ops.Store 0x80000000 0x7000 ∷ ops.Store 0x80000008 3 ∷ ops.Store 0x80000010 0x66 ∷ ops.Store 0x80000018 0x77
    ∷ ops.Store 0x80000020 0x1100 ∷ ops.Store 0x80000028 2 ∷ ops.Store 0x80000030 0x88 ∷ ops.Store 0x80000038 0x99
    ∷ sbi 2 (outer ∷ 0x2000 ∷ 0xa ∷ []) ∷ sbi 4 (outer ∷ []) ∷ sbi 2 (inner ∷ 0x3000 ∷ 0xb ∷ []) ∷ sbi 4 (inner ∷ [])
    ∷ sbi 8 [] ∷ [])
    ++ ops_from 0x2000 (ops.Nop ∷ sbi 6 [] ∷ [])
    ++ ops_from 0x3000 (sbi 1 (outer ∷ 6 ∷ 4 ∷ 0x80000000 ∷ []) ∷ sbi 1 (inner ∷ 6 ∷ 4 ∷ 0x80000020 ∷ [])
    ∷ sbi 6 [] ∷ []))
    (act.Raise outer 0 ∷ act.Raise inner 0 ∷ [])

-- up to the delivery of the outer event, from there to that of the inner one, from there up to its completion, and from
-- there up to the completion of the outer one
abbrev to_outer : List Step
to_outer = replicate 13 h0 ++ r0 ∷ h0 ∷ []

abbrev to_inner : List Step
to_inner = h0 ∷ r0 ∷ h0 ∷ []

abbrev in_inner : List Step
in_inner = h0 ∷ h0 ∷ []

abbrev in_outer : List Step
in_outer = h0 ∷ []

abbrev run_on : BoardState → List Step → BoardState
run_on s tries = run plan (own_acts plan) s tries

abbrev notes_on : BoardState → List Step → List StepNote
notes_on s tries = own_notes 0 (notes plan (own_acts plan) s tries)

abbrev outer_runs : BoardState
outer_runs = run_on (start_state plan) to_outer

abbrev inner_runs : BoardState
inner_runs = run_on outer_runs to_inner

abbrev inner_is_done : BoardState
inner_is_done = run_on inner_runs (in_inner ++ h0 ∷ [])

abbrev outer_is_done : BoardState
outer_is_done = run_on inner_is_done (in_outer ++ h0 ∷ [])

pub record Nesting : Type 0 where
  pub the_outer_handler_interrupts_this :
      below_live outer_runs ≡ triple 0x1034 Supervisor false
  pub the_inner_handler_interrupts_this :
      below_live inner_runs ≡ triple 0x2004 Supervisor false
  pub the_inner_completion_goes_on_with_its_own_a6_and_a7 :
      live_in inner_is_done ≡ context 0x2004 Supervisor false 0x88 0x99
  pub sepc_is_then_its_own_interrupted_sepc :
      below_live inner_is_done ≡ triple 0x1100 User true
  pub the_outer_completion_goes_there_with_the_a6_and_a7_of_the_outer :
      live_in outer_is_done ≡ context 0x1100 User true 0x66 0x77
  pub sepc_is_then_the_interrupted_sepc_of_the_outer :
      below_live outer_is_done ≡ triple 0x7000 Supervisor true
  pub the_notes_amend_what_the_inner_interrupted_so :
      amend 2 (inner ∷ outer ∷ []) (context 0x2004 Supervisor false 0 0xa) (notes_on inner_runs in_inner)
      ≡ context 0x2004 Supervisor false 0x88 0x99
  pub the_notes_amend_what_the_outer_interrupted_so :
      amend 1 (outer ∷ []) (context 0x1034 Supervisor false 0 0)
      (notes_on outer_runs (to_inner ++ in_inner ++ h0 ∷ []) ++ notes_on inner_is_done in_outer)
      ≡ context 0x1100 User true 0x66 0x77
  pub the_notes_amend_the_base_so :
      triple_of (amend 0 [] (context 0 User false 0 0)
      (notes_on (start_state plan) (to_outer ++ to_inner ++ in_inner ++ h0 ∷ (in_outer ++ h0 ∷ []))))
      ≡ triple 0x7000 Supervisor true
  pub the_notes_tell_both_handlers :
      ids_after [] (notes_on (start_state plan) (to_outer ++ to_inner)) ≡ inner ∷ outer ∷ []

pub nesting : Nesting
unfolding ran step hart_step reporter_step wants at_bank first_bank bank_due
    is_global is_platform class_of is_reserved same_instance is_more_urgent target waits_for chosen
    attribute is_never_written is_shut is_refused_value word_for
nesting = record {
  the_outer_handler_interrupts_this = refl;
  the_inner_handler_interrupts_this = refl;
  the_inner_completion_goes_on_with_its_own_a6_and_a7 = refl;
  sepc_is_then_its_own_interrupted_sepc = refl;
  the_outer_completion_goes_there_with_the_a6_and_a7_of_the_outer = refl;
  sepc_is_then_the_interrupted_sepc_of_the_outer = refl;
  the_notes_amend_what_the_inner_interrupted_so = refl;
  the_notes_amend_what_the_outer_interrupted_so = refl;
  the_notes_amend_the_base_so = refl;
  the_notes_tell_both_handlers = refl;
}
