-- A more urgent event interrupts a handler. Both handlers write to what they interrupted, and each completion goes on
-- with the interrupted context as these writes amended it.
use Rattle.std.proofs.Common.{◌≡◌, ℕ, true, false, List, [], ◌∷◌, ◌++◌, Option, Some, refl}
use Rattle.std.specs.Prelude.{replicate, map}
use Rattle.sse_base.specs.declared.contexts.Privilege.TheVariants.{User, Supervisor}
use Rattle.sse_base.specs.declared.ids.Instance.TheVariants.{Local}
use Rattle.sse_base.specs.Ids.{is_global, is_platform, class_of, same_instance}
use Rattle.sse_base.specs.Contexts.{Stack, triple_of, interrupted}
use Rattle.sse_base.specs.Machine.{stack_of}
use Rattle.sse_base.specs.Choice.{is_more_urgent, target, waits_for, chosen}
use Rattle.sse_base.specs.Calls.{is_reserved, attribute, is_never_written, is_shut, is_refused_value, word_for}
use Rattle.ras_device.specs.declared.act.Act.TheVariants as act
use Rattle.board_plan.specs.declared.notes.Step.{Step}
use Rattle.board_plan.specs.declared.notes.StepNote.{StepNote}
use Rattle.board_plan.specs.declared.ops.Op.TheVariants as ops
use Rattle.board_plan.specs.declared.ops.Reg.TheVariants.{Sepc}
use Rattle.board_plan.specs.declared.plan.Plan.{Plan}
use Rattle.board_plan.specs.State.{BoardState, start_state}
use Rattle.board_plan.specs.Step.{at_bank, first_bank, bank_due, hart_step, wants, reporter_step, step}
use Rattle.board_plan.specs.Run.{ran, run, notes}
use Rattle.board_plan.specs.Amend.{own_notes, amend}
use Rattle.board_worked.proofs.Boards.{event, starts_at, ops_from, sbi, handlers_plan, own_acts, h0, r0, context, triple, live_on, below_on}

-- the outer handler's event, and the inner one's
abbrev outer : ℕ
outer = 0x100000

abbrev inner : ℕ
inner = 0x0

-- Two words are stored, both events are registered and enabled, and the hart is unmasked. The outer handler writes its
-- INTERRUPTED_SEPC from the first word, after a place to which the inner one sends it. The inner handler writes its own
-- from the second word, and then sets sepc.
abbrev plan : Plan
plan =
    handlers_plan 1 (event outer ∷ event inner ∷ [])
    (ops_from 0x1000
    (ops.Store 0x80000000 0x5550 ∷ ops.Store 0x80000008 0x1030 ∷ sbi 2 (outer ∷ 0x2000 ∷ 0xa ∷ []) ∷ sbi 4 (outer ∷ [])
    ∷ sbi 2 (inner ∷ 0x3000 ∷ 0xb ∷ []) ∷ sbi 4 (inner ∷ []) ∷ sbi 8 [] ∷ [])
    ++ ops_from 0x2000 (ops.Nop ∷ ops.Nop ∷ sbi 1 (outer ∷ 6 ∷ 1 ∷ 0x80000000 ∷ []) ∷ sbi 6 [] ∷ [])
    ++ ops_from 0x3000 (sbi 1 (inner ∷ 6 ∷ 1 ∷ 0x80000008 ∷ []) ∷ ops.Set Sepc 0x2008 ∷ sbi 6 [] ∷ []))
    (starts_at 0 0x1000 100 ∷ []) (act.Raise outer 0 ∷ act.Raise inner 0 ∷ [])

-- up to the delivery of the outer event, from there to that of the inner one, and on to each completion
abbrev to_outer : List Step
to_outer = replicate 7 h0 ++ r0 ∷ h0 ∷ []

abbrev to_inner : List Step
to_inner = h0 ∷ r0 ∷ h0 ∷ []

abbrev in_inner : List Step
in_inner = h0 ∷ h0 ∷ []

abbrev in_outer : List Step
in_outer = h0 ∷ []

abbrev run_on : BoardState → List Step → BoardState
run_on s tries = run plan (own_acts plan) s tries

abbrev notes_on : BoardState → List Step → List StepNote
notes_on s tries = own_notes 0 (notes plan (own_acts plan) s tries)

abbrev outer_runs : BoardState
outer_runs = run_on (start_state plan) to_outer

abbrev inner_runs : BoardState
inner_runs = run_on outer_runs to_inner

abbrev inner_is_done : BoardState
inner_is_done = run_on inner_runs (in_inner ++ h0 ∷ [])

abbrev outer_is_done : BoardState
outer_is_done = run_on inner_is_done (in_outer ++ h0 ∷ [])

-- what is kept by the frame of each: its INTERRUPTED_SEPC, _FLAGS, _A6 and _A7
abbrev kept_by : ℕ → Stack → List (Option ℕ)
kept_by id x = map (λ attr. interrupted attr (Local (record { 0 = id }) 0) x.frames x.base) (6 ∷ 7 ∷ 8 ∷ 9 ∷ [])

abbrev kept_in : ℕ → BoardState → List (Option ℕ)
kept_in id s = kept_by id (stack_of 0 s.machine)

pub record Nested : Type 0 where
  pub the_outer_handler_begins :
      live_on 0 outer_runs ≡ context 0x2000 Supervisor false 0 0xa
  pub sepc_is_where_it_interrupted :
      below_on 0 outer_runs ≡ triple 0x101c Supervisor false
  pub the_inner_handler_interrupts_it :
      live_on 0 inner_runs ≡ context 0x3000 Supervisor false 0 0xb
  pub sepc_is_where_the_inner_one_interrupted :
      below_on 0 inner_runs ≡ triple 0x2004 Supervisor false
  pub the_inner_one_keeps_the_outer_ones_registers :
      kept_in inner inner_runs ≡ Some 0x101c ∷ Some 1 ∷ Some 0 ∷ Some 0xa ∷ []
  pub the_inner_completion_goes_where_sepc_was_set :
      live_on 0 inner_is_done ≡ context 0x2008 Supervisor false 0 0xa
  pub sepc_is_then_what_the_inner_one_wrote :
      below_on 0 inner_is_done ≡ triple 0x1030 Supervisor false
  pub the_outer_completion_goes_there :
      live_on 0 outer_is_done ≡ context 0x1030 Supervisor false 0 0
  pub sepc_is_then_what_the_outer_one_wrote :
      below_on 0 outer_is_done ≡ triple 0x5550 User false
  pub the_notes_amend_the_inner_ones_context_so :
      amend 2 (inner ∷ outer ∷ []) (context 0x2004 Supervisor false 0 0xa) (notes_on inner_runs in_inner)
      ≡ context 0x2008 Supervisor false 0 0xa
  pub the_notes_amend_the_outer_ones_context_so :
      amend 1 (outer ∷ []) (context 0x101c Supervisor false 0 0)
      (notes_on outer_runs (to_inner ++ in_inner ++ h0 ∷ []) ++ notes_on inner_is_done in_outer)
      ≡ context 0x1030 Supervisor false 0 0
  pub they_leave_its_other_registers :
      amend 1 (outer ∷ []) (context 0x1020 Supervisor true 0x11 0x22)
      (notes_on outer_runs (to_inner ++ in_inner ++ h0 ∷ []) ++ notes_on inner_is_done in_outer)
      ≡ context 0x1030 Supervisor true 0x11 0x22
  pub the_notes_amend_the_base_so :
      triple_of (amend 0 [] (context 0 User false 0 0)
      (notes_on (start_state plan) (to_outer ++ to_inner ++ in_inner ++ h0 ∷ (in_outer ++ h0 ∷ []))))
      ≡ triple 0x5550 User false

pub nested : Nested
unfolding ran step hart_step reporter_step wants at_bank first_bank bank_due
    is_global is_platform class_of is_reserved same_instance is_more_urgent target waits_for chosen
    attribute is_never_written is_shut is_refused_value word_for
nested = record {
  the_outer_handler_begins = refl;
  sepc_is_where_it_interrupted = refl;
  the_inner_handler_interrupts_it = refl;
  sepc_is_where_the_inner_one_interrupted = refl;
  the_inner_one_keeps_the_outer_ones_registers = refl;
  the_inner_completion_goes_where_sepc_was_set = refl;
  sepc_is_then_what_the_inner_one_wrote = refl;
  the_outer_completion_goes_there = refl;
  sepc_is_then_what_the_outer_one_wrote = refl;
  the_notes_amend_the_inner_ones_context_so = refl;
  the_notes_amend_the_outer_ones_context_so = refl;
  they_leave_its_other_registers = refl;
  the_notes_amend_the_base_so = refl;
}
