-- No step depends on the version of a plan, and so no run, and no list of tries.
use Rattle.std.proofs.Common.{◌≡◌, ℕ, zero, suc, ◌<◌, ◌&&◌, nat_lt, if◌then◌else◌, List, [], ◌∷◌, ◌++◌, length, slice_get, Option, Some, None, option_map, unwrap_or, refl, sym, subst, ap, ◌∙◌}
use Rattle.sse_base.specs.declared.ids.Instance.{Instance}
use Rattle.sse_base.specs.Contexts.{Stack}
use Rattle.sse_base.specs.Events.{Events}
use Rattle.sse_base.specs.Choice.{next_for}
use Rattle.reri_fields.specs.Drain.{BankState, BankTry}
use Rattle.reri_fields.specs.Drain.BankTry.{Reports, Acknowledges, Drains}
use Rattle.ras_device.specs.declared.act.Act.{Act}
use Rattle.ras_device.specs.declared.act.Act.TheVariants as act
use Rattle.board_plan.specs.declared.notes.StepNote.TheVariants as note
use Rattle.board_plan.specs.declared.notes.Step.{Step}
use Rattle.board_plan.specs.declared.notes.Step.TheVariants.{Hart, Reporter}
use Rattle.board_plan.specs.declared.notes.Published.{Published}
use Rattle.board_plan.specs.declared.ops.Op.{Op}
use Rattle.board_plan.specs.declared.ops.Op.TheVariants as ops
use Rattle.board_plan.specs.declared.plan.BankDecl.{BankDecl}
use Rattle.board_plan.specs.declared.plan.Plan.{Plan}
use Rattle.board_plan.specs.State.{BoardState, budget_of, counts_of, start_state}
use Rattle.board_plan.specs.Ops.{op_at, is_user, needs_supervisor, past}
use Rattle.board_plan.specs.Step.{Effect, Made, Stepped, BoardReach, tried_at, at_bank, first_bank, bank_due, with_effect, quietly, apply, allowed, on_chosen, on_due, own_step, after_hart, board_reach, step_of, hart_step, on_act, wants, after_reporter, reporter_step, next_act, step}
use Rattle.board_plan.specs.Run.{Noted, Ran, state_after, noted, published, run, notes, copies, ran, round, rounds, IsFirstIdle, AreScheduled, AreTries}
use Rattle.move_laws.proofs.Moved.{in_version}

-- ---- Functions that agree ----

option_map_same : {A B : Type 0} (f g : A → B) → ((x : A) → f x ≡ g x) → (o : Option A) → option_map f o
    ≡ option_map g o
option_map_same f g h None = refl
option_map_same f g h (Some x) = ap (λ y. Some y) (h x)

module _ (v : ℕ) (p : Plan) where
  abbrev q : Plan
  q = in_version v p

  -- ---- Banks ----

  tried_at_same : (bank : ℕ) (t : BankTry) (events : Events) (banks : List BankState) (d : Option BankDecl)
      (s : Option BankState) → tried_at bank t q events banks d s ≡ tried_at bank t p events banks d s
  tried_at_same bank t events banks None s = refl
  tried_at_same bank t events banks (Some d) None = refl
  tried_at_same bank t events banks (Some d) (Some s) = refl

  at_bank_same : (bank : ℕ) (t : BankTry) (events : Events) (banks : List BankState) → at_bank bank t q events banks
      ≡ at_bank bank t p events banks
  unfolding at_bank
  at_bank_same bank t events banks =
      tried_at_same bank t events banks (slice_get p.banks bank) (slice_get banks bank)

  bank_due_same : (h : ℕ) (banks : List BankState) → bank_due h q banks ≡ bank_due h p banks
  unfolding bank_due first_bank
  bank_due_same h banks = refl

  -- ---- Harts ----

  apply_same : (h : ℕ) (stacks : List Stack) (r : BoardReach) (op : Op) → apply h q stacks r op
      ≡ apply h p stacks r op
  apply_same h stacks r ops.Nop = refl
  apply_same h stacks r (ops.Sbi eid fid args) = refl
  apply_same h stacks r (ops.Set reg value) = refl
  apply_same h stacks r (ops.Load reg addr) = refl
  apply_same h stacks r (ops.Save reg addr) = refl
  apply_same h stacks r (ops.Store addr value) = refl
  apply_same h stacks r (ops.Inc addr) = refl
  apply_same h stacks r (ops.Jump pc) = refl
  apply_same h stacks r (ops.Jlt addr value pc) = refl
  apply_same h stacks r ops.Sret = refl
  apply_same h stacks r (ops.Ack bank) =
      ap (λ (e : Option Effect). unwrap_or (option_map (with_effect r) e) (quietly r (note.Ack bank None)))
      (at_bank_same bank Acknowledges r.own.events r.banks)
  apply_same h stacks r (ops.Unplug reporter) = refl

  allowed_same : (h : ℕ) (stacks : List Stack) (r : BoardReach) (op : Op) → allowed h q stacks r op
      ≡ allowed h p stacks r op
  allowed_same h stacks r op =
      let next : BoardReach = record r { own = past r.own } in
      ap (λ (m : Made).
      if is_user r.own.stack.live.privilege && needs_supervisor op then quietly next note.Illegal else m)
      (apply_same h stacks next op)

  on_chosen_same : (h : ℕ) (stacks : List Stack) (r : BoardReach) (at : Option Instance) → on_chosen h q stacks r at
      ≡ on_chosen h p stacks r at
  on_chosen_same h stacks r None =
      option_map_same (allowed h q stacks r) (allowed h p stacks r) (allowed_same h stacks r)
      (op_at r.own.stack.live.pc p.ops)
  on_chosen_same h stacks r (Some at) = refl

  on_due_same : (h : ℕ) (stacks : List Stack) (r : BoardReach) (bank : Option ℕ) → on_due h q stacks r bank
      ≡ on_due h p stacks r bank
  on_due_same h stacks r None = on_chosen_same h stacks r (next_for h r.own)
  on_due_same h stacks r (Some bank) =
      ap (λ (e : Option Effect). option_map (with_effect r) e) (at_bank_same bank Drains r.own.events r.banks)

  own_step_same : (h : ℕ) (stacks : List Stack) (r : BoardReach) → own_step h q stacks r ≡ own_step h p stacks r
  own_step_same h stacks r =
      ap (λ (bank : Option ℕ). on_due h q stacks r bank) (bank_due_same h r.banks)
      ∙ on_due_same h stacks r (bank_due h p r.banks)

  step_of_same : (h : ℕ) (s : BoardState) (stack : Option Stack) → step_of h q s stack ≡ step_of h p s stack
  step_of_same h s None = refl
  step_of_same h s (Some stack) =
      ap (λ (m : Option Made).
      if nat_lt (counts_of h s).steps (budget_of h p.starts) then option_map (after_hart h s) m else None)
      (own_step_same h s.machine.stacks (board_reach stack s))

  hart_step_same : (h : ℕ) (s : BoardState) → hart_step h q s ≡ hart_step h p s
  unfolding hart_step
  hart_step_same h s = step_of_same h s (slice_get s.machine.stacks h)

  -- ---- Reporters ----

  on_act_same : (s : BoardState) (a : Act) → on_act q s a ≡ on_act p s a
  on_act_same s (act.Error report) =
      ap (λ (e : Option Effect).
      unwrap_or e
      (record { events = s.machine.events; banks = s.banks; note = note.Error report None; published = None }))
      (at_bank_same report.bank (Reports (record { step = suc s.steps; report = report })) s.machine.events s.banks)
  on_act_same s (act.Raise id h) = refl

  reporter_step_same : (r : ℕ) (next : Option Act) (s : BoardState) → reporter_step r q next s
      ≡ reporter_step r p next s
  unfolding reporter_step wants
  reporter_step_same r None s = refl
  reporter_step_same r (Some next) s =
      ap (λ (e : Effect). if wants p r s then Some (after_reporter r s e) else None) (on_act_same s next)

  step_same : (acts : ℕ → List Act) (t : Step) (s : BoardState) → step q acts t s ≡ step p acts t s
  unfolding step
  step_same acts (Hart h) s = hart_step_same h s
  step_same acts (Reporter r) s = reporter_step_same r (next_act acts r s) s

  -- ---- Runs ----

  run_same : (acts : ℕ → List Act) (s : BoardState) (ts : List Step) → run q acts s ts ≡ run p acts s ts
  run_same acts s [] = refl
  run_same acts s (t ∷ ts) =
      ap (λ (d : Option Stepped). run q acts (state_after s d) ts) (step_same acts t s)
      ∙ run_same acts (state_after s (step p acts t s)) ts

  notes_same : (acts : ℕ → List Act) (s : BoardState) (ts : List Step) → notes q acts s ts ≡ notes p acts s ts
  notes_same acts s [] = refl
  notes_same acts s (t ∷ ts) =
      ap (λ (d : Option Stepped). noted t d (notes q acts (state_after s d) ts)) (step_same acts t s)
      ∙ ap (λ (ns : List Noted). noted t (step p acts t s) ns) (notes_same acts (state_after s (step p acts t s)) ts)

  copies_same : (acts : ℕ → List Act) (s : BoardState) (ts : List Step) → copies q acts s ts ≡ copies p acts s ts
  copies_same acts s [] = refl
  copies_same acts s (t ∷ ts) =
      ap (λ (d : Option Stepped). published d (copies q acts (state_after s d) ts)) (step_same acts t s)
      ∙ ap (λ (ps : List Published). published (step p acts t s) ps)
      (copies_same acts (state_after s (step p acts t s)) ts)

  abbrev ran_of : BoardState → List Noted → List Published → Ran
  ran_of s ns ps = record { state = s; notes = ns; published = ps }

  pub ran_same : (acts : ℕ → List Act) (ts : List Step) → ran q acts ts ≡ ran p acts ts
  unfolding ran
  ran_same acts ts =
      let s : BoardState = start_state p in
      ap (λ (x : BoardState). ran_of x (notes q acts s ts) (copies q acts s ts)) (run_same acts s ts)
      ∙ ap (λ (ns : List Noted). ran_of (run p acts s ts) ns (copies q acts s ts)) (notes_same acts s ts)
      ∙ ap (λ (ps : List Published). ran_of (run p acts s ts) (notes p acts s ts) ps) (copies_same acts s ts)

  -- ---- Tries ----

  rounds_same : (n : ℕ) → rounds q n ≡ rounds p n
  rounds_same zero = refl
  rounds_same (suc n) = ap (λ (ts : List Step). ts ++ round p) (rounds_same n)

  -- what a round makes, from the state behind so many rounds
  round_same : (acts : ℕ → List Act) (s : BoardState) (k : ℕ) →
      notes q acts (run q acts s (rounds q k)) (round q) ≡ notes p acts (run p acts s (rounds p k)) (round p)
  round_same acts s k =
      notes_same acts (run q acts s (rounds q k)) (round p)
      ∙ ap (λ (t : BoardState). notes p acts t (round p)) (run_same acts s (rounds q k))
      ∙ ap (λ (ts : List Step). notes p acts (run p acts s ts) (round p)) (rounds_same k)

  idle_same : (acts : ℕ → List Act) (s : BoardState) (n : ℕ) → IsFirstIdle p acts s n → IsFirstIdle q acts s n
  idle_same acts s n i =
      record {
        busy = λ k below. subst (λ (ns : List Noted). 0 < length ns) (sym (round_same acts s k)) (i.busy k below);
        idle = round_same acts s n ∙ i.idle;
      }

  scheduled_same : (acts : ℕ → List Act) (schedule : Option (List Step)) (tries : List Step) →
      AreScheduled p acts schedule tries → AreScheduled q acts schedule tries
  scheduled_same acts None tries r =
      record {
        count = r.count;
        first_idle = idle_same acts (start_state p) r.count r.first_idle;
        are_rounds = r.are_rounds ∙ sym (rounds_same (suc r.count));
      }
  scheduled_same acts (Some schedule) tries e = e

  pub tries_same : (acts : ℕ → List Act) (tries : List Step) → AreTries p acts tries → AreTries q acts tries
  tries_same acts tries = scheduled_same acts p.schedule tries
