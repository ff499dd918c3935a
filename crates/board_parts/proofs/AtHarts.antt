-- What the parts of a hart's step make of the board.
use Rattle.std.proofs.Common.{◌≡◌, ℕ, suc, ◌<◌, ◌≤◌, ◌&&◌, Bool, true, false, cond, List, length, get_or, set, slice_get, Option, Some, None, nat_lt, refl, sym, ap, ◌∙◌, subst, arith}
use Rattle.std.specs.Option.{option_map}
use Rattle.std.specs.Prelude.{unwrap_or}
use Rattle.std.proofs.lemmas.Bool.{cond-true, cond-false}
use Rattle.std.proofs.lemmas.Bool.Decides.{nat_tests}
use Rattle.std.proofs.lemmas.List.{set-get_or, get_or_read}
use Rattle.std.proofs.lemmas.List.FromFn.{length-map-range_with_len, get_or-map-range_with_len}
use Rattle.std.proofs.lemmas.Option.{get_or_from_slice_get, none-some, same_Some}
use Rattle.reri_bank.proofs.Stands.{get_there}
use Rattle.board_plan.specs.declared.notes.Counts.{Counts}
use Rattle.sse_base.specs.declared.ids.Instance.{Instance}
use Rattle.sse_base.specs.Ids.{id_of}
use Rattle.sse_base.specs.Contexts.{Stack, fresh_stack}
use Rattle.sse_base.specs.Machine.{Machine, Reach, reach, placed}
use Rattle.sse_base.specs.Choice.{next_for}
use Rattle.sse_base.specs.Calls.{delivered}
use Rattle.reri_fields.specs.Drain.BankTry.{Drains, Acknowledges}
use Rattle.board_plan.specs.declared.notes.StepNote.{StepNote}
use Rattle.board_plan.specs.declared.notes.StepNote.TheVariants as note
use Rattle.board_plan.specs.declared.ops.Op.{Op}
use Rattle.board_plan.specs.declared.ops.Op.TheVariants as ops
use Rattle.board_plan.specs.declared.plan.Plan.{Plan}
use Rattle.board_plan.specs.State.{BoardState, ReporterState, budget_of, counts_of, no_counts}
use Rattle.board_plan.specs.Ops.{Done, done, past, is_user, needs_supervisor, op_at}
use Rattle.board_plan.specs.Step.{BoardReach, Effect, Made, after_hart, allowed, apply, at_bank, bank_due, board_reach, counted, hart_step, on_chosen, on_due, on_own, own_step, quietly, step_of, unplugged, with_effect}
use Rattle.board_ops.specs.Own as own
use Rattle.board_ops.specs.Executed.{Executes}
use Rattle.board_ops.specs.Indexes.{Indexes}
use Rattle.board_parts.specs.declared.outcome.Outcome.{Outcome}
use Rattle.board_parts.specs.declared.parts.Parts.{Parts}
use Rattle.board_parts.specs.Shows.{AreBanks, Shows}
use Rattle.board_parts.specs.Came.{Takes, Acts, Steps, came as came_of, outcome_of, reached, was_plugged, without_plug, is_plugged, unplug_in}
use Rattle.board_parts.proofs.AtBanks.{Rests}

-- ---- A hart's reach ----

pub reach_is : (plan : Plan) (s : BoardState) (p : Parts) (h : ℕ) (stack : Stack) → Shows plan s p
    → slice_get s.machine.stacks h ≡ Some stack → reach h p.firmware ≡ (board_reach stack s).own
reach_is plan s p h stack shows there =
    ap (reach h) shows.machine
    ∙ ap (λ (x : Stack). record {
      stack = x;
      events = s.machine.events;
      masks = s.machine.masks;
      memory =
          s.machine.memory;
    })
    (get_or_from_slice_get s.machine.stacks h stack (fresh_stack 0) there)

-- a stack that is put back where it was
stack_back : (ss : List Stack) (h : ℕ) (stack : Stack) → slice_get ss h ≡ Some stack → set ss h stack ≡ ss
stack_back ss h stack there =
    ap (set ss h) (sym (get_or_from_slice_get ss h stack (fresh_stack 0) there)) ∙ set-get_or ss h (fresh_stack 0)

-- the parts with another machine
pub with_machine : (plan : Plan) (s : BoardState) (p q : Parts) (m : Machine) → Shows plan s p → Rests p q
    → q.firmware ≡ m → q.banks.items ≡ p.banks.items → Shows plan (record s { machine = m }) q
with_machine plan s p q m shows rests firmware banks =
    record {
      machine = firmware;
      index = subst (Indexes plan.ops) (sym rests.index) shows.index;
      decls = rests.decls ∙ shows.decls;
      banks = subst (AreBanks plan s.banks) (sym banks) shows.banks;
      budgets_are = rests.budgets ∙ shows.budgets_are;
      counts = rests.counts ∙ shows.counts;
      limits_are = rests.limits ∙ shows.limits_are;
      reporters = rests.reporters ∙ shows.reporters;
    }

-- ---- Past an op ----

abbrev pub next_reach : BoardState → Stack → BoardReach
next_reach s stack = let r = board_reach stack s in record r { own = past r.own }

-- the state of a hart that is past its op
abbrev pub at_past : ℕ → BoardState → Stack → BoardState
at_past h s stack = reached h s (next_reach s stack)

pub passes : (plan : Plan) (s : BoardState) (p q : Parts) (h : ℕ) (stack : Stack) → Shows plan s p
    → slice_get s.machine.stacks h ≡ Some stack → Rests p q → q.banks.items ≡ p.banks.items
    → q.firmware ≡ placed h (past (reach h p.firmware)) p.firmware → Shows plan (at_past h s stack) q
passes plan s p q h stack shows there rests banks firmware =
    with_machine plan s p q (placed h (past (board_reach stack s).own) s.machine) shows rests
    (firmware
    ∙ ap (λ (r : Reach). placed h (past r) p.firmware) (reach_is plan s p h stack shows there)
    ∙ ap (placed h (past (board_reach stack s).own)) shows.machine) banks

-- whether an op is illegal
pub illegal_is : (plan : Plan) (s : BoardState) (p : Parts) (h : ℕ) (stack : Stack) (op : Op) → Shows plan s p
    → slice_get s.machine.stacks h ≡ Some stack
    → (is_user (reach h p.firmware).stack.live.privilege && needs_supervisor op)
    ≡ (is_user stack.live.privilege && needs_supervisor op)
illegal_is plan s p h stack op shows there =
    ap (λ (r : Reach). is_user r.stack.live.privilege && needs_supervisor op) (reach_is plan s p h stack shows there)

pub illegal_acts : (plan : Plan) (s : BoardState) (q : Parts) (h : ℕ) (stack : Stack) (op : Op) (came : Outcome)
    → Shows plan (at_past h s stack) q → (is_user stack.live.privilege && needs_supervisor op) ≡ true
    → came ≡ outcome_of note.Illegal None
    → Acts h plan s (Some (allowed h plan s.machine.stacks (board_reach stack s) op)) q (Some came)
illegal_acts plan s q h stack op came shows forbidden told =
    let next = next_reach s stack in
    subst (λ b. Acts h plan s (Some (cond b (quietly next note.Illegal) (apply h plan s.machine.stacks next op))) q
    (Some came))
    (sym forbidden) (record { outcome = ap (λ c. Some c) told; shows = shows })

legal_acts : (plan : Plan) (s : BoardState) (q : Parts) (h : ℕ) (stack : Stack) (op : Op) (came : Option Outcome)
    → (is_user stack.live.privilege && needs_supervisor op) ≡ false
    → Acts h plan s (Some (apply h plan s.machine.stacks (next_reach s stack) op)) q came
    → Acts h plan s (Some (allowed h plan s.machine.stacks (board_reach stack s) op)) q came
legal_acts plan s q h stack op came legal acts =
    let next = next_reach s stack in
    subst (λ b. Acts h plan s (Some (cond b (quietly next note.Illegal)
    (apply h plan s.machine.stacks next op))) q came)
    (sym legal) acts

-- ---- `ack` ----

ack_takes : (plan : Plan) (s : BoardState) (q : Parts) (h : ℕ) (stack : Stack) (bank : ℕ) (o : Option Effect)
    (came : Option Outcome) → Takes plan (at_past h s stack) o q came
    → Acts h plan s (Some (unwrap_or (option_map (with_effect (next_reach s stack)) o) (quietly (next_reach s stack)
    (note.Ack bank None)))) q
    (Some (unwrap_or came (outcome_of (note.Ack bank None) None)))
ack_takes plan s q h stack bank None came takes =
    record {
      outcome = ap (λ c. Some (unwrap_or c (outcome_of
          (note.Ack bank None) None))) takes.outcome;
      shows = takes.shows;
    }
ack_takes plan s q h stack bank (Some e) came takes =
    record {
      outcome = ap (λ c. Some (unwrap_or c (outcome_of
          (note.Ack bank None) None))) takes.outcome;
      shows = takes.shows;
    }

ack_acts : (plan : Plan) (s : BoardState) (q : Parts) (h : ℕ) (stack : Stack) (bank : ℕ) (came : Option Outcome)
    (last : Outcome)
    → (is_user stack.live.privilege && needs_supervisor (ops.Ack bank)) ≡ false
    → Takes plan (at_past h s stack) (at_bank bank Acknowledges plan s.machine.events s.banks) q came
    → last ≡ unwrap_or came (outcome_of (note.Ack bank None) None)
    → Acts h plan s (Some (allowed h plan s.machine.stacks (board_reach stack s) (ops.Ack bank))) q (Some last)
ack_acts plan s q h stack bank came last legal takes told =
    subst (λ c. Acts h plan s (Some (allowed h plan s.machine.stacks (board_reach stack s) (ops.Ack bank))) q
    (Some c)) (sym told)
    (legal_acts plan s q h stack (ops.Ack bank) (Some (unwrap_or came (outcome_of (note.Ack bank None) None))) legal
    (ack_takes plan s q h stack bank (at_bank bank Acknowledges plan s.machine.events s.banks) came takes))

-- where the board has the bank, and where it hasn't
pub ack_made : (plan : Plan) (s : BoardState) (q : Parts) (h : ℕ) (stack : Stack) (bank : ℕ) (made : Bool)
    (n : StepNote)
    → made ≡ true → (is_user stack.live.privilege && needs_supervisor (ops.Ack bank)) ≡ false
    → Takes plan (at_past h s stack) (at_bank bank Acknowledges plan s.machine.events s.banks) q
    (came_of made (outcome_of n None))
    → Acts h plan s (Some (allowed h plan s.machine.stacks (board_reach stack s) (ops.Ack bank))) q
    (Some (outcome_of n None))
ack_made plan s q h stack bank made n is legal takes =
    ack_acts plan s q h stack bank (Some (outcome_of n None)) (outcome_of n None) legal
    (subst (λ b. Takes plan (at_past h s stack) (at_bank bank Acknowledges plan s.machine.events s.banks) q
    (came_of b (outcome_of n None))) is takes) refl

pub ack_stray : (plan : Plan) (s : BoardState) (q : Parts) (h : ℕ) (stack : Stack) (bank : ℕ) (made : Bool)
    (n : StepNote)
    → made ≡ false → (is_user stack.live.privilege && needs_supervisor (ops.Ack bank)) ≡ false
    → Takes plan (at_past h s stack) (at_bank bank Acknowledges plan s.machine.events s.banks) q
    (came_of made (outcome_of n None))
    → Acts h plan s (Some (allowed h plan s.machine.stacks (board_reach stack s) (ops.Ack bank))) q
    (Some (outcome_of (note.Ack bank None) None))
ack_stray plan s q h stack bank made n is legal takes =
    ack_acts plan s q h stack bank None (outcome_of (note.Ack bank None) None) legal
    (subst (λ b. Takes plan (at_past h s stack) (at_bank bank Acknowledges plan s.machine.events s.banks) q
    (came_of b (outcome_of n None))) is takes) refl

-- ---- `unplug` ----

unplug_is : (h : ℕ) (s : BoardState) (r : BoardReach) (reporter : ℕ) (o : Option ReporterState)
    → unplugged reporter r o
    ≡ quietly (record r { reporters = unplug_in reporter r.reporters o }) (note.Unplug reporter (is_plugged o))
unplug_is h s r reporter None = refl
unplug_is h s r reporter (Some x) = refl

pub unplug_acts : (plan : Plan) (s : BoardState) (q : Parts) (h : ℕ) (stack : Stack) (reporter : ℕ) (was : Bool)
    (last : Outcome)
    → (is_user stack.live.privilege && needs_supervisor (ops.Unplug reporter)) ≡ false
    → Shows plan (without_plug reporter (at_past h s stack)) q → was_plugged reporter (at_past h s stack) ≡ was
    → last ≡ outcome_of (note.Unplug reporter was) None
    → Acts h plan s (Some (allowed h plan s.machine.stacks (board_reach stack s) (ops.Unplug reporter))) q (Some last)
unplug_acts plan s q h stack reporter was last legal shows plugged told =
    let next = next_reach s stack in
    legal_acts plan s q h stack (ops.Unplug reporter) (Some last) legal
    (subst (λ m. Acts h plan s (Some m) q (Some last)) (sym (unplug_is h s next reporter
    (slice_get s.reporters reporter)))
    (record {
      outcome = ap (λ c. Some c) (told ∙ ap (λ b. outcome_of (note.Unplug reporter b) None) (sym plugged));
      shows = shows;
    }))

-- ---- The ops of the hart's own ----

own_apply : (h : ℕ) (plan : Plan) (ss : List Stack) (r : BoardReach) (op : Op) → ((bank : ℕ) → op ≡ ops.Ack bank → ⊥)
    → ((reporter : ℕ) → op ≡ ops.Unplug reporter → ⊥)
    → apply h plan ss (record r { own = past r.own }) op ≡ on_own r (own.own_done h ss (past r.own) op)
own_apply h plan ss r ops.Nop ack unplug = refl
own_apply h plan ss r (ops.Sbi eid fid args) ack unplug = refl
own_apply h plan ss r (ops.Set reg value) ack unplug = refl
own_apply h plan ss r (ops.Load reg addr) ack unplug = refl
own_apply h plan ss r (ops.Save reg addr) ack unplug = refl
own_apply h plan ss r (ops.Store addr value) ack unplug = refl
own_apply h plan ss r (ops.Inc addr) ack unplug = refl
own_apply h plan ss r (ops.Jump pc) ack unplug = refl
own_apply h plan ss r (ops.Jlt addr value pc) ack unplug = refl
own_apply h plan ss r ops.Sret ack unplug = refl
own_apply h plan ss r (ops.Ack bank) ack unplug = absurd (ack bank refl)
own_apply h plan ss r (ops.Unplug reporter) ack unplug = absurd (unplug reporter refl)

own_cond : (b : Bool) (r : BoardReach) (x y : Done) → cond b (on_own r x) (on_own r y) ≡ on_own r (cond b x y)
own_cond true r x y = refl
own_cond false r x y = refl

allowed_is : (h : ℕ) (plan : Plan) (ss : List Stack) (r : BoardReach) (op : Op) → ((bank : ℕ) → op ≡ ops.Ack bank → ⊥)
    → ((reporter : ℕ) → op ≡ ops.Unplug reporter → ⊥) → allowed h plan ss r op ≡ on_own r (own.own_step h ss r.own op)
allowed_is h plan ss r op ack unplug =
    let b = is_user r.own.stack.live.privilege && needs_supervisor op in
    ap (cond b (quietly (record r { own = past r.own }) note.Illegal)) (own_apply h plan ss r op ack unplug)
    ∙ own_cond b r (done (past r.own) note.Illegal) (own.own_done h ss (past r.own) op)

pub own_acts : (plan : Plan) (s : BoardState) (p q : Parts) (h : ℕ) (stack : Stack) (op : Op) (n : StepNote)
    (came : Outcome)
    → Shows plan s p → slice_get s.machine.stacks h ≡ Some stack → ((bank : ℕ) → op ≡ ops.Ack bank → ⊥)
    → ((reporter : ℕ) → op ≡ ops.Unplug reporter → ⊥) → Rests p q → q.banks.items ≡ p.banks.items
    → Executes h p.firmware q.firmware n (own.own_step h p.firmware.stacks (reach h p.firmware) op)
    → came ≡ outcome_of n None
    → Acts h plan s (Some (allowed h plan s.machine.stacks (board_reach stack s) op)) q (Some came)
own_acts plan s p q h stack op n came shows there ack unplug rests banks did told =
    let r = board_reach stack s in
    let same : own.own_step h p.firmware.stacks (reach h p.firmware) op ≡ own.own_step h s.machine.stacks r.own op =
    ap (λ (x : Reach). own.own_step h p.firmware.stacks x op) (reach_is plan s p h stack shows there)
    ∙ ap (λ (m : Machine). own.own_step h m.stacks r.own op) shows.machine in
    let d = own.own_step h s.machine.stacks r.own op in
    subst (λ m. Acts h plan s (Some m) q (Some came)) (sym (allowed_is h plan s.machine.stacks r op ack unplug))
    (record {
      outcome = ap (λ c. Some c) (told ∙ ap (λ x. outcome_of x None) (did.note_is ∙ ap (λ x. x.note) same));
      shows = with_machine plan s p q (placed h d.reach s.machine) shows rests
          (did.next ∙ ap (λ x. placed h x.reach p.firmware) same ∙ ap (placed h d.reach) shows.machine) banks;
    })

-- ---- What comes first ----

drain_acts : (plan : Plan) (s : BoardState) (q : Parts) (h : ℕ) (stack : Stack) (o : Option Effect)
    (came : Option Outcome)
    → slice_get s.machine.stacks h ≡ Some stack → Takes plan s o q came
    → Acts h plan s (option_map (with_effect (board_reach stack s)) o) q came
drain_acts plan s q h stack None came there takes = record { outcome = takes.outcome; shows = takes.shows }
drain_acts plan s q h stack (Some e) came there takes =
    record {
      outcome = takes.outcome;
      shows = subst (λ (ss : List Stack). Shows plan (record s {
        machine = record { events = e.events; masks = s.machine.masks; stacks = ss; memory = s.machine.memory };
        banks = e.banks;
      }) q) (sym (stack_back s.machine.stacks h stack there)) takes.shows;
    }

-- a drain that is due
pub first_drains : (plan : Plan) (s : BoardState) (q : Parts) (h : ℕ) (stack : Stack) (bank : ℕ) (came : Option Outcome)
    → slice_get s.machine.stacks h ≡ Some stack → bank_due h plan s.banks ≡ Some bank
    → Takes plan s (at_bank bank Drains plan s.machine.events s.banks) q came
    → Acts h plan s (own_step h plan s.machine.stacks (board_reach stack s)) q came
first_drains plan s q h stack bank came there due takes =
    subst (λ o. Acts h plan s (on_due h plan s.machine.stacks (board_reach stack s) o) q came) (sym due)
    (drain_acts plan s q h stack (at_bank bank Drains plan s.machine.events s.banks) came there takes)

-- what is chosen, where no drain is due
pub chosen_acts : (plan : Plan) (s : BoardState) (p q : Parts) (h : ℕ) (stack : Stack) (came : Option Outcome)
    (at : Option Instance)
    → Shows plan s p → slice_get s.machine.stacks h ≡ Some stack → bank_due h plan s.banks ≡ None
    → at ≡ next_for h (reach h p.firmware)
    → Acts h plan s (on_chosen h plan s.machine.stacks (board_reach stack s) at) q came
    → Acts h plan s (own_step h plan s.machine.stacks (board_reach stack s)) q came
chosen_acts plan s p q h stack came at shows there due chosen acts =
    let r = board_reach stack s in
    subst (λ o. Acts h plan s (on_due h plan s.machine.stacks r o) q came) (sym due)
    (subst (λ o. Acts h plan s (on_chosen h plan s.machine.stacks r o) q came)
    (chosen ∙ ap (next_for h) (reach_is plan s p h stack shows there)) acts)

-- a delivery
pub then_delivers : (plan : Plan) (s : BoardState) (p q : Parts) (h : ℕ) (stack : Stack) (at : Instance)
    (came : Outcome)
    → Shows plan s p → slice_get s.machine.stacks h ≡ Some stack → bank_due h plan s.banks ≡ None
    → Some at ≡ next_for h (reach h p.firmware) → Rests p q → q.banks.items ≡ p.banks.items
    → q.firmware ≡ placed h (delivered h at (reach h p.firmware)) p.firmware
    → came ≡ outcome_of (note.Deliver (id_of at).0) None
    → Acts h plan s (own_step h plan s.machine.stacks (board_reach stack s)) q (Some came)
then_delivers plan s p q h stack at came shows there due chosen rests banks firmware told =
    let r = board_reach stack s in
    chosen_acts plan s p q h stack (Some came) (Some at) shows there due chosen
    (record {
      outcome = ap (λ c. Some c) told;
      shows = with_machine plan s p q (placed h (delivered h at r.own) s.machine) shows rests
          (firmware ∙ ap (λ (x : Reach). placed h (delivered h at x) p.firmware) (reach_is plan s p h stack shows there)
          ∙ ap (placed h (delivered h at r.own)) shows.machine) banks;
    })

-- an op that stands at the pc
pub op_acts : (plan : Plan) (s : BoardState) (p q : Parts) (h : ℕ) (stack : Stack) (op : Op) (came : Option Outcome)
    (pc : ℕ)
    → Shows plan s p → slice_get s.machine.stacks h ≡ Some stack → pc ≡ (reach h p.firmware).stack.live.pc
    → Some op ≡ op_at pc plan.ops
    → Acts h plan s (Some (allowed h plan s.machine.stacks (board_reach stack s) op)) q came
    → Acts h plan s (on_chosen h plan s.machine.stacks (board_reach stack s) None) q came
op_acts plan s p q h stack op came pc shows there at stands acts =
    subst (λ o. Acts h plan s (option_map (allowed h plan s.machine.stacks (board_reach stack s)) o) q came)
    (stands ∙ ap (λ x. op_at x plan.ops) (at ∙ ap (λ (x : Reach). x.stack.live.pc)
    (reach_is plan s p h stack shows there)))
    acts

-- nothing
pub no_op : (plan : Plan) (s : BoardState) (p q : Parts) (h : ℕ) (stack : Stack) (pc : ℕ)
    → Shows plan s p → slice_get s.machine.stacks h ≡ Some stack → pc ≡ (reach h p.firmware).stack.live.pc
    → None ≡ op_at pc plan.ops → Shows plan s q
    → Acts h plan s (on_chosen h plan s.machine.stacks (board_reach stack s) None) q None
no_op plan s p q h stack pc shows there at stands still =
    subst (λ o. Acts h plan s (option_map (allowed h plan s.machine.stacks (board_reach stack s)) o) q None)
    (stands ∙ ap (λ x. op_at x plan.ops) (at ∙ ap (λ (x : Reach). x.stack.live.pc)
    (reach_is plan s p h stack shows there)))
    (record { outcome = refl; shows = still })

-- ---- Budgets and counts ----

pub budget_is : (plan : Plan) (s : BoardState) (p : Parts) (h x : ℕ) → Shows plan s p → h < length p.budgets.items
    → x ≡ get_or p.budgets.items h x → x ≡ budget_of h plan.starts
budget_is plan s p h x shows low read =
    let many : length p.budgets.items ≡ plan.harts =
    ap length shows.budgets_are ∙ length-map-range_with_len (λ k. budget_of k plan.starts) 0 plan.harts in
    get_or_read p.budgets.items h x low read 0
    ∙ ap (λ (bs : List ℕ). get_or bs h 0) shows.budgets_are
    ∙ get_or-map-range_with_len (λ k. budget_of k plan.starts) 0 plan.harts h h 0 (omega (arith, many, low))
    (omega arith)

pub counts_is : (plan : Plan) (s : BoardState) (p : Parts) (h : ℕ) (x : Counts) → Shows plan s p
    → h < length p.counts.items
    → x ≡ get_or p.counts.items h x → x ≡ counts_of h s
counts_is plan s p h x shows low read =
    get_or_read p.counts.items h x low read no_counts ∙ ap (λ (cs : List Counts). get_or cs h no_counts) shows.counts

pub stack_there : (plan : Plan) (s : BoardState) (p : Parts) (h : ℕ) → Shows plan s p → h < length p.firmware.stacks
    → (stack : Stack) × (slice_get s.machine.stacks h ≡ Some stack)
stack_there plan s p h shows low = get_there s.machine.stacks h (omega (
  arith,
  ap (λ
      (m : Machine). length m.stacks) shows.machine,
))

-- a hart that has made its budget
pub spent : (plan : Plan) (s : BoardState) (p : Parts) (h : ℕ) (stack : Stack) → Shows plan s p
    → slice_get s.machine.stacks h ≡ Some stack → budget_of h plan.starts ≤ (counts_of h s).steps
    → Steps plan s (hart_step h plan s) p None
unfolding hart_step
spent plan s p h stack shows there out =
    let over : nat_lt (counts_of h s).steps (budget_of h plan.starts) ≡ false = grind (arith, nat_tests) in
    let is : hart_step h plan s ≡ None =
    ap (step_of h plan s) there
    ∙ cond-false (nat_lt (counts_of h s).steps (budget_of h plan.starts))
    (option_map (after_hart h s) (own_step h plan s.machine.stacks (board_reach stack s))) None over in
    subst (λ o. Steps plan s o p None) (sym is) (record { outcome = refl; shows = shows })

within_budget : (plan : Plan) (s : BoardState) (h : ℕ) (stack : Stack) → slice_get s.machine.stacks h ≡ Some stack
    → (counts_of h s).steps < budget_of h plan.starts
    → hart_step h plan s ≡ option_map (after_hart h s) (own_step h plan s.machine.stacks (board_reach stack s))
unfolding hart_step
within_budget plan s h stack there low =
    let more : nat_lt (counts_of h s).steps (budget_of h plan.starts) ≡ true = grind (arith, nat_tests) in
    ap (step_of h plan s) there
    ∙ cond-true (nat_lt (counts_of h s).steps (budget_of h plan.starts))
    (option_map (after_hart h s) (own_step h plan s.machine.stacks (board_reach stack s))) None more

idle_made : (plan : Plan) (s : BoardState) (q : Parts) (h : ℕ) (o : Option Made) → Acts h plan s o q None
    → Steps plan s (option_map (after_hart h s) o) q None
idle_made plan s q h None acts = record { outcome = refl; shows = acts.shows }
idle_made plan s q h (Some m) acts = absurd (none-some (outcome_of m.note m.published) acts.outcome)

-- a hart that has no step
pub idles : (plan : Plan) (s : BoardState) (q : Parts) (h : ℕ) (stack : Stack)
    → slice_get s.machine.stacks h ≡ Some stack
    → (counts_of h s).steps < budget_of h plan.starts
    → Acts h plan s (own_step h plan s.machine.stacks (board_reach stack s)) q None
    → Steps plan s (hart_step h plan s) q None
idles plan s q h stack there low acts =
    subst (λ o. Steps plan s o q None) (sym (within_budget plan s h stack there low))
    (idle_made plan s q h (own_step h plan s.machine.stacks (board_reach stack s)) acts)

-- a step is counted
pub with_counts : (plan : Plan) (s : BoardState) (p q : Parts) (cs : List Counts) (n : ℕ) → Shows plan s p
    → q.firmware ≡ p.firmware → q.index ≡ p.index → q.decls.items ≡ p.decls.items → q.banks.items ≡ p.banks.items
    → q.budgets.items ≡ p.budgets.items → q.limits.items ≡ p.limits.items → q.reporters.items ≡ p.reporters.items
    → q.counts.items ≡ cs → Shows plan (record s { counts = cs; steps = n }) q
with_counts plan s p q cs n shows firmware index decls banks budgets limits reporters counts =
    record {
      machine = firmware ∙ shows.machine;
      index = subst (Indexes plan.ops) (sym index) shows.index;
      decls = decls ∙ shows.decls;
      banks = subst (AreBanks plan s.banks) (sym banks) shows.banks;
      budgets_are = budgets ∙ shows.budgets_are;
      counts = counts;
      limits_are = limits ∙ shows.limits_are;
      reporters = reporters ∙ shows.reporters;
    }

-- what counting a step leaves
pub record Counted (p q : Parts) (h : ℕ) (n : StepNote) (before : Counts) : Type 0 where
  pub firmware : q.firmware ≡ p.firmware
  pub index : q.index ≡ p.index
  pub decls : q.decls.items ≡ p.decls.items
  pub banks : q.banks.items ≡ p.banks.items
  pub budgets : q.budgets.items ≡ p.budgets.items
  pub limits : q.limits.items ≡ p.limits.items
  pub reporters : q.reporters.items ≡ p.reporters.items
  pub counts : q.counts.items ≡ set p.counts.items h (counted n before)

step_made : (plan : Plan) (s : BoardState) (p q : Parts) (h : ℕ) (o : Option Made) (came : Outcome) (before : Counts)
    → Acts h plan s o p (Some came) → before ≡ counts_of h s → Counted p q h came.note before
    → Steps plan s (option_map (after_hart h s) o) q (Some came)
step_made plan s p q h None came before acts was counts = absurd (none-some came (sym acts.outcome))
step_made plan s p q h (Some m) came before acts was counts =
    let told : came ≡ outcome_of m.note m.published = same_Some came (outcome_of m.note m.published) acts.outcome in
    record {
      outcome = acts.outcome;
      shows = with_counts plan (reached h s m.reach) p q (set s.counts h (counted m.note (counts_of h s))) (suc s.steps)
          acts.shows counts.firmware counts.index counts.decls counts.banks counts.budgets counts.limits
          counts.reporters
          (counts.counts ∙ ap (λ (cs : List Counts). set cs h (counted came.note before)) acts.shows.counts
          ∙ ap (λ (x : Outcome). set s.counts h (counted x.note before)) told
          ∙ ap (λ x. set s.counts h (counted m.note x)) was);
    }

pub makes_step : (plan : Plan) (s : BoardState) (p q : Parts) (h : ℕ) (stack : Stack) (came : Outcome) (before : Counts)
    → slice_get s.machine.stacks h ≡ Some stack → (counts_of h s).steps < budget_of h plan.starts
    → Acts h plan s (own_step h plan s.machine.stacks (board_reach stack s)) p (Some came) → before ≡ counts_of h s
    → Counted p q h came.note before → Steps plan s (hart_step h plan s) q (Some came)
makes_step plan s p q h stack came before there low acts was counts =
    subst (λ o. Steps plan s o q (Some came)) (sym (within_budget plan s h stack there low))
    (step_made plan s p q h (own_step h plan s.machine.stacks (board_reach stack s)) came before acts was counts)
