-- A reporter that isn't wanted never is again: one that is wanted after a hart's step is as it was before, and a
-- reporter's step changes that reporter alone.
use Rattle.std.proofs.Common.{◌≡◌, ◌≢◌, ℕ, ◌&&◌, true, false, List, slice_get, Option, Some, None, refl, inl, inr, sym, ap, ◌∙◌, subst}
use Rattle.std.specs.Prelude.{slice_set, unwrap_or}
use Rattle.std.specs.Option.{option_map}
use Rattle.std.proofs.lemmas.Bool.{cases_eq, cond_both}
use Rattle.std.proofs.lemmas.Option.{none-some, same_Some, slice_get_within}
use Rattle.sse_base.specs.declared.ids.Instance.{Instance}
use Rattle.sse_base.specs.Contexts.{Stack}
use Rattle.sse_base.specs.Choice.{next_for}
use Rattle.reri_fields.specs.Drain.BankTry.{Drains, Acknowledges}
use Rattle.reri_bank.proofs.Stands.{get-set_same, get-set_other}
use Rattle.ras_device.specs.declared.act.Act.{Act}
use Rattle.board_plan.specs.declared.notes.Step.TheVariants.{Hart, Reporter}
use Rattle.board_plan.specs.declared.notes.StepNote.TheVariants as note
use Rattle.board_plan.specs.declared.ops.Op.{Op}
use Rattle.board_plan.specs.declared.ops.Op.TheVariants as ops
use Rattle.board_plan.specs.declared.plan.Reporter as plan_reporter
use Rattle.board_plan.specs.declared.plan.Plan.{Plan}
use Rattle.board_plan.specs.State.{BoardState, ReporterState}
use Rattle.board_plan.specs.Ops.{is_user, needs_supervisor, op_at, past}
use Rattle.board_plan.specs.Step.{BoardReach, Effect, Made, Stepped, after_reporter, allowed, apply, at_bank, bank_due, board_reach, is_wanted, on_act, on_chosen, on_due, one_more, quietly, step, unplugged, wants, with_effect, with_one_more}
use Rattle.event_laws.proofs.Outcomes.{hart_made, reporter_made}

-- ---- A hart's step ----

-- a reporter that is wanted now is as it was
abbrev AsBefore : Option plan_reporter.Reporter → ℕ → List ReporterState → List ReporterState → Type 0
AsBefore decl r old new = is_wanted decl (slice_get new r) ≡ true → slice_get new r ≡ slice_get old r

-- one without its plug isn't
no-plug : (decl : Option plan_reporter.Reporter) (x : ReporterState)
    → is_wanted decl (Some (record x { plugged = false })) ≡ true → ⊥
no-plug None x wanted = cc
no-plug (Some d) x wanted = cc

unplugged_as : (decl : Option plan_reporter.Reporter) (r reporter : ℕ) (b : BoardReach) (o : Option ReporterState)
    → slice_get b.reporters reporter ≡ o → AsBefore decl r b.reporters (unplugged reporter b o).reach.reporters
unplugged_as decl r reporter b None is wanted = refl
unplugged_as decl r reporter b (Some x) is wanted =
    let without : ReporterState = record x { plugged = false } in
    let set_one = slice_set b.reporters reporter without in
    elim (cases_eq r reporter) as (λ _. slice_get set_one r ≡ slice_get b.reporters r) [
      | inl here ↦
          absurd (no-plug decl x
          (ap (is_wanted decl)
          (sym (get-set_same b.reporters reporter without (slice_get_within b.reporters reporter x is)))
          ∙ ap (λ k. is_wanted decl (slice_get set_one k)) (sym here) ∙ wanted))
      | inr elsewhere ↦ get-set_other b.reporters reporter r without elsewhere
    ]

acked_as : (decl : Option plan_reporter.Reporter) (r bank : ℕ) (b : BoardReach) (o : Option Effect)
    → AsBefore decl r b.reporters
    (unwrap_or (option_map (with_effect b) o) (quietly b (note.Ack bank None))).reach.reporters
acked_as decl r bank b None wanted = refl
acked_as decl r bank b (Some e) wanted = refl

module _ (decl : Option plan_reporter.Reporter) (r h : ℕ) (plan : Plan) (stacks : List Stack) where
  applied_as : (b : BoardReach) (op : Op) → AsBefore decl r b.reporters (apply h plan stacks b op).reach.reporters
  applied_as b ops.Nop wanted = refl
  applied_as b (ops.Sbi eid fid args) wanted = refl
  applied_as b (ops.Set reg value) wanted = refl
  applied_as b (ops.Load reg addr) wanted = refl
  applied_as b (ops.Save reg addr) wanted = refl
  applied_as b (ops.Store addr value) wanted = refl
  applied_as b (ops.Inc addr) wanted = refl
  applied_as b (ops.Jump pc) wanted = refl
  applied_as b (ops.Jlt addr value pc) wanted = refl
  applied_as b ops.Sret wanted = refl
  applied_as b (ops.Ack bank) wanted =
      acked_as decl r bank b (at_bank bank Acknowledges plan b.own.events b.banks) wanted
  applied_as b (ops.Unplug reporter) wanted =
      unplugged_as decl r reporter b (slice_get b.reporters reporter) refl wanted

  allowed_as : (b : BoardReach) (op : Op) → AsBefore decl r b.reporters (allowed h plan stacks b op).reach.reporters
  allowed_as b op =
      let next : BoardReach = record b { own = past b.own } in
      cond_both (is_user b.own.stack.live.privilege && needs_supervisor op) (quietly next note.Illegal)
      (apply h plan stacks next op) (λ (m : Made). AsBefore decl r b.reporters m.reach.reporters)
      (λ not_for_it wanted. refl) (λ for_it. applied_as next op)

  op_as : (b : BoardReach) (o : Option Op) (m : Made) → option_map (allowed h plan stacks b) o ≡ Some m
      → AsBefore decl r b.reporters m.reach.reporters
  op_as b None m is = absurd (none-some m is)
  op_as b (Some op) m is =
      subst (λ (x : Made). AsBefore decl r b.reporters x.reach.reporters)
      (same_Some (allowed h plan stacks b op) m is) (allowed_as b op)

  chosen_as : (b : BoardReach) (o : Option Instance) (m : Made) → on_chosen h plan stacks b o ≡ Some m
      → AsBefore decl r b.reporters m.reach.reporters
  chosen_as b None m is = op_as b (op_at b.own.stack.live.pc plan.ops) m is
  chosen_as b (Some at) m is =
      subst (λ (x : Made). AsBefore decl r b.reporters x.reach.reporters) (same_Some _ m is) (λ wanted. refl)

  drained_as : (b : BoardReach) (o : Option Effect) (m : Made) → option_map (with_effect b) o ≡ Some m
      → AsBefore decl r b.reporters m.reach.reporters
  drained_as b None m is = absurd (none-some m is)
  drained_as b (Some e) m is =
      subst (λ (x : Made). AsBefore decl r b.reporters x.reach.reporters) (same_Some (with_effect b e) m is)
      (λ wanted. refl)

  due_as : (b : BoardReach) (o : Option ℕ) (m : Made) → on_due h plan stacks b o ≡ Some m
      → AsBefore decl r b.reporters m.reach.reporters
  due_as b None m is = chosen_as b (next_for h b.own) m is
  due_as b (Some bank) m is = drained_as b (at_bank bank Drains plan b.own.events b.banks) m is

-- whatever it does, also where it takes out the reporter's plug
pub hart_rests : (plan : Plan) (acts : ℕ → List Act) (h r : ℕ) (s : BoardState) (d : Stepped)
    → step plan acts (Hart h) s ≡ Some d → wants plan r d.state ≡ true
    → slice_get d.state.reporters r ≡ slice_get s.reporters r
unfolding wants
hart_rests plan acts h r s d is =
    let made = hart_made plan acts h s d is in
    subst
    (λ (x : Stepped). is_wanted (slice_get plan.reporters r) (slice_get x.state.reporters r) ≡ true
    → slice_get x.state.reporters r ≡ slice_get s.reporters r) (sym made.is)
    (due_as (slice_get plan.reporters r) r h plan s.machine.stacks (board_reach made.stack s)
    (bank_due h plan s.banks) made.made made.makes)

-- ---- A reporter's step ----

-- where it is wanted it is there
wanted_there : (decl : Option plan_reporter.Reporter) (o : Option ReporterState) → is_wanted decl o ≡ true
    → (x : ReporterState) × (o ≡ Some x)
wanted_there decl None wanted = absurd (none decl wanted)
  where
    none : (decl : Option plan_reporter.Reporter) → is_wanted decl None ≡ true → ⊥
    none None wanted = cc
    none (Some d) wanted = cc
wanted_there decl (Some x) wanted = (x, refl)

-- what a reporter's step leaves
pub record OneMore (plan : Plan) (r : ℕ) (s : BoardState) (d : Stepped) : Type 0 where
  pub was : ReporterState
  pub wanted : wants plan r s ≡ true
  pub there : slice_get s.reporters r ≡ Some was
  pub now : slice_get d.state.reporters r ≡ Some (one_more was)
  pub others : (k : ℕ) → k ≢ r → slice_get d.state.reporters k ≡ slice_get s.reporters k

one_more_at : (plan : Plan) (r : ℕ) (s : BoardState) (a : Act) (x : ReporterState) → wants plan r s ≡ true
    → slice_get s.reporters r ≡ Some x → OneMore plan r s (after_reporter r s (on_act plan s a))
one_more_at plan r s a x wanted there =
    let set_one : with_one_more r s.reporters (slice_get s.reporters r) ≡ slice_set s.reporters r (one_more x) =
    ap (with_one_more r s.reporters) there in
    record {
      was = x;
      wanted = wanted;
      there = there;
      now = ap (λ (xs : List ReporterState). slice_get xs r) set_one
          ∙ get-set_same s.reporters r (one_more x) (slice_get_within s.reporters r x there);
      others = λ k other.
          ap (λ (xs : List ReporterState). slice_get xs k) set_one
          ∙ get-set_other s.reporters r k (one_more x) other;
    }

pub reporter_moves : (plan : Plan) (acts : ℕ → List Act) (r : ℕ) (s : BoardState) (d : Stepped)
    → step plan acts (Reporter r) s ≡ Some d → OneMore plan r s d
unfolding wants
reporter_moves plan acts r s d is =
    let made = reporter_made plan acts r s d is in
    let there = wanted_there (slice_get plan.reporters r) (slice_get s.reporters r) made.wanted in
    subst (OneMore plan r s) (sym made.is) (one_more_at plan r s made.next there.0 made.wanted there.1)
