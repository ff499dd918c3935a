-- The instances of a board stay those of its plan.
use Rattle.std.proofs.Common.{◌≡◌, ℕ, List, Option, Some, None, refl, sym, ◌∙◌, subst}
use Rattle.sse_base.specs.declared.ids.Instance.{Instance}
use Rattle.sse_base.specs.Contexts.{Stack, newest}
use Rattle.sse_base.specs.Events.{Events}
use Rattle.sse_base.specs.Machine.{Reach}
use Rattle.sse_base.specs.Calls.{Answer, call, completed_at}
use Rattle.ras_device.specs.declared.act.Act.{Act}
use Rattle.board_plan.specs.declared.notes.Step.{Step}
use Rattle.board_plan.specs.declared.notes.Step.TheVariants.{Hart, Reporter}
use Rattle.board_plan.specs.declared.notes.StepNote.{StepNote}
use Rattle.board_plan.specs.declared.plan.Plan.{Plan}
use Rattle.board_plan.specs.Ops.{past}
use Rattle.board_plan.specs.Run.{ran}
use Rattle.board_plan.specs.State.{BoardState, start_state}
use Rattle.board_plan.specs.Step.{Stepped, board_reach, event_signalled, on_board, signal_event, step}
use Rattle.event_laws.proofs.Calls.{call_cases}
use Rattle.event_laws.proofs.Outcomes.{ActCases, StepCases, act_cases, hart_made, own_cases, reporter_made}
use Rattle.event_laws.proofs.Runs.{each_state}

signal_lasts : (h : ℕ) (t : Events) (o : Option ℕ) → (signal_event h t o).instances ≡ t.instances
signal_lasts h t None = refl
signal_lasts h t (Some id) = refl

completion_lasts : (o : Option Instance) (r : Reach) → (completed_at o r).events.instances ≡ r.events.instances
completion_lasts None r = refl
completion_lasts (Some at) r = refl

call_lasts : (h eid fid : ℕ) (args : List ℕ) (stacks : List Stack) (r : Reach)
    → (call h eid fid args stacks r).reach.events.instances ≡ r.events.instances
call_lasts h eid fid args stacks r =
    call_cases (λ (a : Answer). a.reach.events.instances ≡ r.events.instances) h eid fid args stacks r (record {
      refuses = λ code bad. refl;
      reads = λ memory is. refl;
      writes = λ at base words same is named write. refl;
      makes_move = λ at mv state new named move is. refl;
      completes = λ same is. completion_lasts (newest r.stack.frames) r;
      injects = λ at is named. refl;
      unmasks = λ is. refl;
      masks = λ is. refl;
    })

hart_lasts : (h : ℕ) (plan : Plan) (stacks : List Stack) (r : Reach)
    → StepCases h plan stacks r (λ (q : Reach) (n : StepNote). q.events.instances ≡ r.events.instances)
hart_lasts h plan stacks r =
    record {
      drains = λ n is. refl;
      signals = λ bank level d known. signal_lasts d.home r.events (event_signalled d r.events level);
      delivers = λ at next. refl;
      executes = λ none. record {
        plain = λ n pc memory is. refl;
        sets = λ reg value. refl;
        loads = λ reg word. refl;
        srets = refl;
        calls = λ eid fid args. call_lasts h eid fid args stacks (past r);
      };
    }

act_lasts : (t : Events) → ActCases t (λ (u : Events) (n : StepNote). u.instances ≡ t.instances)
act_lasts t =
    record { reports = λ report logged. refl; raises = λ id h. signal_lasts h t (on_board h t (Some id)) }

pub step_lasts : (plan : Plan) (acts : ℕ → List Act) (t : Step) (s : BoardState) (d : Stepped)
    → step plan acts t s ≡ Some d → d.state.machine.events.instances ≡ s.machine.events.instances
step_lasts plan acts (Hart h) s d is =
    let made = hart_made plan acts h s d is in
    subst (λ (e : Stepped). e.state.machine.events.instances ≡ s.machine.events.instances) (sym made.is)
    (own_cases (λ (q : Reach) (n : StepNote). q.events.instances ≡ s.machine.events.instances) h plan
    s.machine.stacks (board_reach made.stack s) made.made
    (hart_lasts h plan s.machine.stacks (board_reach made.stack s).own) made.makes)
step_lasts plan acts (Reporter r) s d is =
    let made = reporter_made plan acts r s d is in
    subst (λ (e : Stepped). e.state.machine.events.instances ≡ s.machine.events.instances) (sym made.is)
    (act_cases (λ (u : Events) (n : StepNote). u.instances ≡ s.machine.events.instances) plan s made.next
    (act_lasts s.machine.events))

pub instances_last : (plan : Plan) (acts : ℕ → List Act) (tries : List Step)
    → (ran plan acts tries).state.machine.events.instances ≡ (start_state plan).machine.events.instances
instances_last plan acts tries =
    each_state plan acts
    (λ (s : BoardState). s.machine.events.instances ≡ (start_state plan).machine.events.instances) refl
    (record { keeps = λ t s d is same. step_lasts plan acts t s d is ∙ same }) tries
