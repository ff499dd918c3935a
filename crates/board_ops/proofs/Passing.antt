-- A hart that is past its op executes it as if it had been executed where it stood.
use Rattle.std.proofs.Common.{◌≡◌, ℕ, ◌==◌, ◌&&◌, not, ◌<◌, true, false, cond, List, length, set, Option, Some, None, refl, ap, sym, ◌∙◌, subst}
use Rattle.std.proofs.lemmas.List.{set-set, get_or-set_same}
use Rattle.sse_base.specs.declared.functions.Function.{Function}
use Rattle.sse_base.specs.declared.functions.Function.TheVariants as functions
use Rattle.sse_base.specs.declared.codes.SbiCode.TheVariants.{NotSupported}
use Rattle.sse_base.specs.Functions.{function_of}
use Rattle.sse_base.specs.Contexts.{Stack, fresh_stack}
use Rattle.sse_base.specs.Machine.{Machine, Reach, reach, placed}
use Rattle.sse_base.specs.Calls.{argument_at, on_instance, read_attrs, refuse, known, extension, call}
use Rattle.board_plan.specs.declared.notes.StepNote.{StepNote}
use Rattle.board_plan.specs.declared.notes.StepNote.TheVariants as note
use Rattle.board_plan.specs.declared.ops.Op.{Op}
use Rattle.board_plan.specs.declared.ops.Op.TheVariants as ops
use Rattle.board_plan.specs.Ops.{done, called, is_user, needs_supervisor, past}
use Rattle.board_ops.specs.Own.{own_done, own_step}
use Rattle.board_ops.specs.Executed.{Executes}

-- ---- A hart's reach, placed ----

-- what was placed is what the hart reaches
pub reach-placed : (h : ℕ) (r : Reach) (m : Machine) → h < length m.stacks → reach h (placed h r m) ≡ r
reach-placed h r m within =
    ap (λ (s : Stack). record { stack = s; events = r.events; masks = r.masks; memory = r.memory })
    (get_or-set_same m.stacks h r.stack (fresh_stack 0) within)

-- what is placed later stays
pub placed-placed : (h : ℕ) (q r : Reach) (m : Machine) → placed h r (placed h q m) ≡ placed h r m
placed-placed h q r m =
    ap (λ (ss : List Stack). record { events = r.events; masks = r.masks; stacks = ss; memory = r.memory })
    (set-set m.stacks h q.stack r.stack)

-- ---- A call looks at the other harts' handlers alone ----

same_known : (h : ℕ) (f : Option Function) (args : List ℕ) (ss : List Stack) (x : Stack) (r : Reach)
    → known h f args (set ss h x) r ≡ known h f args ss r
same_known h None args ss x r = refl
same_known h (Some functions.ReadAttrs) args ss x r =
    ap (λ (stacks : List Stack). on_instance (argument_at args 0) h r (λ at.
    read_attrs (argument_at args 1) (argument_at args 2) (argument_at args 3) (argument_at args 4) at stacks r))
    (set-set ss h x r.stack)
same_known h (Some functions.WriteAttrs) args ss x r = refl
same_known h (Some functions.Register) args ss x r = refl
same_known h (Some functions.Unregister) args ss x r = refl
same_known h (Some functions.Enable) args ss x r = refl
same_known h (Some functions.Disable) args ss x r = refl
same_known h (Some functions.Complete) args ss x r = refl
same_known h (Some functions.Inject) args ss x r = refl
same_known h (Some functions.HartUnmask) args ss x r = refl
same_known h (Some functions.HartMask) args ss x r = refl

same_call : (h eid fid : ℕ) (args : List ℕ) (ss : List Stack) (x : Stack) (r : Reach)
    → call h eid fid args (set ss h x) r ≡ call h eid fid args ss r
same_call h eid fid args ss x r =
    ap (cond (not (eid == extension)) (refuse NotSupported r)) (same_known h (function_of fid) args ss x r)

same_done : (h : ℕ) (ss : List Stack) (x : Stack) (r : Reach) (op : Op) → own_done h (set ss h x) r op
    ≡ own_done h ss r op
same_done h ss x r ops.Nop = refl
same_done h ss x r (ops.Sbi eid fid args) = ap (called eid fid args) (same_call h eid fid args ss x r)
same_done h ss x r (ops.Set reg value) = refl
same_done h ss x r (ops.Load reg addr) = refl
same_done h ss x r (ops.Save reg addr) = refl
same_done h ss x r (ops.Store addr value) = refl
same_done h ss x r (ops.Inc addr) = refl
same_done h ss x r (ops.Jump pc) = refl
same_done h ss x r (ops.Jlt addr value pc) = refl
same_done h ss x r ops.Sret = refl
same_done h ss x r (ops.Ack bank) = refl
same_done h ss x r (ops.Unplug reporter) = refl

-- ---- An op after its hart is past it ----

at_past : (h : ℕ) (m m2 : Machine) (n : StepNote) (op : Op) (r : Reach) → h < length m.stacks
    → r.events.harts ≡ m.events.harts → r.events.instances ≡ m.events.instances
    → Executes h (placed h r m) m2 n (own_done h (placed h r m).stacks (reach h (placed h r m)) op)
    → Executes h m m2 n (own_done h m.stacks r op)
at_past h m m2 n op r within harts instances e =
    let same : own_done h (set m.stacks h r.stack) (reach h (placed h r m)) op ≡ own_done h m.stacks r op =
    same_done h m.stacks r.stack (reach h (placed h r m)) op
    ∙ ap (λ q. own_done h m.stacks q op) (reach-placed h r m within) in
    record {
      note_is = e.note_is ∙ ap (λ d. d.note) same;
      next = e.next ∙ ap (λ d. placed h d.reach (placed h r m)) same
          ∙ placed-placed h r (own_done h m.stacks r op).reach m;
      harts = e.harts ∙ harts;
      instances = e.instances ∙ instances;
    }

-- an op that the hart's mode allows
pub allowed : (h : ℕ) (m m1 m2 : Machine) (n : StepNote) (op : Op) → h < length m.stacks
    → (is_user (reach h m).stack.live.privilege && needs_supervisor op) ≡ false → m1 ≡ placed h (past (reach h m)) m
    → Executes h m1 m2 n (own_done h m1.stacks (reach h m1) op) → Executes h m m2 n (own_step h m.stacks (reach h m) op)
allowed h m m1 m2 n op within legal is e =
    let r = past (reach h m) in
    let at : Executes h m m2 n (own_done h m.stacks r op) =
    at_past h m m2 n op r within refl refl
    (subst (λ (y : Machine). Executes h y m2 n (own_done h y.stacks (reach h y) op)) is e) in
    subst (λ b. Executes h m m2 n (cond b (done r note.Illegal) (own_done h m.stacks r op))) (sym legal) at

-- an op that it doesn't
pub illegal : (h : ℕ) (m m1 : Machine) (op : Op)
    → (is_user (reach h m).stack.live.privilege && needs_supervisor op) ≡ true → m1 ≡ placed h (past (reach h m)) m
    → Executes h m m1 note.Illegal (own_step h m.stacks (reach h m) op)
illegal h m m1 op forbidden is =
    let r = past (reach h m) in
    subst (λ b. Executes h m m1 note.Illegal (cond b (done r note.Illegal) (own_done h m.stacks r op))) (sym forbidden)
    (record {
      note_is = refl;
      next = is;
      harts = ap (λ (y : Machine). y.events.harts) is;
      instances = ap (λ (y : Machine). y.events.instances) is;
    })
