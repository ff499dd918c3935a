-- Memory keeps its size: 512 words.
use Rattle.std.proofs.Common.{◌≡◌, ℕ, ◌+◌, ◌%◌, ◌^◌, true, false, List, [], ◌∷◌, length, slice_get, set, Option, Some, None, nat_lt, refl, ap, ◌∙◌, subst}
use Rattle.std.specs.Prelude.{◌==◌, ◌&&◌, not, unwrap_or, Result, Ok, Err}
use Rattle.std.specs.Option.{option_map}
use Rattle.std.proofs.lemmas.Bool.{cond_both}
use Rattle.std.proofs.lemmas.List.{length-set}
use Rattle.std.proofs.lemmas.Option.{none-some, same_Some}
use Rattle.sse_base.specs.declared.codes.SbiCode.{SbiCode}
use Rattle.sse_base.specs.declared.codes.SbiCode.TheVariants.{Success}
use Rattle.sse_base.specs.declared.functions.Function.{Function}
use Rattle.sse_base.specs.declared.functions.Function.TheVariants as functions
use Rattle.sse_base.specs.declared.ids.Instance.{Instance}
use Rattle.sse_base.specs.Contexts.{Stack, newest, has_frame, with_pc}
use Rattle.sse_base.specs.Functions.{function_of}
use Rattle.sse_base.specs.Words.{is_word, word_index, load, store, put_words, words_at}
use Rattle.sse_base.specs.Machine.{Reach}
use Rattle.sse_base.specs.Choice.{next_for}
use Rattle.sse_base.specs.Calls.{Answer, refuse, found, find_instance, find_range, read_range, reads, write_checked, write_range, check_write, completed_at, argument_at, function, known, extension, call}
use Rattle.ras_device.specs.declared.act.Act.{Act}
use Rattle.board_plan.specs.declared.notes.Step.{Step}
use Rattle.board_plan.specs.declared.notes.Step.TheVariants.{Hart, Reporter}
use Rattle.board_plan.specs.declared.notes.StepNote.{StepNote}
use Rattle.board_plan.specs.declared.notes.StepNote.TheVariants as note
use Rattle.board_plan.specs.declared.ops.Op.{Op}
use Rattle.board_plan.specs.declared.ops.Op.TheVariants as ops
use Rattle.board_plan.specs.declared.ops.Reg.{Reg}
use Rattle.board_plan.specs.declared.plan.Plan.{Plan}
use Rattle.board_plan.specs.State.{BoardState, ReporterState}
use Rattle.board_plan.specs.Ops.{Done, done, on_stack, is_user, needs_supervisor, op_at, past, register, loaded, stored, risen, jumped}
use Rattle.board_plan.specs.Step.{BoardReach, Made, Effect, Stepped, quietly, at_bank, bank_due, with_effect, unplugged, apply, allowed, on_chosen, on_due, board_reach, step}
use Rattle.reri_fields.specs.Drain.BankTry.{Drains, Acknowledges}
use Rattle.event_laws.proofs.Outcomes.{hart_made, reporter_made}

-- as many words as in this memory
abbrev AsMany : List ℕ → Reach → Type 0
AsMany memory q = length q.memory ≡ length memory

-- ---- Calls ----

found_many : {A : Type 0} (o : Result A SbiCode) (r : Reach) (f : A → Answer)
    → ((x : A) → AsMany r.memory (f x).reach) → AsMany r.memory (found o r f).reach
found_many (Err code) r f all = refl
found_many (Ok x) r f all = all x

put_many : (memory : List ℕ) (index : ℕ) (words : List ℕ) → length (put_words memory index words) ≡ length memory
put_many memory index [] = refl
put_many memory index (v ∷ vs) = put_many (set memory index v) (index + 1) vs ∙ length-set memory index v

checked_many : (code : SbiCode) (base : ℕ) (words : List ℕ) (at : Instance) (r : Reach)
    → AsMany r.memory (write_checked code base words at r).reach
checked_many Success base words at r = refl
checked_many code base words at r = refl

completed_many : (o : Option Instance) (r : Reach) → AsMany r.memory (completed_at o r)
completed_many None r = refl
completed_many (Some at) r = refl

function_many : (h : ℕ) (f : Function) (args : List ℕ) (stacks : List Stack) (r : Reach)
    → AsMany r.memory (function h f args stacks r).reach
function_many h functions.ReadAttrs args stacks r =
    let base = argument_at args 1 in
    let count = argument_at args 2 in
    let lo = argument_at args 3 in
    found_many (find_instance (argument_at args 0) h r.events) r _ (λ at.
    found_many (find_range base count lo (argument_at args 4)) r
    (read_range lo at (set stacks h r.stack) r) (λ range.
    put_many r.memory (word_index lo)
    (reads range.base range.count at (set stacks h r.stack) r.events)))
function_many h functions.WriteAttrs args stacks r =
    let base = argument_at args 1 in
    let count = argument_at args 2 in
    let lo = argument_at args 3 in
    found_many (find_instance (argument_at args 0) h r.events) r _ (λ at.
    found_many (find_range base count lo (argument_at args 4)) r (write_range lo at r) (λ range.
    let words = words_at r.memory lo range.count in
    checked_many (check_write range.base words at (has_frame at r.stack.frames) r.events) range.base words at r))
function_many h functions.Register args stacks r =
    found_many (find_instance (argument_at args 0) h r.events) r _ (λ at. refl)
function_many h functions.Unregister args stacks r =
    found_many (find_instance (argument_at args 0) h r.events) r _ (λ at. refl)
function_many h functions.Enable args stacks r =
    found_many (find_instance (argument_at args 0) h r.events) r _ (λ at. refl)
function_many h functions.Disable args stacks r =
    found_many (find_instance (argument_at args 0) h r.events) r _ (λ at. refl)
function_many h functions.Complete args stacks r = completed_many (newest r.stack.frames) r
function_many h functions.Inject args stacks r =
    found_many (find_instance (argument_at args 0) h r.events) r _ (λ at. refl)
function_many h functions.HartUnmask args stacks r = refl
function_many h functions.HartMask args stacks r = refl

known_many : (h : ℕ) (o : Option Function) (args : List ℕ) (stacks : List Stack) (r : Reach)
    → AsMany r.memory (known h o args stacks r).reach
known_many h None args stacks r = refl
known_many h (Some f) args stacks r = function_many h f args stacks r

call_many : (h eid fid : ℕ) (args : List ℕ) (stacks : List Stack) (r : Reach)
    → AsMany r.memory (call h eid fid args stacks r).reach
call_many h eid fid args stacks r =
    cond_both (not (eid == extension)) (refuse _ r) (known h (function_of fid) args stacks r)
    (λ (a : Answer). AsMany r.memory a.reach) (λ other. refl) (λ same. known_many h (function_of fid) args stacks r)

-- ---- Ops ----

stored_many : (r : Reach) (n : StepNote) (addr value : ℕ)
    → AsMany r.memory (stored r n (store r.memory addr value)).reach
stored_many r n addr value =
    cond_both (is_word addr) (Some (set r.memory (word_index addr) value)) None
    (λ (o : Option (List ℕ)). AsMany r.memory (stored r n o).reach)
    (λ word. length-set r.memory (word_index addr) value) (λ none. refl)

loaded_many : (reg : Reg) (r : Reach) (o : Option ℕ) → AsMany r.memory (loaded reg r o).reach
loaded_many reg r None = refl
loaded_many reg r (Some word) = refl

risen_many : (addr : ℕ) (r : Reach) (o : Option ℕ) → AsMany r.memory (risen addr r o).reach
risen_many addr r None = refl
risen_many addr r (Some word) =
    stored_many r (note.Inc addr ((word + 1) % 2 ^ 64)) addr ((word + 1) % 2 ^ 64)

jumped_many : (value pc : ℕ) (r : Reach) (o : Option ℕ) → AsMany r.memory (jumped value pc r o).reach
jumped_many value pc r None = refl
jumped_many value pc r (Some word) =
    cond_both (nat_lt word value) (done (on_stack (with_pc pc) r) (note.Jlt true)) (done r (note.Jlt false))
    (λ (d : Done). AsMany r.memory d.reach) (λ below. refl) (λ above. refl)

acknowledged_many : (bank : ℕ) (r : BoardReach) (o : Option Effect)
    → AsMany r.own.memory (unwrap_or (option_map (with_effect r) o) (quietly r (note.Ack bank None))).reach.own
acknowledged_many bank r None = refl
acknowledged_many bank r (Some e) = refl

unplugged_many : (reporter : ℕ) (r : BoardReach) (o : Option ReporterState)
    → AsMany r.own.memory (unplugged reporter r o).reach.own
unplugged_many reporter r None = refl
unplugged_many reporter r (Some x) = refl

applied_many : (h : ℕ) (plan : Plan) (stacks : List Stack) (r : BoardReach) (op : Op)
    → AsMany r.own.memory (apply h plan stacks r op).reach.own
applied_many h plan stacks r ops.Nop = refl
applied_many h plan stacks r (ops.Sbi eid fid args) = call_many h eid fid args stacks r.own
applied_many h plan stacks r (ops.Set reg value) = refl
applied_many h plan stacks r (ops.Load reg addr) = loaded_many reg r.own (load r.own.memory addr)
applied_many h plan stacks r (ops.Save reg addr) =
    let value = register reg r.own.stack in
    stored_many r.own (note.Save addr value) addr value
applied_many h plan stacks r (ops.Store addr value) = stored_many r.own (note.Store addr value) addr value
applied_many h plan stacks r (ops.Inc addr) = risen_many addr r.own (load r.own.memory addr)
applied_many h plan stacks r (ops.Jump pc) = refl
applied_many h plan stacks r (ops.Jlt addr value pc) = jumped_many value pc r.own (load r.own.memory addr)
applied_many h plan stacks r ops.Sret = refl
applied_many h plan stacks r (ops.Ack bank) =
    acknowledged_many bank r (at_bank bank Acknowledges plan r.own.events r.banks)
applied_many h plan stacks r (ops.Unplug reporter) = unplugged_many reporter r (slice_get r.reporters reporter)

allowed_many : (h : ℕ) (plan : Plan) (stacks : List Stack) (r : BoardReach) (op : Op)
    → AsMany r.own.memory (allowed h plan stacks r op).reach.own
allowed_many h plan stacks r op =
    let next : BoardReach = record r { own = past r.own } in
    cond_both (is_user r.own.stack.live.privilege && needs_supervisor op) (quietly next note.Illegal)
    (apply h plan stacks next op) (λ (m : Made). AsMany r.own.memory m.reach.own) (λ shut. refl)
    (λ may. applied_many h plan stacks next op)

-- ---- A step ----

mapped_many : {A : Type 0} (memory : List ℕ) (f : A → Made) (o : Option A) (m : Made) → option_map f o ≡ Some m
    → ((x : A) → AsMany memory (f x).reach.own) → AsMany memory m.reach.own
mapped_many memory f None m is all = absurd (none-some m is)
mapped_many memory f (Some x) m is all =
    subst (λ (y : Made). AsMany memory y.reach.own) (same_Some (f x) m is) (all x)

chosen_many : (h : ℕ) (plan : Plan) (stacks : List Stack) (r : BoardReach) (o : Option Instance) (m : Made)
    → on_chosen h plan stacks r o ≡ Some m → AsMany r.own.memory m.reach.own
chosen_many h plan stacks r None m is =
    mapped_many r.own.memory (allowed h plan stacks r) (op_at r.own.stack.live.pc plan.ops) m is
    (λ op. allowed_many h plan stacks r op)
chosen_many h plan stacks r (Some at) m is =
    subst (λ (y : Made). AsMany r.own.memory y.reach.own) (same_Some _ m is) refl

due_many : (h : ℕ) (plan : Plan) (stacks : List Stack) (r : BoardReach) (o : Option ℕ) (m : Made)
    → on_due h plan stacks r o ≡ Some m → AsMany r.own.memory m.reach.own
due_many h plan stacks r None m is = chosen_many h plan stacks r (next_for h r.own) m is
due_many h plan stacks r (Some bank) m is =
    mapped_many r.own.memory (with_effect r) (at_bank bank Drains plan r.own.events r.banks) m is (λ e. refl)

-- a step leaves as many words as there were
pub step_memory : (plan : Plan) (acts : ℕ → List Act) (t : Step) (s : BoardState) (d : Stepped)
    → step plan acts t s ≡ Some d → length d.state.machine.memory ≡ length s.machine.memory
step_memory plan acts (Hart h) s d is =
    let made = hart_made plan acts h s d is in
    ap (λ (e : Stepped). length e.state.machine.memory) made.is
    ∙ due_many h plan s.machine.stacks (board_reach made.stack s) (bank_due h plan s.banks) made.made made.makes
step_memory plan acts (Reporter r) s d is =
    ap (λ (e : Stepped). length e.state.machine.memory) (reporter_made plan acts r s d is).is
