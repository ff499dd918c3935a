-- Each note of a step, and so each note of a run, has a text.
use Rattle.std.proofs.Common.{◌≡◌, ◌≢◌, ◌⊎◌, ℕ, zero, suc, ◌+◌, ◌-◌, ◌%◌, ◌^◌, ◌≤◌, ◌==◌, ◌&&◌, ◌||◌, not, nat_le, nat_lt, Bool, true, false, cond, List, [], ◌∷◌, ◌++◌, map, length, drop, take, replicate, get_or, slice_get, Option, Some, None, Result, Ok, Err, refl, inl, inr, sym, ap, ◌∙◌, subst, arith}
use Rattle.std.specs.List.{list_all}
use Rattle.std.specs.Option.{option_map}
use Rattle.std.specs.Prelude.{unwrap_or}
use Rattle.std.proofs.lemmas.Bool.Decides.{nat_tests}
use Rattle.std.proofs.lemmas.List.{length-take}
use Rattle.std.proofs.lemmas.Option.{none-some, same_Some}
use Rattle.sse_base.specs.declared.attributes.RangeFault.TheVariants.{Zero, Reserved}
use Rattle.sse_base.specs.declared.codes.SbiCode.{SbiCode}
use Rattle.sse_base.specs.declared.codes.SbiCode.TheVariants.{Success, NotSupported, InvalidAddress}
use Rattle.sse_base.specs.declared.ids.Instance.{Instance}
use Rattle.sse_base.specs.declared.functions.Function.{Function}
use Rattle.sse_base.specs.declared.functions.Function.TheVariants as functions
use Rattle.sse_base.specs.Calls.{Answer, call, check_write, extension, find_instance, find_range, found, function, in_memory, known, no_words, refuse, write_attrs, write_checked, write_range}
use Rattle.sse_base.specs.Choice.{next_for}
use Rattle.sse_base.specs.Codes.{is_success}
use Rattle.sse_base.specs.Contexts.{Stack, has_frame, with_pc}
use Rattle.sse_base.specs.Events.{Events}
use Rattle.sse_base.specs.Functions.{function_of}
use Rattle.sse_base.specs.Machine.{Reach}
use Rattle.sse_base.specs.Words.{are_words, load, store, word_index, words_at}
use Rattle.reri_fields.specs.declared.drain.Phase.{Phase}
use Rattle.reri_fields.specs.declared.drain.Phase.TheVariants.{Scan, Claim, Address, Info, Supplement, Time, Check, Invalidate, Signal}
use Rattle.reri_fields.specs.Records.{Error, Origin}
use Rattle.reri_fields.specs.Banks.{least_signalled}
use Rattle.reri_fields.specs.Drain.{BankPlan, BankState, BankStep, BankTry, Draining, bank_step, checked, checked_if, claimed_at, drained_by, due_drain, phase_step, scanned}
use Rattle.reri_fields.specs.Drain.BankTry.{Reports, Drains, Acknowledges}
use Rattle.ras_device.specs.declared.act.Act.{Act}
use Rattle.ras_device.specs.declared.act.Act.TheVariants as act
use Rattle.board_plan.specs.declared.notes.Step.{Step}
use Rattle.board_plan.specs.declared.notes.Step.TheVariants.{Hart, Reporter}
use Rattle.board_plan.specs.declared.notes.StepNote.{StepNote}
use Rattle.board_plan.specs.declared.notes.StepNote.TheVariants as note
use Rattle.board_plan.specs.declared.ops.Op.{Op}
use Rattle.board_plan.specs.declared.ops.Op.TheVariants as ops
use Rattle.board_plan.specs.declared.plan.BankDecl.{BankDecl}
use Rattle.board_plan.specs.declared.plan.Plan.{Plan}
use Rattle.board_plan.specs.Notes.{has_text, is_accepted_write, told_count}
use Rattle.board_plan.specs.Ops.{done, is_user, jumped, loaded, needs_supervisor, on_stack, op_at, past, register, risen, stored}
use Rattle.board_plan.specs.State.{BoardState, ReporterState, bank_plan, budget_of, counts_of, start_state}
use Rattle.board_plan.specs.Run.{Noted, notes, noted, state_after, ran}
use Rattle.board_plan.specs.Step.{BoardReach, Effect, Made, Stepped, after_hart, after_reporter, allowed, apply, at_bank, bank_due, bank_effect, bank_note, board_reach, drain_note, hart_step, next_act, on_act, on_chosen, on_due, own_step, quietly, reporter_step, step, step_of, tried_at, unplugged, wants, with_effect}

-- ---- The words of a call ----

-- all words but so many are zeros
abbrev AreZeros : ℕ → List ℕ → Type 0
AreZeros k words = list_all (λ word. word == 0) (drop k words) ≡ true

zeros : (k n : ℕ) → AreZeros k (replicate n 0)
zeros zero zero = refl
zeros zero (suc n) = zeros zero n
zeros (suc k) zero = refl
zeros (suc k) (suc n) = zeros k n

behind : (k : ℕ) (ws : List ℕ) (n : ℕ) → length ws ≤ k → AreZeros k (ws ++ replicate n 0)
behind k [] n h = zeros k n
behind zero (w ∷ ws) n h = absurd (omega (arith, h))
behind (suc k) (w ∷ ws) n h = behind k ws n (omega (arith, h))

short-take : (k : ℕ) (ws : List ℕ) → length (take k ws) ≤ k
short-take k ws = omega (arith, length-take k ws)

-- an answer has no words, or it accepts a write and has no more than so many
abbrev Tells : ℕ → Answer → Type 0
Tells count a =
    (a.written ≡ no_words) ⊎ ((is_success a.code ≡ true) × (nat_le count 10 ≡ true) × AreZeros count a.written)

write-tells : (base count lo hi : ℕ) (at : Instance) (r : Reach) → Tells count (write_attrs base count lo hi at r)
write-tells base count lo hi at r = ranged (count == 0) (nat_lt 10 (base + count)) refl
  where
    checked : (code : SbiCode) → nat_le count 10 ≡ true
        → Tells count (write_checked code base (words_at r.memory lo count) at r)
    checked Success few =
        let words = words_at r.memory lo count in
        inr (refl, few, behind count words (10 - length words) (short-take count (drop (word_index lo) r.memory)))
    checked code few = inl refl

    there : (b : Bool) → nat_le count 10 ≡ true
        → Tells count (found (cond b (Err InvalidAddress) (Ok (record { base = base; count = count }))) r
        (write_range lo at r))
    there true few = inl refl
    there false few =
        checked (check_write base (words_at r.memory lo count) at (has_frame at r.stack.frames) r.events) few

    ranged : (b c : Bool) → nat_lt 10 (base + count) ≡ c
        → Tells count (found (in_memory lo hi (cond b (Err Zero) (cond c (Err Reserved)
        (Ok (record { base = base; count = count }))))) r (write_range lo at r))
    ranged true c e = inl refl
    ranged false true e = inl refl
    ranged false false e = there (not (hi == 0) || not (are_words lo count)) (grind (arith, nat_tests))

quiet-found : {A : Type 0} → (o : Result A SbiCode) (r : Reach) (f : A → Answer)
    → ((x : A) → (f x).written ≡ no_words) → (found o r f).written ≡ no_words
quiet-found (Err code) r f quiet = refl
quiet-found (Ok x) r f quiet = quiet x

write-told : (o : Result Instance SbiCode) (base count lo hi : ℕ) (r : Reach)
    → Tells count (found o r (λ at. write_attrs base count lo hi at r))
write-told (Err code) base count lo hi r = inl refl
write-told (Ok at) base count lo hi r = write-tells base count lo hi at r

-- no function but one gives words
quiet-function : (h : ℕ) (f : Function) (args : List ℕ) (stacks : List Stack) (r : Reach) → f ≢ functions.WriteAttrs
    → (function h f args stacks r).written ≡ no_words
quiet-function h functions.ReadAttrs args stacks r other =
    quiet-found (find_instance (get_or args 0 0) h r.events) r _
    (λ at. quiet-found (find_range (get_or args 1 0) (get_or args 2 0) (get_or args 3 0) (get_or args 4 0)) r _
    (λ range. refl))
quiet-function h functions.WriteAttrs args stacks r other = absurd (other refl)
quiet-function h functions.Register args stacks r other =
    quiet-found (find_instance (get_or args 0 0) h r.events) r _ (λ at. refl)
quiet-function h functions.Unregister args stacks r other =
    quiet-found (find_instance (get_or args 0 0) h r.events) r _ (λ at. refl)
quiet-function h functions.Enable args stacks r other =
    quiet-found (find_instance (get_or args 0 0) h r.events) r _ (λ at. refl)
quiet-function h functions.Disable args stacks r other =
    quiet-found (find_instance (get_or args 0 0) h r.events) r _ (λ at. refl)
quiet-function h functions.Complete args stacks r other = refl
quiet-function h functions.Inject args stacks r other =
    quiet-found (find_instance (get_or args 0 0) h r.events) r _ (λ at. refl)
quiet-function h functions.HartUnmask args stacks r other = refl
quiet-function h functions.HartMask args stacks r other = refl

quiet-zeros : (k : ℕ) (a : Answer) → a.written ≡ no_words → AreZeros k a.written
quiet-zeros k a quiet = ap (λ (ws : List ℕ). list_all (λ word. word == 0) (drop k ws)) quiet ∙ zeros k 10

-- a call's words behind those that its text tells
call-zeros : (h eid fid : ℕ) (args : List ℕ) (stacks : List Stack) (r : Reach)
    → let a = call h eid fid args stacks r in AreZeros (told_count eid fid args a.code) a.written
call-zeros h eid fid args stacks r = extended (eid == extension) refl
  where
    told : (a : Answer) → (eid == extension) ≡ true → (fid == 1) ≡ true → Tells (get_or args 2 0) a
        → AreZeros (told_count eid fid args a.code) a.written
    told a e f (inl quiet) = quiet-zeros (told_count eid fid args a.code) a quiet
    told a e f (inr t) =
        let accepted : is_accepted_write eid fid args a.code ≡ true =
        ap (λ b. b && (fid == 1) && is_success a.code && nat_le (get_or args 2 0) 10) e
        ∙ ap (λ b. b && is_success a.code && nat_le (get_or args 2 0) 10) f
        ∙ ap (λ b. b && nat_le (get_or args 2 0) 10) t.0 ∙ t.1 in
        subst (λ b. AreZeros (cond b (get_or args 2 0) 0) a.written) (sym accepted) t.2

    quiet : (f : Function) → f ≢ functions.WriteAttrs → (eid == extension) ≡ true
        → AreZeros (told_count eid fid args (function h f args stacks r).code) (function h f args stacks r).written
    quiet f other e =
        let a = function h f args stacks r in
        quiet-zeros (told_count eid fid args a.code) a (quiet-function h f args stacks r other)

    rest : (b c d e f g i j : Bool) → (eid == extension) ≡ true
        → let a = known h (cond b (Some functions.Register) (cond c (Some functions.Unregister)
        (cond d (Some functions.Enable) (cond e (Some functions.Disable) (cond f (Some functions.Complete)
        (cond g (Some functions.Inject) (cond i (Some functions.HartUnmask) (cond j (Some functions.HartMask)
        None)))))))) args stacks r in
        AreZeros (told_count eid fid args a.code) a.written
    rest true c d e f g i j x = quiet functions.Register (λ y. cc) x
    rest false true d e f g i j x = quiet functions.Unregister (λ y. cc) x
    rest false false true e f g i j x = quiet functions.Enable (λ y. cc) x
    rest false false false true f g i j x = quiet functions.Disable (λ y. cc) x
    rest false false false false true g i j x = quiet functions.Complete (λ y. cc) x
    rest false false false false false true i j x = quiet functions.Inject (λ y. cc) x
    rest false false false false false false true j x = quiet functions.HartUnmask (λ y. cc) x
    rest false false false false false false false true x = quiet functions.HartMask (λ y. cc) x
    rest false false false false false false false false x = zeros (told_count eid fid args NotSupported) 10

    further : (b c : Bool) → (eid == extension) ≡ true → (fid == 1) ≡ c
        → let a = known h (cond b (Some functions.ReadAttrs) (cond c (Some functions.WriteAttrs)
        (cond (fid == 2) (Some functions.Register) (cond (fid == 3) (Some functions.Unregister)
        (cond (fid == 4) (Some functions.Enable) (cond (fid == 5) (Some functions.Disable)
        (cond (fid == 6) (Some functions.Complete) (cond (fid == 7) (Some functions.Inject)
        (cond (fid == 8) (Some functions.HartUnmask) (cond (fid == 9) (Some functions.HartMask)
        None)))))))))) args stacks r in
        AreZeros (told_count eid fid args a.code) a.written
    further true c x y = quiet functions.ReadAttrs (λ z. cc) x
    further false true x y =
        told (function h functions.WriteAttrs args stacks r) x y
        (write-told (find_instance (get_or args 0 0) h r.events) (get_or args 1 0) (get_or args 2 0) (get_or args 3 0)
        (get_or args 4 0) r)
    further false false x y =
        rest (fid == 2) (fid == 3) (fid == 4) (fid == 5) (fid == 6) (fid == 7) (fid == 8) (fid == 9) x

    extended : (b : Bool) → (eid == extension) ≡ b
        → let a = cond (not b) (refuse NotSupported r) (known h (function_of fid) args stacks r) in
        AreZeros (told_count eid fid args a.code) a.written
    extended false x = zeros (told_count eid fid args NotSupported) 10
    extended true x = further (fid == 0) (fid == 1) x refl

-- ---- Notes of a bank ----

abbrev HasBankText : ℕ → BankDecl → Events → Option BankStep → Type 0
HasBankText bank d t None = Unit {0}
HasBankText bank d t (Some b) = has_text (bank_note bank d t b.note) ≡ true

drain-text : (bank : ℕ) (d : BankDecl) (t : Events) (plan : BankPlan) (s : BankState) (e : Draining) (p : Phase)
    → has_text (drain_note bank d t e.rec (phase_step plan s e p).note) ≡ true
drain-text bank d t plan s e Scan = go (least_signalled plan.origins s.history)
  where
    go : (o : Option ℕ) → has_text (drain_note bank d t e.rec (scanned s e o).note) ≡ true
    go None = refl
    go (Some rec) = refl
drain-text bank d t plan s e Claim = refl
drain-text bank d t plan s e Address = refl
drain-text bank d t plan s e Info = refl
drain-text bank d t plan s e Supplement = refl
drain-text bank d t plan s e Time = refl
drain-text bank d t plan s e Check = go (slice_get plan.origins e.rec)
  where
    if_claimed : (origin : Origin) (b : Bool)
        → has_text (drain_note bank d t e.rec (checked_if s e origin b).note) ≡ true
    if_claimed origin true = refl
    if_claimed origin false = refl

    go : (o : Option Origin) → has_text (drain_note bank d t e.rec (checked s e o).note) ≡ true
    go None = refl
    go (Some origin) = if_claimed origin (claimed_at origin e.rec s.history)
drain-text bank d t plan s e Invalidate = refl
drain-text bank d t plan s e Signal = refl

bank-text : (bank : ℕ) (d : BankDecl) (t : Events) (plan : BankPlan) (s : BankState) (tr : BankTry)
    → HasBankText bank d t (bank_step plan s tr)
unfolding bank_step
bank-text bank d t plan s (Reports error) = refl
bank-text bank d t plan s Drains = go (due_drain plan s s.drain)
  where
    go : (o : Option Draining) → HasBankText bank d t (drained_by plan s o)
    go None = tt
    go (Some e) = drain-text bank d t plan s e e.phase
bank-text bank d t plan s Acknowledges = refl

-- ---- Notes of effects, of harts and of reporters ----

abbrev HasEffectText : Option Effect → Type 0
HasEffectText None = Unit {0}
HasEffectText (Some e) = has_text e.note ≡ true

effect-text : (bank : ℕ) (d : BankDecl) (t : Events) (banks : List BankState) (o : Option BankStep)
    → HasBankText bank d t o → HasEffectText (option_map (bank_effect bank d t banks) o)
effect-text bank d t banks None h = tt
effect-text bank d t banks (Some b) h = h

at-text : (bank : ℕ) (tr : BankTry) (plan : Plan) (t : Events) (banks : List BankState)
    → HasEffectText (at_bank bank tr plan t banks)
unfolding at_bank
at-text bank tr plan t banks = go (slice_get plan.banks bank) (slice_get banks bank)
  where
    go : (d : Option BankDecl) (s : Option BankState) → HasEffectText (tried_at bank tr plan t banks d s)
    go None s = tt
    go (Some d) None = tt
    go (Some d) (Some s) =
        effect-text bank d t banks (bank_step (bank_plan bank d plan.recs) s tr)
        (bank-text bank d t (bank_plan bank d plan.recs) s tr)

stored-text : (r : Reach) (n : StepNote) (o : Option (List ℕ)) → has_text n ≡ true → has_text (stored r n o).note ≡ true
stored-text r n None h = refl
stored-text r n (Some memory) h = h

-- an op that is applied
apply-text : (h : ℕ) (plan : Plan) (stacks : List Stack) (r : BoardReach) (op : Op)
    → has_text (apply h plan stacks r op).note ≡ true
apply-text h plan stacks r ops.Nop = refl
apply-text h plan stacks r (ops.Sbi eid fid args) = call-zeros h eid fid args stacks r.own
apply-text h plan stacks r (ops.Set reg value) = refl
apply-text h plan stacks r (ops.Load reg addr) = go (load r.own.memory addr)
  where
    go : (o : Option ℕ) → has_text (loaded reg r.own o).note ≡ true
    go None = refl
    go (Some word) = refl
apply-text h plan stacks r (ops.Save reg addr) =
    let value = register reg r.own.stack in
    stored-text r.own (note.Save addr value) (store r.own.memory addr value) refl
apply-text h plan stacks r (ops.Store addr value) =
    stored-text r.own (note.Store addr value) (store r.own.memory addr value) refl
apply-text h plan stacks r (ops.Inc addr) = go (load r.own.memory addr)
  where
    go : (o : Option ℕ) → has_text (risen addr r.own o).note ≡ true
    go None = refl
    go (Some word) =
        let value = (word + 1) % 2 ^ 64 in
        stored-text r.own (note.Inc addr value) (store r.own.memory addr value) refl
apply-text h plan stacks r (ops.Jump pc) = refl
apply-text h plan stacks r (ops.Jlt addr value pc) = go (load r.own.memory addr)
  where
    by_test : (b : Bool)
        → has_text (cond b (done (on_stack (with_pc pc) r.own) (note.Jlt true)) (done r.own (note.Jlt false))).note
        ≡ true
    by_test true = refl
    by_test false = refl

    go : (o : Option ℕ) → has_text (jumped value pc r.own o).note ≡ true
    go None = refl
    go (Some word) = by_test (nat_lt word value)
apply-text h plan stacks r ops.Sret = refl
apply-text h plan stacks r (ops.Ack bank) =
    go (at_bank bank Acknowledges plan r.own.events r.banks) (at-text bank Acknowledges plan r.own.events r.banks)
  where
    go : (o : Option Effect) → HasEffectText o
        → has_text (unwrap_or (option_map (with_effect r) o) (quietly r (note.Ack bank None))).note ≡ true
    go None t = refl
    go (Some e) t = t
apply-text h plan stacks r (ops.Unplug reporter) = go (slice_get r.reporters reporter)
  where
    go : (o : Option ReporterState) → has_text (unplugged reporter r o).note ≡ true
    go None = refl
    go (Some x) = refl

abbrev HasMadeText : Option Made → Type 0
HasMadeText None = Unit {0}
HasMadeText (Some m) = has_text m.note ≡ true

allowed-text : (h : ℕ) (plan : Plan) (stacks : List Stack) (r : BoardReach) (op : Op)
    → has_text (allowed h plan stacks r op).note ≡ true
allowed-text h plan stacks r op =
    go (is_user r.own.stack.live.privilege && needs_supervisor op) (record r { own = past r.own })
  where
    go : (b : Bool) (next : BoardReach)
        → has_text (cond b (quietly next note.Illegal) (apply h plan stacks next op)).note ≡ true
    go true next = refl
    go false next = apply-text h plan stacks next op

own-text : (h : ℕ) (plan : Plan) (stacks : List Stack) (r : BoardReach) → HasMadeText (own_step h plan stacks r)
own-text h plan stacks r = due (bank_due h plan r.banks)
  where
    by_op : (o : Option Op) → HasMadeText (option_map (allowed h plan stacks r) o)
    by_op None = tt
    by_op (Some op) = allowed-text h plan stacks r op

    chosen : (o : Option Instance) → HasMadeText (on_chosen h plan stacks r o)
    chosen None = by_op (op_at r.own.stack.live.pc plan.ops)
    chosen (Some at) = refl

    of_bank : (o : Option Effect) → HasEffectText o → HasMadeText (option_map (with_effect r) o)
    of_bank None t = tt
    of_bank (Some e) t = t

    due : (o : Option ℕ) → HasMadeText (on_due h plan stacks r o)
    due None = chosen (next_for h r.own)
    due (Some bank) =
        of_bank (at_bank bank Drains plan r.own.events r.banks) (at-text bank Drains plan r.own.events r.banks)

abbrev HasStepText : Option Stepped → Type 0
HasStepText None = Unit {0}
HasStepText (Some d) = has_text d.note ≡ true

hart-text : (h : ℕ) (plan : Plan) (s : BoardState) → HasStepText (hart_step h plan s)
unfolding hart_step
hart-text h plan s = go (slice_get s.machine.stacks h)
  where
    made : (o : Option Made) → HasMadeText o → HasStepText (option_map (after_hart h s) o)
    made None t = tt
    made (Some m) t = t

    within : (stack : Stack) (b : Bool)
        → HasStepText (cond b (option_map (after_hart h s) (own_step h plan s.machine.stacks (board_reach stack s)))
        None)
    within stack true =
        made (own_step h plan s.machine.stacks (board_reach stack s))
        (own-text h plan s.machine.stacks (board_reach stack s))
    within stack false = tt

    go : (o : Option Stack) → HasStepText (step_of h plan s o)
    go None = tt
    go (Some stack) = within stack (nat_lt (counts_of h s).steps (budget_of h plan.starts))

act-text : (plan : Plan) (s : BoardState) (a : Act) → has_text (on_act plan s a).note ≡ true
act-text plan s (act.Error report) =
    let error : Error = record { step = suc s.steps; report = report } in
    go (at_bank report.bank (Reports error) plan s.machine.events s.banks)
    (at-text report.bank (Reports error) plan s.machine.events s.banks)
  where
    go : (o : Option Effect) → HasEffectText o
        → has_text (unwrap_or o (record {
          events = s.machine.events;
          banks = s.banks;
          note = note.Error report None;
          published = None;
        })).note ≡ true
    go None t = refl
    go (Some e) t = t
act-text plan s (act.Raise id hart) = refl

reporter-text : (r : ℕ) (plan : Plan) (o : Option Act) (s : BoardState) → HasStepText (reporter_step r plan o s)
unfolding reporter_step
reporter-text r plan None s = tt
reporter-text r plan (Some a) s = go (wants plan r s)
  where
    go : (b : Bool) → HasStepText (cond b (Some (after_reporter r s (on_act plan s a))) None)
    go true = act-text plan s a
    go false = tt

step-text : (plan : Plan) (acts : ℕ → List Act) (t : Step) (s : BoardState) → HasStepText (step plan acts t s)
unfolding step
step-text plan acts (Hart h) s = hart-text h plan s
step-text plan acts (Reporter r) s = reporter-text r plan (next_act acts r s) s

-- the note of a step that was made
pub hart_has_text : (h : ℕ) (plan : Plan) (s : BoardState) (d : Stepped) → hart_step h plan s ≡ Some d
    → has_text d.note ≡ true
hart_has_text h plan s d is = subst HasStepText is (hart-text h plan s)

pub reporter_has_text : (r : ℕ) (plan : Plan) (o : Option Act) (s : BoardState) (d : Stepped)
    → reporter_step r plan o s ≡ Some d → has_text d.note ≡ true
reporter_has_text r plan o s d is = subst HasStepText is (reporter-text r plan o s)

-- ---- Notes of a run ----

-- each note has a text
abbrev pub HaveTexts : List StepNote → Type 0
HaveTexts notes = (i : ℕ) (n : StepNote) → slice_get notes i ≡ Some n → has_text n ≡ true

noted-texts : (t : Step) (o : Option Stepped) (ns : List Noted) → HasStepText o → HaveTexts (map (λ n. n.note) ns)
    → HaveTexts (map (λ n. n.note) (noted t o ns))
noted-texts t None ns h have = have
noted-texts t (Some d) ns h have = go
  where
    go : (i : ℕ) (n : StepNote) → slice_get (d.note ∷ map (λ n. n.note) ns) i ≡ Some n → has_text n ≡ true
    go zero n is = subst (λ (x : StepNote). has_text x ≡ true) (same_Some d.note n is) h
    go (suc i) n is = have i n is

run-texts : (plan : Plan) (acts : ℕ → List Act) (s : BoardState) (ts : List Step)
    → HaveTexts (map (λ n. n.note) (notes plan acts s ts))
run-texts plan acts s [] = λ i n is. absurd (none-some n is)
run-texts plan acts s (t ∷ ts) =
    let o = step plan acts t s in
    noted-texts t o (notes plan acts (state_after s o) ts) (step-text plan acts t s)
    (run-texts plan acts (state_after s o) ts)

-- each note of a plan's run has a text
pub run_has_texts : (plan : Plan) (acts : ℕ → List Act) (tries : List Step)
    → HaveTexts (map (λ n. n.note) (ran plan acts tries).notes)
unfolding ran
run_has_texts plan acts tries = run-texts plan acts (start_state plan) tries
