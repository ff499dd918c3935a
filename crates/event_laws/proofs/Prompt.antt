-- What is chosen comes before the next op.
use Rattle.std.proofs.Common.{◌≡◌, ℕ, Bool, true, false, List, Option, Some, None, refl, sym, ap, ◌∙◌, subst}
use Rattle.std.specs.Option.{option_map}
use Rattle.std.proofs.lemmas.Bool.{true≢false}
use Rattle.std.proofs.lemmas.Option.{get_or_from_slice_get}
use Rattle.sse_base.specs.declared.ids.Instance.{Instance}
use Rattle.sse_base.specs.Ids.{id_of}
use Rattle.sse_base.specs.Contexts.{Stack, fresh_stack}
use Rattle.sse_base.specs.Machine.{Reach, reach}
use Rattle.sse_base.specs.Choice.{next_for}
use Rattle.ras_device.specs.declared.act.Act.{Act}
use Rattle.board_plan.specs.declared.notes.Step.{Step}
use Rattle.board_plan.specs.declared.notes.StepNote.{StepNote}
use Rattle.board_plan.specs.declared.notes.StepNote.TheVariants as note
use Rattle.board_plan.specs.declared.plan.Plan.{Plan}
use Rattle.board_plan.specs.Plans.{IsPlan}
use Rattle.board_plan.specs.Run.{ran}
use Rattle.board_plan.specs.State.{BoardState}
use Rattle.board_plan.specs.Step.{Stepped, board_reach}
use Rattle.board_plan.specs.Sound.{EachStepIsPrompt, IsPrompt, is_op}
use Rattle.event_laws.proofs.Outcomes.{StepCases, hart_made, is_drains, is_plain, own_cases}

-- the same of any reach
record IsPromptAt (h : ℕ) (r : Reach) (n : StepNote) : Type 0 where
  delivers : (id : ℕ) → n ≡ note.Deliver id → option_map (λ at. (id_of at).0) (next_for h r) ≡ Some id
  executes : is_op n ≡ true → next_for h r ≡ None

-- ---- Notes of no delivery ----

abbrev is_deliver : StepNote → Bool
is_deliver (note.Deliver id) = true
is_deliver n = false

drains_no : (n : StepNote) → is_drains n ≡ true → is_deliver n ≡ false
drains_no (note.Deliver id) is = absurd (true≢false (sym is))
drains_no n is = refl

drains_no_op : (n : StepNote) → is_drains n ≡ true → is_op n ≡ false
drains_no_op (note.Scan bank rec) is = refl
drains_no_op (note.Claim bank rec) is = refl
drains_no_op (note.Read bank rec register) is = refl
drains_no_op (note.Check bank rec torn) is = refl
drains_no_op (note.Invalidate bank rec cleared) is = refl
drains_no_op n is = absurd (true≢false (sym is))

plain_no : (n : StepNote) → is_plain n ≡ true → is_deliver n ≡ false
plain_no (note.Deliver id) is = absurd (true≢false (sym is))
plain_no n is = refl

-- an op was made where nothing was chosen
op_prompt : (h : ℕ) (r : Reach) (n : StepNote) → next_for h r ≡ None → is_deliver n ≡ false → IsPromptAt h r n
op_prompt h r n none other =
    record {
      delivers = λ id is. absurd (true≢false (sym (ap is_deliver is) ∙ other));
      executes = λ op. none;
    }

cases : (h : ℕ) (plan : Plan) (stacks : List Stack) (r : Reach)
    → StepCases h plan stacks r (λ (q : Reach) (n : StepNote). IsPromptAt h r n)
cases h plan stacks r =
    record {
      drains = λ n is. record {
        delivers = λ id same. absurd (true≢false (sym (ap is_deliver same) ∙ drains_no n is));
        executes = λ op. absurd (true≢false (sym op ∙ drains_no_op n is));
      };
      signals = λ bank level d known. record {
        delivers = λ id same. absurd (true≢false (sym (ap is_deliver same)));
        executes = λ op. absurd (true≢false (sym op));
      };
      delivers = λ at next. record {
        delivers = λ id same.
            ap (option_map (λ (x : Instance). (id_of x).0)) next ∙ ap told same;
        executes = λ op. absurd (true≢false (sym op));
      };
      executes = λ none. record {
        plain = λ n pc memory is. op_prompt h r n none (plain_no n is);
        sets = λ reg value. op_prompt h r _ none refl;
        loads = λ reg word. op_prompt h r _ none refl;
        srets = op_prompt h r _ none refl;
        calls = λ eid fid args. op_prompt h r _ none refl;
      };
    }
  where
    told : StepNote → Option ℕ
    told (note.Deliver id) = Some id
    told n = None

pub prompt_at : (plan : Plan) (acts : ℕ → List Act) (s : BoardState) → EachStepIsPrompt plan acts s
prompt_at plan acts s h d is =
    let made = hart_made plan acts h s d is in
    let own : Reach = (board_reach made.stack s).own in
    let p : IsPromptAt h own made.made.note =
    own_cases (λ (q : Reach) (n : StepNote). IsPromptAt h own n) h plan s.machine.stacks
    (board_reach made.stack s) made.made (cases h plan s.machine.stacks own) made.makes in
    let stack : made.stack ≡ (reach h s.machine).stack =
    sym (get_or_from_slice_get s.machine.stacks h made.stack (fresh_stack 0) made.there) in
    let same : own ≡ reach h s.machine = ap (λ (x : Stack). (board_reach x s).own) stack in
    subst (λ (e : Stepped). IsPrompt h s.machine e.note) (sym made.is)
    (record {
      delivers = λ id told. ap (λ (r : Reach). option_map (λ (at : Instance). (id_of at).0) (next_for h r)) (sym same)
          ∙ p.delivers id told;
      executes = λ op. ap (next_for h) (sym same) ∙ p.executes op;
    })

pub each_step_is_prompt : (plan : Plan) (acts : ℕ → List Act) (tries : List Step) → IsPlan plan
    → EachStepIsPrompt plan acts (ran plan acts tries).state
each_step_is_prompt plan acts tries p = prompt_at plan acts (ran plan acts tries).state
