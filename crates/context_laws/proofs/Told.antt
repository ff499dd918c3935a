-- What a run makes of a hart's handlers, as the hart's own notes tell it.
use Rattle.std.proofs.Common.{◌≡◌, ◌≢◌, ℕ, ◌==◌, true, false, List, [], ◌∷◌, length, slice_get, Option, Some, None, refl, inl, inr, sym, ap, ◌∙◌, subst}
use Rattle.std.proofs.lemmas.Bool.{both_ways, cases_Bool, eqb-true, true≢false}
use Rattle.std.proofs.lemmas.Bool.Decides.{eqb_tells}
use Rattle.std.proofs.lemmas.Option.{same_Some, slice_get_within}
use Rattle.sse_base.specs.Contexts.{Stack}
use Rattle.sse_base.specs.Choice.{top_urgency}
use Rattle.sse_base.specs.Machine.{Reach}
use Rattle.ras_device.specs.declared.act.Act.{Act}
use Rattle.board_plan.specs.declared.notes.Step.{Step}
use Rattle.board_plan.specs.declared.notes.Step.TheVariants.{Hart, Reporter}
use Rattle.board_plan.specs.declared.notes.StepNote.{StepNote}
use Rattle.board_plan.specs.declared.plan.Plan.{Plan}
use Rattle.board_plan.specs.State.{BoardState}
use Rattle.board_plan.specs.Step.{Stepped, board_reach, step}
use Rattle.board_plan.specs.Run.{Noted, state_after, noted, run, notes}
use Rattle.board_plan.specs.Amend.{is_by, own_notes}
use Rattle.sbi_sse.proofs.Chosen.{chosen_begins}
use Rattle.event_laws.proofs.Outcomes.{own_cases, hart_made, reporter_made}
use Rattle.event_laws.proofs.Standing.{Keeps, set_same, set_other, step_keeps}
use Rattle.context_laws.proofs.Amending.{AmendsAll, amends_none, amends_more}
use Rattle.context_laws.proofs.Memory.{step_memory}
use Rattle.context_laws.proofs.Turns.{Tells, frames_tidy, hart_tells}

-- what the laws need of a state, and each step keeps
pub record IsFine (s : BoardState) : Type 0 where
  pub keeps : Keeps s.machine
  pub size : length s.machine.memory ≡ 512

pub fine_after : (plan : Plan) (acts : ℕ → List Act) (t : Step) (s : BoardState) (d : Stepped)
    → step plan acts t s ≡ Some d → IsFine s → IsFine d.state
fine_after plan acts t s d is fine =
    record {
      keeps = step_keeps plan acts t s d is fine.keeps;
      size = step_memory plan acts t s d is ∙ fine.size;
    }

-- ---- A step of the hart itself ----

-- the hart's stack after its own step
pub record OwnTurn (h : ℕ) (x : Stack) (d : Stepped) : Type 0 where
  pub stack : Stack
  pub there : slice_get d.state.machine.stacks h ≡ Some stack
  pub tells : Tells h d.note x stack

pub own_turn : (plan : Plan) (acts : ℕ → List Act) (h : ℕ) (s : BoardState) (d : Stepped) (x : Stack) → IsFine s
    → slice_get s.machine.stacks h ≡ Some x → step plan acts (Hart h) s ≡ Some d → OwnTurn h x d
own_turn plan acts h s d x fine there is =
    let made = hart_made plan acts h s d is in
    let m = s.machine in
    let r = board_reach made.stack s in
    let tells = own_cases (λ (q : Reach) (n : StepNote). Tells h n made.stack q.stack) h plan m.stacks r made.made
    (hart_tells h r.own (frames_tidy m h made.stack fine.keeps made.there) fine.size plan m.stacks
    (λ at chosen.
    let b = chosen_begins h m.events m.masks m.stacks m.masks (top_urgency made.stack.frames m.events) at
    fine.keeps.kept chosen in
    fine.keeps.proper.meant h at b.on_board b.may_run)) made.makes in
    let new = made.made.reach.own.stack in
    subst (OwnTurn h x) (sym made.is)
    (record {
      stack = new;
      there = set_same m.stacks h new (slice_get_within m.stacks h x there);
      tells = subst (λ (z : Stack). Tells h made.made.note z new)
          (same_Some made.stack x (sym made.there ∙ there)) tells;
    })

-- ---- Any step ----

-- another's step leaves the hart's stack
other_turn : (plan : Plan) (acts : ℕ → List Act) (h : ℕ) (t : Step) (s : BoardState) (d : Stepped)
    → step plan acts t s ≡ Some d → is_by h t ≡ false
    → slice_get d.state.machine.stacks h ≡ slice_get s.machine.stacks h
other_turn plan acts h (Hart k) s d is other =
    let made = hart_made plan acts k s d is in
    let apart : h ≢ k =
    elim (eqb_tells k h) [ inl e ↦ λ same. both_ways (k == h) other e.0 | inr n ↦ λ same. n.1 (sym same) ] in
    ap (λ (e : Stepped). slice_get e.state.machine.stacks h) made.is
    ∙ set_other s.machine.stacks k h made.made.reach.own.stack apart
other_turn plan acts h (Reporter r) s d is other =
    ap (λ (e : Stepped). slice_get e.state.machine.stacks h) (reporter_made plan acts r s d is).is

-- the stack of a hart that has one, and what its notes made of it
pub record Told (h : ℕ) (stacks : List Stack) (ns : List StepNote) (x : Stack) : Type 0 where
  pub stack : Stack
  pub there : slice_get stacks h ≡ Some stack
  pub amends : AmendsAll ns x stack

abbrev pub TellsRun : Plan → (ℕ → List Act) → ℕ → BoardState → List Step → Stack → Type 0
TellsRun plan acts h s ts x = Told h (run plan acts s ts).machine.stacks (own_notes h (notes plan acts s ts)) x

own_more : (h : ℕ) (t : Step) (d : Stepped) (ns : List Noted) → is_by h t ≡ true
    → own_notes h (noted t (Some d) ns) ≡ d.note ∷ own_notes h ns
own_more h t d ns own = rw own refl

other_more : (h : ℕ) (t : Step) (d : Stepped) (ns : List Noted) → is_by h t ≡ false
    → own_notes h (noted t (Some d) ns) ≡ own_notes h ns
other_more h t d ns other = rw other refl

-- a try, and what comes after it
after_try : (plan : Plan) (acts : ℕ → List Act) (h : ℕ) (t : Step) (ts : List Step) (s : BoardState) (x : Stack)
    → IsFine s → slice_get s.machine.stacks h ≡ Some x
    → ((s : BoardState) (x : Stack) → IsFine s → slice_get s.machine.stacks h ≡ Some x → TellsRun plan acts h s ts x)
    → (o : Option Stepped) → step plan acts t s ≡ o
    → Told h (run plan acts (state_after s o) ts).machine.stacks
    (own_notes h (noted t o (notes plan acts (state_after s o) ts))) x
after_try plan acts h t ts s x fine there further None is = further s x fine there
after_try plan acts h t ts s x fine there further (Some d) is =
    let ns = notes plan acts d.state ts in
    let stacks = (run plan acts d.state ts).machine.stacks in
    elim (cases_Bool (is_by h t)) [
      | inl own ↦
          let turn = own_turn_at t own is in
          let told = further d.state turn.stack (fine_after plan acts t s d is fine) turn.there in
          subst (λ ms. Told h stacks ms x) (sym (own_more h t d ns own))
          (record {
            stack = told.stack;
            there = told.there;
            amends = amends_more d.note (own_notes h ns) x turn.stack told.stack turn.tells.amends told.amends;
          })
      | inr other ↦
          subst (λ ms. Told h stacks ms x) (sym (other_more h t d ns other))
          (further d.state x (fine_after plan acts t s d is fine)
          (other_turn plan acts h t s d is other ∙ there))
    ]
  where
    own_turn_at : (t : Step) → is_by h t ≡ true → step plan acts t s ≡ Some d → OwnTurn h x d
    own_turn_at (Hart k) own is =
        own_turn plan acts h s d x fine there
        (ap (λ j. step plan acts (Hart j) s) (sym (eqb-true k h own)) ∙ is)
    own_turn_at (Reporter r) own is = absurd (true≢false (sym own))

-- a run, from any state that keeps what is to be kept
pub run_tells : (plan : Plan) (acts : ℕ → List Act) (h : ℕ) (ts : List Step) (s : BoardState) (x : Stack) → IsFine s
    → slice_get s.machine.stacks h ≡ Some x → TellsRun plan acts h s ts x
run_tells plan acts h [] s x fine there = record { stack = x; there = there; amends = amends_none x }
run_tells plan acts h (t ∷ ts) s x fine there =
    after_try plan acts h t ts s x fine there (λ s x fine there. run_tells plan acts h ts s x fine there)
    (step plan acts t s) refl
