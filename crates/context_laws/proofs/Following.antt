-- The laws of interrupted contexts, for every plan that a board can be made of.
use Rattle.std.proofs.Common.{◌≡◌, ℕ, zero, suc, ◌<◌, ◌==◌, false, List, [], ◌∷◌, map, length, slice_get, get_or, Some, refl, sym, ap, ◌∙◌, subst}
use Rattle.std.proofs.lemmas.Bool.{and_parts, eqb-true}
use Rattle.std.proofs.lemmas.List.{length-map, length-set}
use Rattle.std.proofs.lemmas.Option.{none-some, same_Some, slice_get_within, slice_get-get_or}
use Rattle.sse_base.specs.declared.contexts.Privilege.TheVariants.{User}
use Rattle.sse_base.specs.Ids.{id_of, instance_of}
use Rattle.sse_base.specs.Contexts.{Frame, Stack, triple_of, fresh_stack}
use Rattle.ras_device.specs.declared.act.Act.{Act}
use Rattle.board_plan.specs.declared.notes.Step.{Step}
use Rattle.board_plan.specs.declared.notes.Step.TheVariants.{Hart, Reporter}
use Rattle.board_plan.specs.declared.notes.StepNote.{StepNote}
use Rattle.board_plan.specs.declared.plan.Plan.{Plan}
use Rattle.board_plan.specs.Plans.{IsPlan}
use Rattle.board_plan.specs.State.{BoardState, start_places, start_state}
use Rattle.board_plan.specs.Step.{Stepped, step}
use Rattle.board_plan.specs.Run.{run, notes, ran}
use Rattle.board_plan.specs.Amend.{own_notes, is_complete, ids_of, ids_with, ids_after, at_depth, amend, is_open, Delivery, depth, ids, notes_since, state_since, StillRuns, amended, EachFrameIsAmended, EachCompletionRestores, EachBaseIsAmended, EachStackIsTold, IsAmended}
use Rattle.event_laws.proofs.Beginning.{start_keeps}
use Rattle.event_laws.proofs.Outcomes.{hart_made, reporter_made}
use Rattle.event_laws.proofs.Runs.{each_state, run_keeps}
use Rattle.context_laws.proofs.Depths.{here}
use Rattle.context_laws.proofs.Amending.{AmendsAll}
use Rattle.context_laws.proofs.Told.{IsFine, fine_after, own_turn, run_tells}

-- ---- The start ----

start_fine : (plan : Plan) → IsPlan plan → IsFine (start_state plan)
start_fine plan p = record { keeps = start_keeps plan p; size = refl }

ran_fine : (plan : Plan) (acts : ℕ → List Act) (tries : List Step) → IsPlan plan → IsFine (ran plan acts tries).state
ran_fine plan acts tries p =
    each_state plan acts IsFine (start_fine plan p)
    (record { keeps = λ t s d is fine. fine_after plan acts t s d is fine }) tries

-- a hart at the start runs no handler
record IsFresh (x : Stack) : Type 0 where
  frames : x.frames ≡ []
  base : x.base ≡ record { sepc = 0; spp = User; spie = false }

starts_fresh : (places : List ℕ) (h : ℕ) (x : Stack) → slice_get (map fresh_stack places) h ≡ Some x → IsFresh x
starts_fresh [] h x there = absurd (none-some x there)
starts_fresh (pc ∷ places) zero x there =
    subst IsFresh (same_Some (fresh_stack pc) x there) (record { frames = refl; base = refl })
starts_fresh (pc ∷ places) (suc h) x there = starts_fresh places h x there

-- a board keeps its harts
step_harts : (plan : Plan) (acts : ℕ → List Act) (t : Step) (s : BoardState) (d : Stepped)
    → step plan acts t s ≡ Some d → length d.state.machine.stacks ≡ length s.machine.stacks
step_harts plan acts (Hart h) s d is =
    let made = hart_made plan acts h s d is in
    ap (λ (e : Stepped). length e.state.machine.stacks) made.is
    ∙ length-set s.machine.stacks h made.made.reach.own.stack
step_harts plan acts (Reporter r) s d is =
    ap (λ (e : Stepped). length e.state.machine.stacks) (reporter_made plan acts r s d is).is

run_harts : (plan : Plan) (acts : ℕ → List Act) (tries : List Step) (s : BoardState)
    → length (run plan acts s tries).machine.stacks ≡ length s.machine.stacks
run_harts plan acts tries s =
    run_keeps plan acts (λ (u : BoardState). length u.machine.stacks ≡ length s.machine.stacks)
    (record { keeps = λ t u d is same. step_harts plan acts t u d is ∙ same }) tries s refl

-- ---- From the start ----

-- what the notes of a whole run make of a hart that it has at its end
record FromStart (plan : Plan) (acts : ℕ → List Act) (tries : List Step) (h : ℕ) (y : Stack) : Type 0 where
  begin : Stack
  fresh : IsFresh begin
  amends : AmendsAll (own_notes h (ran plan acts tries).notes) begin y

from_start : (plan : Plan) (acts : ℕ → List Act) (tries : List Step) (h : ℕ) (y : Stack) → IsPlan plan
    → slice_get (ran plan acts tries).state.machine.stacks h ≡ Some y → FromStart plan acts tries h y
unfolding ran
from_start plan acts tries h y p there =
    let start = start_state plan in
    let low : h < length start.machine.stacks =
    subst (λ n. h < n) (run_harts plan acts tries start)
    (slice_get_within (run plan acts start tries).machine.stacks h y there) in
    let x = get_or start.machine.stacks h (fresh_stack 0) in
    let here_it_is = slice_get-get_or start.machine.stacks h (fresh_stack 0) low in
    let told = run_tells plan acts h tries start x (start_fine plan p) here_it_is in
    record {
      begin = x;
      fresh = starts_fresh (start_places plan.harts plan.starts) h x here_it_is;
      amends = subst (AmendsAll (own_notes h (notes plan acts start tries)) x)
          (same_Some told.stack y (sym told.there ∙ there)) told.amends;
    }

pub each_stack_is_told : (plan : Plan) (acts : ℕ → List Act) → IsPlan plan → EachStackIsTold plan acts
each_stack_is_told plan acts p tries h y there =
    let whole = from_start plan acts tries h y p there in
    whole.amends.ids
    ∙ ap (λ (fs : List Frame). ids_after (ids_of fs) (own_notes h (ran plan acts tries).notes)) whole.fresh.frames

pub each_base_is_amended : (plan : Plan) (acts : ℕ → List Act) → IsPlan plan → EachBaseIsAmended plan acts
each_base_is_amended plan acts p tries h y k there same =
    let whole = from_start plan acts tries h y p there in
    whole.amends.base k (whole.fresh.base ∙ sym same)
    ∙ ap (λ (fs : List Frame). triple_of (amend 0 (ids_of fs) k (own_notes h (ran plan acts tries).notes)))
    whole.fresh.frames

-- ---- From a delivery ----

-- the delivered handler's frame after further tries, and where it stands
record Since (plan : Plan) (acts : ℕ → List Act) (h : ℕ) (b : Delivery plan acts h) (tries : List Step) : Type 0 where
  stack : Stack
  there : slice_get (state_since b tries).machine.stacks h ≡ Some stack
  fine : IsFine (state_since b tries)
  handlers : ids_of stack.frames ≡ ids_after (ids b) (notes_since b tries)
  frame : StillRuns b tries
      → at_depth (depth b) stack.frames ≡ Some (record { at = instance_of b.id h; saved = amended b tries })

since : (plan : Plan) (acts : ℕ → List Act) (h : ℕ) (b : Delivery plan acts h) (tries : List Step) → IsPlan plan
    → Since plan acts h b tries
since plan acts h b tries p =
    let before = (ran plan acts b.older).state in
    let fine = ran_fine plan acts b.older p in
    let turn = own_turn plan acts h before b.made b.stack fine b.before b.delivers in
    let begun = fine_after plan acts (Hart h) before b.made b.delivers fine in
    let told = run_tells plan acts h tries b.made.state turn.stack begun turn.there in
    let new : Frame = record { at = instance_of b.id h; saved = b.stack.live } in
    let frames_are : turn.stack.frames ≡ new ∷ b.stack.frames = turn.tells.begins b.id b.note in
    let ids_are : ids_of turn.stack.frames ≡ ids b =
    turn.tells.amends.ids ∙ ap (λ (n : StepNote). ids_with n (ids_of b.stack.frames)) b.note in
    let ns = notes_since b tries in
    record {
      stack = told.stack;
      there = told.there;
      fine = run_keeps plan acts IsFine
          (record { keeps = λ t s d is fine. fine_after plan acts t s d is fine }) tries b.made.state begun;
      handlers = told.amends.ids ∙ ap (λ is. ids_after is ns) ids_are;
      frame = λ runs.
          told.amends.frames (depth b) new
          (ap (at_depth (depth b)) frames_are ∙ here (depth b) new b.stack.frames refl)
          (ap (λ is. is_open (depth b) is ns) ids_are ∙ runs)
          ∙ ap (λ is. Some (record { at = instance_of b.id h; saved = amend (depth b) is b.stack.live ns })) ids_are;
    }

pub each_frame_is_amended : (plan : Plan) (acts : ℕ → List Act) → IsPlan plan → EachFrameIsAmended plan acts
each_frame_is_amended plan acts p h b tries y runs there =
    let now = since plan acts h b tries p in
    ap (λ (z : Stack). at_depth (depth b) z.frames) (same_Some y now.stack (sym there ∙ now.there)) ∙ now.frame runs

pub each_completion_restores : (plan : Plan) (acts : ℕ → List Act) → IsPlan plan → EachCompletionRestores plan acts
each_completion_restores plan acts p h b tries e z runs makes done there =
    let now = since plan acts h b tries p in
    let turn = own_turn plan acts h (state_since b tries) e now.stack now.fine now.there makes in
    let so = and_parts (is_complete e.note) (length (ids_after (ids b) (notes_since b tries)) == depth b) done in
    let deep : length now.stack.frames ≡ depth b =
    sym (length-map now.stack.frames (λ (f : Frame). (id_of f.at).0)) ∙ ap length now.handlers
    ∙ eqb-true (length (ids_after (ids b) (notes_since b tries))) (depth b) so.1 in
    ap (λ (x : Stack). x.live) (same_Some z turn.stack (sym there ∙ turn.there))
    ∙ turn.tells.amends.restores (record { at = instance_of b.id h; saved = amended b tries }) so.0
    (ap (λ d. at_depth d now.stack.frames) deep ∙ now.frame runs)

-- ---- All four ----

pub is_amended : (plan : Plan) (acts : ℕ → List Act) → IsPlan plan → IsAmended plan acts
is_amended plan acts p =
    record {
      frames = each_frame_is_amended plan acts p;
      completions = each_completion_restores plan acts p;
      bases = each_base_is_amended plan acts p;
      stacks = each_stack_is_told plan acts p;
    }
