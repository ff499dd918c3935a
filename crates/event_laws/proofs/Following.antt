-- Each change of an event's state follows an arrow: the move of the step's own note.
use Rattle.std.proofs.Common.{◌≡◌, ℕ, ◌+◌, ◌%◌, ◌^◌, Bool, true, false, cond, List, [], ◌∷◌, length, ◌⊎◌, slice_get, Option, Some, None, refl, sym, ap, ◌∙◌, subst, inl, inr}
use Rattle.std.specs.Prelude.{unwrap_or}
use Rattle.std.specs.Option.{option_map}
use Rattle.std.proofs.lemmas.Bool.{true≢false}
use Rattle.std.proofs.lemmas.Option.{none-some}
use Rattle.sse_base.specs.declared.arrows.State.{State}
use Rattle.sse_base.specs.declared.arrows.State.TheVariants.{Unused, Registered, Enabled, Running}
use Rattle.sse_base.specs.declared.arrows.Move.{Move}
use Rattle.sse_base.specs.declared.arrows.Move.TheVariants as moves
use Rattle.sse_base.specs.declared.events.Event.{Event}
use Rattle.sse_base.specs.declared.functions.Function.{Function}
use Rattle.sse_base.specs.declared.functions.Function.TheVariants as functions
use Rattle.sse_base.specs.declared.codes.SbiCode.TheVariants.{Success}
use Rattle.sse_base.specs.declared.ids.Instance.{Instance}
use Rattle.sse_base.specs.Arrows.{arrow}
use Rattle.sse_base.specs.Functions.{function_of}
use Rattle.sse_base.specs.Ids.{id_of, instance_of}
use Rattle.sse_base.specs.Events.{Events, event, change, completion_of, gone, is_enabled, is_running, set_running, IsOnBoard}
use Rattle.sse_base.specs.Contexts.{Frame, Stack, newest, with_pc}
use Rattle.sse_base.specs.Machine.{Machine, Reach}
use Rattle.sse_base.specs.Choice.{next_for, top_urgency}
use Rattle.sse_base.specs.Calls.{Answer, argument_at, call, completed_at, delivered, with_attributes, no_words}
use Rattle.ras_device.specs.declared.act.Act.{Act}
use Rattle.board_plan.specs.declared.notes.Step.{Step}
use Rattle.board_plan.specs.declared.notes.Step.TheVariants.{Hart, Reporter}
use Rattle.board_plan.specs.declared.notes.StepNote.{StepNote}
use Rattle.board_plan.specs.declared.notes.StepNote.TheVariants as note
use Rattle.board_plan.specs.declared.plan.Plan.{Plan}
use Rattle.board_plan.specs.Amend.{is_done}
use Rattle.board_plan.specs.Plans.{IsPlan}
use Rattle.board_plan.specs.Run.{ran}
use Rattle.board_plan.specs.Sound.{EachChangeIsAnArrow, fits_mark, is_move_of, makes, moved_by, moved_in, newest_of, state_of}
use Rattle.board_plan.specs.State.{BoardState}
use Rattle.board_plan.specs.Step.{Stepped, board_reach, event_signalled, on_board, signal_event}
use Rattle.sbi_sse.proofs.Chosen.{chosen_begins}
use Rattle.sbi_sse.proofs.Keeps.{runs_on_board}
use Rattle.event_laws.proofs.Beginning.{run_keeps_machine}
use Rattle.event_laws.proofs.Calls.{IsMove, IsMoved, IsNamed, call_cases}
use Rattle.event_laws.proofs.Changes.{After, after, each_keeps}
use Rattle.event_laws.proofs.Changes.After.{changes, stays}
use Rattle.event_laws.proofs.Outcomes.{ActCases, StepCases, act_cases, hart_made, own_cases, reporter_made}
use Rattle.event_laws.proofs.Standing.{Keeps, newest_running}

-- the arrow that an instance takes by a note's move
record ByArrow (m : Machine) (moved : Option Instance) (n : StepNote) (t : Events) (at : Instance) : Type 0 where
  move : Move
  made : makes n move ≡ true
  of : moved ≡ Some at
  fits : fits_mark (event at m.events).oneshot move ≡ true
  goes : arrow (event at m.events).state move ≡ Some (event at t).state

-- it keeps its state, or takes one
data Goes (m : Machine) (moved : Option Instance) (n : StepNote) (t : Events) (at : Instance) : Type 0 where
  keeps : (event at t).state ≡ (event at m.events).state → Goes m moved n t at
  takes : ByArrow m moved n t at → Goes m moved n t at

-- where one event changes, and by an arrow
changed : (m : Machine) (moved : Option Instance) (n : StepNote) (at : Instance) (new : Event) (mv : Move)
    → length m.events.each ≡ length m.events.instances → IsOnBoard at m.events → makes n mv ≡ true → moved ≡ Some at
    → fits_mark (event at m.events).oneshot mv ≡ true → arrow (event at m.events).state mv ≡ Some new.state
    → (x : Instance) → Goes m moved n (change at new m.events) x
changed m moved n at new mv each on made of fits goes x = go (after at new m.events x each on)
  where
    go : After at new m.events x → Goes m moved n (change at new m.events) x
    go (stays old) = keeps (ap (λ (e : Event). e.state) old)
    go (changes is now) =
        takes (record {
          move = mv;
          made = made;
          of = of ∙ ap (λ (y : Instance). Some y) is;
          fits = ap (λ (y : Instance). fits_mark (event y m.events).oneshot mv) (sym is) ∙ fits;
          goes = ap (λ (y : Instance). arrow (event y m.events).state mv) (sym is) ∙ goes
              ∙ ap (λ (e : Event). Some e.state) (sym now);
        })

enabled_goes : (s : State) → is_enabled s ≡ true → arrow s moves.Deliver ≡ Some (unwrap_or (arrow s moves.Deliver) s)
enabled_goes Unused e = absurd (true≢false (sym e))
enabled_goes Registered e = absurd (true≢false (sym e))
enabled_goes Enabled e = refl
enabled_goes Running e = absurd (true≢false (sym e))

completion_goes : (oneshot : Bool) (s : State) → is_running s ≡ true
    → arrow s (cond oneshot moves.CompleteOnce moves.Complete)
    ≡ Some (unwrap_or (arrow s (cond oneshot moves.CompleteOnce moves.Complete)) s)
completion_goes b Unused e = absurd (true≢false (sym e))
completion_goes b Registered e = absurd (true≢false (sym e))
completion_goes b Enabled e = absurd (true≢false (sym e))
completion_goes true Running e = refl
completion_goes false Running e = refl

completion_fits : (oneshot : Bool) → fits_mark oneshot (cond oneshot moves.CompleteOnce moves.Complete) ≡ true
completion_fits true = refl
completion_fits false = refl

completion_of_call : (oneshot : Bool)
    → is_move_of (Some functions.Complete) (cond oneshot moves.CompleteOnce moves.Complete) ≡ true
completion_of_call true = refl
completion_of_call false = refl

first_newest : (fs : List Frame) (at : Instance) → newest fs ≡ Some at
    → option_map (λ f. f.at) (slice_get fs 0) ≡ Some at
first_newest [] at is = absurd (none-some at is)
first_newest (f ∷ fs) at is = is

module _ (m : Machine) (h : ℕ) (x : Stack) (there : slice_get m.stacks h ≡ Some x) (k : Keeps m) (at : Instance) where
  abbrev own : Reach
  own = record { stack = x; events = m.events; masks = m.masks; memory = m.memory }

  abbrev Follows : Reach → StepNote → Type 0
  Follows q n = Goes m (moved_by h n m) n q.events at

  signalled : (n : StepNote) (home : ℕ) (o : Option ℕ) → Goes m (moved_by h n m) n (signal_event home m.events o) at
  signalled n home None = keeps refl
  signalled n home (Some id) = keeps refl

  delivers : (new : Instance) → next_for h own ≡ Some new
      → Follows (delivered h new own) (note.Deliver (id_of new).0)
  delivers new next =
      let t = m.events in
      let e = event new t in
      let b = chosen_begins h t m.masks m.stacks m.masks (top_urgency x.frames t) new k.kept next in
      marked (changed m (Some (instance_of (id_of new).0 h)) (note.Deliver (id_of new).0) new (gone moves.Deliver e)
      moves.Deliver k.kept.each b.on_board refl
      (ap (λ (y : Instance). Some y) (k.proper.meant h new b.on_board b.may_run)) refl
      (enabled_goes e.state b.enabled) at)
    where
      -- a mark changes no state
      marked : Goes m (Some (instance_of (id_of new).0 h)) (note.Deliver (id_of new).0)
          (change new (gone moves.Deliver (event new m.events)) m.events) at
          → Goes m (Some (instance_of (id_of new).0 h)) (note.Deliver (id_of new).0) (set_running new m.events) at
      marked (keeps same) = keeps same
      marked (takes a) =
          takes (record { move = a.move; made = a.made; of = a.of; fits = a.fits; goes = a.goes })

  completes : (pc eid fid : ℕ) (args : List ℕ) → function_of fid ≡ Some functions.Complete → (o : Option Instance)
      → newest x.frames ≡ o
      → Follows (completed_at o (record own { stack = with_pc pc x })) (note.Call eid fid args Success no_words)
  completes pc eid fid args is None none = keeps refl
  completes pc eid fid args is (Some new) there_is =
      let t = m.events in
      let e = event new t in
      let runs : is_running e.state ≡ true = newest_running m h x new there k there_is in
      let moved : moved_by h (note.Call eid fid args Success no_words) m ≡ Some new =
      ap (λ (f : Option Function). cond (is_done f) (newest_of (slice_get m.stacks h))
      (Some (instance_of (argument_at args 0) h))) is
      ∙ ap newest_of there ∙ first_newest x.frames new there_is in
      changed m (moved_by h (note.Call eid fid args Success no_words) m) (note.Call eid fid args Success no_words) new
      (gone (completion_of e) e) (completion_of e) k.kept.each (runs_on_board new t k.kept.each runs)
      (ap (λ (f : Option Function). is_move_of f (completion_of e)) is ∙ completion_of_call e.oneshot) moved
      (completion_fits e.oneshot) (completion_goes e.oneshot e.state runs) at

  moves_on : (eid fid : ℕ) (args : List ℕ) (new : Instance) (mv : Move) (state : State) (e : Event)
      → IsNamed h args m.events new → IsMove (function_of fid) m.events new mv state
      → IsMoved (event new m.events) e state
      → Goes m (moved_by h (note.Call eid fid args Success no_words) m) (note.Call eid fid args Success no_words)
      (change new e m.events) at
  moves_on eid fid args new mv state e named move is =
      let moved : moved_by h (note.Call eid fid args Success no_words) m ≡ Some new =
      ap (λ (b : Bool). cond b (newest_of (slice_get m.stacks h)) (Some (instance_of (argument_at args 0) h)))
      move.no_completion ∙ ap (λ (y : Instance). Some y) (sym named.is) in
      changed m (moved_by h (note.Call eid fid args Success no_words) m) (note.Call eid fid args Success no_words) new e
      mv k.kept.each named.on_board move.of_call moved (move.either_mark (event new m.events).oneshot)
      (move.goes ∙ ap (λ (s : State). Some s) (sym is.state_is)) at

  calls : (pc eid fid : ℕ) (args : List ℕ) (stacks : List Stack)
      → Follows (call h eid fid args stacks (record own { stack = with_pc pc x })).reach
      (note.Call eid fid args (call h eid fid args stacks (record own { stack = with_pc pc x })).code
      (call h eid fid args stacks (record own { stack = with_pc pc x })).written)
  calls pc eid fid args stacks =
      call_cases (λ (a : Answer). Follows a.reach (note.Call eid fid args a.code a.written)) h eid fid args stacks
      (record own { stack = with_pc pc x }) (record {
        refuses = λ code bad. keeps refl;
        reads = λ memory is. keeps refl;
        writes = λ new base words same is named write.
            keeps (each_keeps (λ (e : Event). e.state) new (with_attributes base words (event new m.events)) m.events
            refl at);
        makes_move = λ new mv state e named move is. moves_on eid fid args new mv state e named move is;
        completes = λ same is. completes pc eid fid args is (newest x.frames) refl;
        injects = λ new is named. keeps refl;
        unmasks = λ is. keeps refl;
        masks = λ is. keeps refl;
      })

  follows : (plan : Plan) (stacks : List Stack) → StepCases h plan stacks own Follows
  follows plan stacks =
      let pc = (x.live.pc + 4) % 2 ^ 64 in
      record {
        drains = λ n is. keeps refl;
        signals = λ bank level d known. signalled _ d.home (event_signalled d m.events level);
        delivers = delivers;
        executes = λ none. record {
          plain = λ n to memory is. keeps refl;
          sets = λ reg value. keeps refl;
          loads = λ reg word. keeps refl;
          srets = keeps refl;
          calls = λ eid fid args. calls pc eid fid args stacks;
        };
      }

-- a reporter's step changes no state
acts_still : (s : BoardState) (at : Instance)
    → ActCases s.machine.events (λ (t : Events) (n : StepNote). (event at t).state ≡ state_of at s)
acts_still s at =
    record { reports = λ report logged. refl; raises = λ id h. raised h (on_board h s.machine.events (Some id)) }
  where
    raised : (h : ℕ) (o : Option ℕ) → (event at (signal_event h s.machine.events o)).state ≡ state_of at s
    raised h None = refl
    raised h (Some id) = refl

-- in the words of the law
told : (m : Machine) (moved : Option Instance) (n : StepNote) (t : Events) (at : Instance) → Goes m moved n t at
    → ((event at t).state ≡ (event at m.events).state)
    ⊎ ((mv : Move) × (makes n mv ≡ true) × (moved ≡ Some at) × (fits_mark (event at m.events).oneshot mv ≡ true)
    × (arrow (event at m.events).state mv ≡ Some (event at t).state))
told m moved n t at (keeps same) = inl same
told m moved n t at (takes a) = inr (a.move, a.made, a.of, a.fits, a.goes)

pub arrows_at : (plan : Plan) (acts : ℕ → List Act) (s : BoardState) → Keeps s.machine
    → EachChangeIsAnArrow plan acts s
arrows_at plan acts s k (Hart h) d at is =
    let made = hart_made plan acts h s d is in
    let goes : Goes s.machine (moved_by h made.made.note s.machine) made.made.note made.made.reach.own.events at =
    own_cases (λ (q : Reach) (n : StepNote). Goes s.machine (moved_by h n s.machine) n q.events at) h plan
    s.machine.stacks (board_reach made.stack s) made.made
    (follows s.machine h made.stack made.there k at plan s.machine.stacks) made.makes in
    subst (λ (e : Stepped). (state_of at e.state ≡ state_of at s)
    ⊎ ((mv : Move) × (makes e.note mv ≡ true) × (moved_in (Hart h) e.note s ≡ Some at)
    × (fits_mark (event at s.machine.events).oneshot mv ≡ true)
    × (arrow (state_of at s) mv ≡ Some (state_of at e.state)))) (sym made.is)
    (told s.machine (moved_by h made.made.note s.machine) made.made.note made.made.reach.own.events at goes)
arrows_at plan acts s k (Reporter r) d at is =
    let made = reporter_made plan acts r s d is in
    inl (subst (λ (e : Stepped). state_of at e.state ≡ state_of at s) (sym made.is)
    (act_cases (λ (t : Events) (n : StepNote). (event at t).state ≡ state_of at s) plan s made.next (acts_still s at)))

pub each_change_is_an_arrow : (plan : Plan) (acts : ℕ → List Act) (tries : List Step) → IsPlan plan
    → EachChangeIsAnArrow plan acts (ran plan acts tries).state
each_change_is_an_arrow plan acts tries p =
    arrows_at plan acts (ran plan acts tries).state (run_keeps_machine plan acts tries p)
