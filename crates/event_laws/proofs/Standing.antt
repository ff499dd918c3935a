-- What the machine keeps at all times, and that each step keeps it.
use Rattle.std.proofs.Common.{◌≡◌, ℕ, zero, suc, ◌+◌, ◌%◌, ◌^◌, ◌<◌, Bool, true, false, List, [], ◌∷◌, length, get_or, set, slice_get, Option, Some, None, refl, sym, ap, ◌∙◌, subst, inl, inr, arith}
use Rattle.std.proofs.lemmas.Bool.{cases_Bool, cases_eq, true≢false}
use Rattle.std.proofs.lemmas.List.{length-set}
use Rattle.std.proofs.lemmas.Option.{none-some, same_Some, slice_get_within, get_or_from_slice_get}
use Rattle.sse_base.specs.declared.arrows.State.{State}
use Rattle.sse_base.specs.declared.arrows.State.TheVariants.{Unused, Registered, Enabled, Running}
use Rattle.sse_base.specs.declared.arrows.Move.{Move}
use Rattle.sse_base.specs.declared.arrows.Move.TheVariants as moves
use Rattle.sse_base.specs.declared.arrows.Move.TheVariants.{Deliver}
use Rattle.sse_base.specs.Arrows.{arrow}
use Rattle.sse_base.specs.declared.events.Event.{Event}
use Rattle.sse_base.specs.declared.ids.Instance.{Instance}
use Rattle.sse_base.specs.Ids.{id_of, instance_of, may_run_on, place, same_instance}
use Rattle.sse_base.specs.Events.{Events, event, change, signal, gone, completion_of, set_running, set_completed, is_running}
use Rattle.sse_base.specs.Contexts.{Frame, Stack, Triple, bit, newest, complete, deliver, has_frame, with_below, with_pc}
use Rattle.sse_base.specs.Machine.{Machine, Reach, placed}
use Rattle.sse_base.specs.Choice.{next_for, top_urgency}
use Rattle.sse_base.specs.Calls.{Answer, argument_at, call, completed_at, delivered, with_attributes, with_interrupted}
use Rattle.ras_device.specs.declared.act.Act.{Act}
use Rattle.board_plan.specs.declared.notes.Step.{Step}
use Rattle.board_plan.specs.declared.notes.Step.TheVariants.{Hart, Reporter}
use Rattle.board_plan.specs.declared.notes.StepNote.{StepNote}
use Rattle.board_plan.specs.declared.ops.Reg.{Reg}
use Rattle.board_plan.specs.declared.ops.Reg.TheVariants.{A6, A7, Sepc, Spp, Spie, Sie}
use Rattle.board_plan.specs.declared.plan.Plan.{Plan}
use Rattle.board_plan.specs.Ops.{returned, set_register}
use Rattle.board_plan.specs.State.{BoardState}
use Rattle.board_plan.specs.Step.{Stepped, board_reach, event_signalled, on_board, signal_event, step}
use Rattle.board_plan.specs.Sound.{EachNestRises, Rise, is_over, urgency_at}
use Rattle.sse_base.proofs.Instances.{same_self}
use Rattle.sbi_sse.specs.Kept.{times, ats, IsKept}
use Rattle.sbi_sse.proofs.Chosen.{chosen_begins}
use Rattle.sbi_sse.proofs.Counting.{part_of_running}
use Rattle.sbi_sse.proofs.Keeps.{change_keeps, completion_keeps, mark_keeps, frames_keep, delivering_keeps, newest_first, written_ats}
use Rattle.event_laws.proofs.Calls.{call_cases, is_at_rest}
use Rattle.event_laws.proofs.Changes.{each_keeps, keeps_urgency, write_keeps_urgency}
use Rattle.event_laws.proofs.Choosing.{chosen_above}
use Rattle.event_laws.proofs.Outcomes.{ActCases, StepCases, act_cases, hart_made, own_cases, reporter_made}
use Rattle.event_laws.proofs.Rising.{KeepsUrgency, rises_on, top_same}

-- a local instance has the id of a local event, and a global one that of a global event
pub record AreProper (is : List Instance) : Type 0 where
  pub meant : (h : ℕ) (x : Instance) → place x is < length is → may_run_on h x ≡ true → instance_of (id_of x).0 h ≡ x

pub record Keeps (m : Machine) : Type 0 where
  pub kept : IsKept m.events m.masks m.stacks
  pub marks : length m.events.marks ≡ length m.events.instances
  pub proper : AreProper m.events.instances
  pub nests : EachNestRises m

-- ---- Elements of a list that was written to ----

pub set_same : {X : Type 0} (xs : List X) (i : ℕ) (x : X) → i < length xs → slice_get (set xs i x) i ≡ Some x
set_same [] i x low = absurd (omega arith)
set_same (y ∷ xs) zero x low = refl
set_same (y ∷ xs) (suc i) x low = set_same xs i x (omega arith)

pub set_other : {X : Type 0} (xs : List X) (i j : ℕ) (x : X) → (j ≡ i → ⊥) → slice_get (set xs i x) j ≡ slice_get xs j
set_other [] i j x apart = refl
set_other (y ∷ xs) zero zero x apart = absurd (apart refl)
set_other (y ∷ xs) zero (suc j) x apart = refl
set_other (y ∷ xs) (suc i) zero x apart = refl
set_other (y ∷ xs) (suc i) (suc j) x apart = set_other xs i j x (λ same. apart (ap suc same))

-- ---- What runs ----

-- an instance with a frame runs
pub framed_runs : (t : Events) (ms : List Bool) (ss : List Stack) (h : ℕ) (y : Stack) (x : Instance) → IsKept t ms ss
    → slice_get ss h ≡ Some y → 0 < times x (ats y.frames) → is_running (event x t).state ≡ true
framed_runs t ms ss h y x k there some =
    elim (cases_Bool (is_running (event x t).state)) [
      | inl runs ↦ runs
      | inr rests ↦
          let none : bit (is_running (event x t).state) ≡ 0 = rw rests refl in
          let same : times x (ats (get_or ss h y).frames) ≡ times x (ats y.frames) =
          ap (λ (z : Stack). times x (ats z.frames)) (get_or_from_slice_get ss h y y there) in
          absurd (omega (arith, same, some, k.framed x, part_of_running x ss h y (slice_get_within ss h y there)))
    ]

-- the instance of the newest handler runs
pub newest_running : (m : Machine) (h : ℕ) (x : Stack) (at : Instance) → slice_get m.stacks h ≡ Some x → Keeps m
    → newest x.frames ≡ Some at → is_running (event at m.events).state ≡ true
newest_running m h x at there k first =
    framed_runs m.events m.masks m.stacks h x at k.kept there
    (let here : times at (ats x.frames) ≡ bit (same_instance at at) + times at (ats (complete x).frames) =
    ap (times at) (newest_first x at first) in
    let one : bit (same_instance at at) ≡ 1 = rw (same_self at) refl in
    omega arith)

-- the handlers of all harts still rise after a step of one, if its own do
nests_after : (m : Machine) (h : ℕ) (s : Stack) (t : Events) (masks : List Bool) (memory : List ℕ)
    → IsKept m.events m.masks m.stacks → EachNestRises m → h < length m.stacks → KeepsUrgency m.events t
    → Rise t s.frames
    → EachNestRises (record { events = t; masks = masks; stacks = set m.stacks h s; memory = memory })
nests_after m h s t masks memory k nests low u own j y there =
    elim (cases_eq j h) [
      | inl same ↦
          let here : Some s ≡ Some y =
          sym (set_same m.stacks h s low) ∙ ap (slice_get (set m.stacks h s)) (sym same) ∙ there in
          subst (λ (z : Stack). Rise t z.frames) (same_Some s y here) own
      | inr apart ↦
          let here : slice_get m.stacks j ≡ Some y = sym (set_other m.stacks h j s apart) ∙ there in
          rises_on m.events t y.frames y.frames u
          (λ x some. framed_runs m.events m.masks m.stacks j y x k here some) refl (nests j y here)
    ]

-- ---- Changes of a hart's stack that leave its handlers ----

below_ats : (t base : Triple) (fs : List Frame) → ats (with_below t fs base).frames ≡ ats fs
below_ats t base [] = refl
below_ats t base (f ∷ fs) = refl

register_ats : (reg : Reg) (value : ℕ) (s : Stack) → ats (set_register reg value s).frames ≡ ats s.frames
register_ats A6 value s = refl
register_ats A7 value s = refl
register_ats Sepc value s = below_ats _ s.base s.frames
register_ats Spp value s = below_ats _ s.base s.frames
register_ats Spie value s = below_ats _ s.base s.frames
register_ats Sie value s = refl

returned_ats : (s : Stack) → ats (returned s).frames ≡ ats s.frames
returned_ats s = below_ats _ s.base s.frames

-- ---- Completions, moves and masks ----

rest_rises : (t : Events) (s : Stack) → Rise t s.frames → Rise t (complete s).frames
rest_rises t s r = go s.frames r
  where
    go : (fs : List Frame) → Rise t fs → Rise t (complete (record s { frames = fs })).frames
    go [] r = tt
    go (f ∷ fs) r = r.1

still_rests : (mv : Move) (a b : State) → is_at_rest mv ≡ true → arrow a mv ≡ Some b → is_running b ≡ is_running a
still_rests moves.Register Unused b rest goes = ap is_running (sym (same_Some Registered b goes))
still_rests moves.Register Registered b rest goes = absurd (none-some b goes)
still_rests moves.Register Enabled b rest goes = absurd (none-some b goes)
still_rests moves.Register Running b rest goes = absurd (none-some b goes)
still_rests moves.Unregister Unused b rest goes = absurd (none-some b goes)
still_rests moves.Unregister Registered b rest goes = ap is_running (sym (same_Some Unused b goes))
still_rests moves.Unregister Enabled b rest goes = absurd (none-some b goes)
still_rests moves.Unregister Running b rest goes = absurd (none-some b goes)
still_rests moves.Enable Unused b rest goes = absurd (none-some b goes)
still_rests moves.Enable Registered b rest goes = ap is_running (sym (same_Some Enabled b goes))
still_rests moves.Enable Enabled b rest goes = absurd (none-some b goes)
still_rests moves.Enable Running b rest goes = absurd (none-some b goes)
still_rests moves.Disable Unused b rest goes = absurd (none-some b goes)
still_rests moves.Disable Registered b rest goes = absurd (none-some b goes)
still_rests moves.Disable Enabled b rest goes = ap is_running (sym (same_Some Registered b goes))
still_rests moves.Disable Running b rest goes = absurd (none-some b goes)
still_rests moves.Deliver a b rest goes = absurd (true≢false (sym rest))
still_rests moves.Complete a b rest goes = absurd (true≢false (sym rest))
still_rests moves.CompleteOnce a b rest goes = absurd (true≢false (sym rest))

masks_keep : (t : Events) (ms : List Bool) (ss : List Stack) (h : ℕ) (b : Bool) → IsKept t ms ss
    → IsKept t (set ms h b) ss
masks_keep t ms ss h b k =
    record {
      board = k.board;
      each = k.each;
      masked = length-set ms h b ∙ k.masked;
      harts = k.harts;
      framed = k.framed;
      own = k.own;
    }

-- ---- A hart's step ----

module _ (m : Machine) (h : ℕ) (x : Stack) (there : slice_get m.stacks h ≡ Some x) (k : Keeps m) where
  low : h < length m.stacks
  low = slice_get_within m.stacks h x there

  is_own : x ≡ get_or m.stacks h x
  is_own = sym (get_or_from_slice_get m.stacks h x x there)

  runs : (y : Instance) → 0 < times y (ats x.frames) → is_running (event y m.events).state ≡ true
  runs y some = framed_runs m.events m.masks m.stacks h x y k.kept there some

  -- its handlers stay, and so does what runs
  same_frames : (s : Stack) (t : Events) (masks : List Bool) (memory : List ℕ) → ats s.frames ≡ ats x.frames
      → IsKept t masks m.stacks → length t.marks ≡ length t.instances → t.instances ≡ m.events.instances
      → KeepsUrgency m.events t
      → Keeps (record { events = t; masks = masks; stacks = set m.stacks h s; memory = memory })
  same_frames s t masks memory same kept marks is u =
      record {
        kept = frames_keep t masks m.stacks h x s kept low (same ∙ ap (λ (z : Stack). ats z.frames) is_own);
        marks = marks;
        proper = subst AreProper (sym is) k.proper;
        nests = nests_after m h s t masks memory k.kept k.nests low u
            (rises_on m.events t x.frames s.frames u runs same (k.nests h x there));
      }

  -- nor do the events change
  same_events : (s : Stack) (memory : List ℕ) → ats s.frames ≡ ats x.frames
      → Keeps (record { events = m.events; masks = m.masks; stacks = set m.stacks h s; memory = memory })
  same_events s memory same =
      same_frames s m.events m.masks memory same k.kept k.marks refl (record { same = λ y run. refl })

  signals : (s : Stack) (memory : List ℕ) → ats s.frames ≡ ats x.frames → (at : Instance)
      → Keeps (record {
        events = signal at m.events;
        masks = m.masks;
        stacks = set m.stacks h s;
        memory = memory;
      })
  signals s memory same at =
      same_frames s (signal at m.events) m.masks memory same
      (mark_keeps at true m.events m.masks m.stacks k.kept)
      (length-set m.events.marks (place at m.events.instances) true ∙ k.marks) refl
      (record { same = λ y run. refl })

  -- an event is signalled, or none
  signalled : (s : Stack) (memory : List ℕ) → ats s.frames ≡ ats x.frames → (home : ℕ) (o : Option ℕ)
      → Keeps (record {
        events = signal_event home m.events o;
        masks = m.masks;
        stacks = set m.stacks h s;
        memory = memory;
      })
  signalled s memory same home None = same_events s memory same
  signalled s memory same home (Some id) = signals s memory same (instance_of id home)

  abbrev own : Reach
  own = record { stack = x; events = m.events; masks = m.masks; memory = m.memory }

  -- a delivery
  delivers : (at : Instance) → next_for h own ≡ Some at → Keeps (placed h (delivered h at own) m)
  delivers at next =
      let t = m.events in
      let e = event at t in
      let b = chosen_begins h t m.masks m.stacks m.masks (top_urgency x.frames t) at k.kept next in
      let u : KeepsUrgency t (set_running at t) = record { same = (keeps_urgency at (gone Deliver e) t refl).same } in
      let new = deliver at e.entry e.arg h x in
      let first : is_over (urgency_at at (set_running at t)) (top_urgency x.frames (set_running at t)) ≡ true =
      ap (λ (p : ℕ). is_over (p, id_of at) (top_urgency x.frames (set_running at t)))
      (each_keeps (λ (v : Event). v.priority) at (gone Deliver e) t refl at)
      ∙ ap (is_over (urgency_at at t)) (top_same t (set_running at t) x.frames u runs)
      ∙ chosen_above h t m.masks m.stacks m.masks (top_urgency x.frames t) at k.kept next in
      record {
        kept = delivering_keeps t (set_running at t) m.masks m.stacks h e.entry e.arg x new at k.kept low is_own
            b.on_board b.may_run b.enabled refl refl;
        marks = length-set t.marks (place at t.instances) false ∙ k.marks;
        proper = k.proper;
        nests = nests_after m h new (set_running at t) m.masks m.memory k.kept k.nests low u
            (first, rises_on t (set_running at t) x.frames x.frames u runs refl (k.nests h x there));
      }

  -- a completion
  completes : (pc : ℕ) (o : Option Instance) → newest x.frames ≡ o
      → Keeps (placed h (completed_at o (record own { stack = with_pc pc x })) m)
  completes pc None none = same_events (with_pc pc x) m.memory refl
  completes pc (Some at) there_is =
      let t = m.events in
      let e = event at t in
      let s = complete (with_pc pc x) in
      let tail : ats x.frames ≡ at ∷ ats s.frames = newest_first (with_pc pc x) at there_is in
      let was : ats (get_or m.stacks h x).frames ≡ at ∷ ats s.frames =
      ap (λ (z : Stack). ats z.frames) (sym is_own) ∙ tail in
      let u : KeepsUrgency t (set_completed at t) = keeps_urgency at (gone (completion_of e) e) t refl in
      record {
        kept = completion_keeps t m.masks m.stacks h x s at k.kept low was;
        marks = k.marks;
        proper = k.proper;
        nests = nests_after m h s (set_completed at t) m.masks m.memory k.kept k.nests low u
            (rises_on t (set_completed at t) s.frames s.frames u
            (λ y some. runs y (omega (arith, some, ap (times y) tail))) refl
            (rest_rises t (with_pc pc x) (k.nests h x there)));
      }

  -- a call
  calls : (pc eid fid : ℕ) (args : List ℕ) (stacks : List Stack)
      → Keeps (placed h (call h eid fid args stacks (record own { stack = with_pc pc x })).reach m)
  calls pc eid fid args stacks =
      let t = m.events in
      let s = with_pc pc x in
      let r : Reach = record own { stack = s } in
      call_cases (λ (a : Answer). Keeps (placed h a.reach m)) h eid fid args stacks r (record {
        refuses = λ code bad. same_events s m.memory refl;
        reads = λ memory is. same_events s memory refl;
        writes = λ at base words same is named write.
            (let new = with_attributes base words (event at t) in
            same_frames (with_interrupted base words at s) (change at new t) m.masks m.memory
            (written_ats base words at s) (change_keeps at new t m.masks m.stacks k.kept refl) k.marks refl
            (write_keeps_urgency base words at (has_frame at x.frames) t k.kept.each named.on_board write.checked));
        makes_move = λ at mv state new named move is.
            same_frames s (change at new t) m.masks m.memory refl
            (change_keeps at new t m.masks m.stacks k.kept
            (ap is_running is.state_is ∙ still_rests mv (event at t).state state move.at_rest move.goes)) k.marks refl
            (keeps_urgency at new t is.priority);
        completes = λ same is. completes pc (newest x.frames) refl;
        injects = λ at is named. signals s m.memory refl (instance_of (argument_at args 0) (argument_at args 1));
        unmasks = λ is.
            same_frames s t (set m.masks h false) m.memory refl (masks_keep t m.masks m.stacks h false k.kept) k.marks
            refl (record { same = λ y run. refl });
        masks = λ is.
            same_frames s t (set m.masks h true) m.memory refl (masks_keep t m.masks m.stacks h true k.kept) k.marks
            refl (record { same = λ y run. refl });
      })

  -- any step
  hart_keeps : (plan : Plan) (stacks : List Stack)
      → StepCases h plan stacks own (λ (q : Reach) (n : StepNote). Keeps (placed h q m))
  hart_keeps plan stacks =
      let pc = (x.live.pc + 4) % 2 ^ 64 in
      let s = with_pc pc x in
      record {
        drains = λ n is. same_events x m.memory refl;
        signals = λ bank level d known. signalled x m.memory refl d.home (event_signalled d m.events level);
        delivers = delivers;
        executes = λ none. record {
          plain = λ n to memory is. same_events (with_pc to s) memory refl;
          sets = λ reg value. same_events (set_register reg value s) m.memory (register_ats reg value s);
          loads = λ reg word. same_events (set_register reg word s) m.memory (register_ats reg word s);
          srets = same_events (returned s) m.memory (returned_ats s);
          calls = λ eid fid args. calls pc eid fid args stacks;
        };
      }

-- ---- Any step ----

act_keeps : (m : Machine) → Keeps m
    → ActCases m.events (λ (t : Events) (n : StepNote). Keeps (record m { events = t }))
act_keeps m k =
    record { reports = λ report logged. k; raises = λ id h. raised h (on_board h m.events (Some id)) }
  where
    raised : (h : ℕ) (o : Option ℕ) → Keeps (record m { events = signal_event h m.events o })
    raised h None = k
    raised h (Some id) =
        let at = instance_of id h in
        record {
          kept = mark_keeps at true m.events m.masks m.stacks k.kept;
          marks = length-set m.events.marks (place at m.events.instances) true ∙ k.marks;
          proper = k.proper;
          nests = λ j y here.
              rises_on m.events (signal at m.events) y.frames y.frames (record { same = λ z run. refl })
              (λ z some. framed_runs m.events m.masks m.stacks j y z k.kept here some) refl (k.nests j y here);
        }

pub step_keeps : (plan : Plan) (acts : ℕ → List Act) (t : Step) (s : BoardState) (d : Stepped)
    → step plan acts t s ≡ Some d → Keeps s.machine → Keeps d.state.machine
step_keeps plan acts (Hart h) s d is k =
    let made = hart_made plan acts h s d is in
    subst (λ (e : Stepped). Keeps e.state.machine) (sym made.is)
    (own_cases (λ (q : Reach) (n : StepNote). Keeps (placed h q s.machine)) h plan s.machine.stacks
    (board_reach made.stack s) made.made (hart_keeps s.machine h made.stack made.there k plan s.machine.stacks)
    made.makes)
step_keeps plan acts (Reporter r) s d is k =
    let made = reporter_made plan acts r s d is in
    subst (λ (e : Stepped). Keeps e.state.machine) (sym made.is)
    (act_cases (λ (t : Events) (n : StepNote). Keeps (record s.machine { events = t })) plan s made.next
    (act_keeps s.machine k))
