-- What is safe in a run, at each of its states: nine facts. This project's own, over the event book (SBI 3.0,
-- "Supervisor Software Events") and the record book (RERI 1.0).
use Rattle.std.specs.Prelude.{◌≡◌, ℕ, zero, suc, ◌+◌, ◌≤◌, ◌<◌, ◌&&◌, max, ◌⊎◌, Bool, true, false, List, [], ◌∷◌, ◌++◌, length, not, sum_by, count_by, slice_get, slice_index, if◌then◌else◌, Option, Some, None, option_map}
use Rattle.sse_base.specs.declared.arrows.State.{State}
use Rattle.sse_base.specs.declared.arrows.Move.{Move}
use Rattle.sse_base.specs.declared.arrows.Move.TheVariants as moves
use Rattle.sse_base.specs.declared.ids.Instance.{Instance}
use Rattle.sse_base.specs.Ids.{id_of, instance_of, same_instance}
use Rattle.sse_base.specs.declared.functions.Function.{Function}
use Rattle.sse_base.specs.declared.functions.Function.TheVariants as functions
use Rattle.sse_base.specs.Arrows.{arrow}
use Rattle.sse_base.specs.Functions.{function_of}
use Rattle.sse_base.specs.Codes.{is_success}
use Rattle.sse_base.specs.Events.{Events, event, is_running}
use Rattle.sse_base.specs.Contexts.{Frame, Stack, bit}
use Rattle.sse_base.specs.Machine.{Machine, reach}
use Rattle.sse_base.specs.Choice.{Urgency, is_more_urgent, top_urgency, next_for}
use Rattle.reri_fields.specs.declared.report.RecordCopy.{RecordCopy}
use Rattle.reri_fields.specs.declared.drain.Phase.{Phase}
use Rattle.reri_fields.specs.declared.drain.Phase.TheVariants.{Scan, Invalidate, Signal}
use Rattle.reri_fields.specs.Records.{Error, Origin, copy_after, is_any, shown}
use Rattle.reri_fields.specs.Banks.{BankEvent, events_of, asks, is_signalled_after, copy_level}
use Rattle.reri_fields.specs.Drain.{BankState, Draining, Publication, errors_at, claimed_at}
use Rattle.ras_device.specs.declared.act.Act.{Act}
use Rattle.board_plan.specs.declared.notes.Published.{Published}
use Rattle.board_plan.specs.declared.notes.Step.{Step}
use Rattle.board_plan.specs.declared.notes.Step.TheVariants.{Hart, Reporter}
use Rattle.board_plan.specs.declared.notes.StepNote.{StepNote}
use Rattle.board_plan.specs.declared.notes.StepNote.TheVariants as note
use Rattle.board_plan.specs.declared.plan.BankDecl.{BankDecl}
use Rattle.board_plan.specs.declared.plan.Plan.{Plan}
use Rattle.board_plan.specs.State.{BoardState, bank_plan}
use Rattle.board_plan.specs.Step.{Stepped, step}
use Rattle.board_plan.specs.Run.{Noted, ran}
use Rattle.board_plan.specs.Amend.{is_done}
use Rattle.board_plan.specs.Fates.{Deed, News, has_fate, ExactlyOne, news, errors_made, deeds_of, is_shown, origin_at}
use Rattle.board_plan.specs.Fates.News.{Checks}

-- ---- 1: states change by arrows ----

-- the move that a call makes, by its function
abbrev pub is_move_of : Option Function → Move → Bool
is_move_of (Some functions.Register) moves.Register = true
is_move_of (Some functions.Unregister) moves.Unregister = true
is_move_of (Some functions.Enable) moves.Enable = true
is_move_of (Some functions.Disable) moves.Disable = true
is_move_of (Some functions.Complete) moves.Complete = true
is_move_of (Some functions.Complete) moves.CompleteOnce = true
is_move_of f mv = false

abbrev pub is_delivery : Move → Bool
is_delivery moves.Deliver = true
is_delivery mv = false

-- the moves that a note tells of
abbrev pub makes : StepNote → Move → Bool
makes (note.Deliver id) mv = is_delivery mv
makes (note.Call eid fid args code written) mv = is_success code && is_move_of (function_of fid) mv
makes n mv = false

-- a completion registers a oneshot event and enables any other; all other moves are open to both
abbrev pub fits_mark : Bool → Move → Bool
fits_mark oneshot moves.Complete = not oneshot
fits_mark oneshot moves.CompleteOnce = oneshot
fits_mark oneshot mv = true

-- the instance of a hart's newest handler
abbrev pub newest_of : Option Stack → Option Instance
newest_of None = None
newest_of (Some x) = option_map (λ f. f.at) (slice_get x.frames 0)

-- the instance that a hart's step moves: the one that is delivered, the one that a call names, or that of the handler
-- that is completed
abbrev pub moved_by : ℕ → StepNote → Machine → Option Instance
moved_by h (note.Deliver id) m = Some (instance_of id h)
moved_by h (note.Call eid fid args code written) m =
    if is_done (function_of fid) then newest_of (slice_get m.stacks h)
    else Some (instance_of (slice_index args 0) h)
moved_by h n m = None

abbrev pub moved_in : Step → StepNote → BoardState → Option Instance
moved_in (Hart h) n s = moved_by h n s.machine
moved_in (Reporter r) n s = None

abbrev pub state_of : Instance → BoardState → State
state_of at s = (event at s.machine.events).state

-- an event keeps its state in a step, or follows an arrow: the step's own move, of the instance that the step moves
abbrev pub EachChangeIsAnArrow : Plan → (ℕ → List Act) → BoardState → Type 0
EachChangeIsAnArrow plan acts s =
    (t : Step) (d : Stepped) (at : Instance) → step plan acts t s ≡ Some d
    → (state_of at d.state ≡ state_of at s)
    ⊎ ((mv : Move) × (makes d.note mv ≡ true) × (moved_in t d.note s ≡ Some at)
    × (fits_mark (event at s.machine.events).oneshot mv ≡ true)
    × (arrow (state_of at s) mv ≡ Some (state_of at d.state)))

-- ---- 2: an event runs exactly where it has a frame ----

-- how many frames an instance has, on a hart and on all
abbrev pub frames_on : Instance → Stack → ℕ
frames_on at x = count_by (λ f. same_instance f.at at) x.frames

abbrev pub frames_over_all : Instance → List Stack → ℕ
frames_over_all at stacks = sum_by (frames_on at) stacks

-- these handlers may run on a hart: each is of the instance that its id means there
abbrev pub AreOf : ℕ → List Frame → Type 0
AreOf h [] = Unit {0}
AreOf h (f ∷ fs) = (instance_of (id_of f.at).0 h ≡ f.at) × AreOf h fs

-- one frame over all harts where it runs and none where it doesn't; a local instance's is on its own hart
pub record EachRunsInItsFrame (m : Machine) : Type 0 where
  pub framed : (at : Instance) → frames_over_all at m.stacks ≡ bit (is_running (event at m.events).state)
  pub own : (h : ℕ) (x : Stack) → slice_get m.stacks h ≡ Some x → AreOf h x.frames

-- ---- 3: handlers nest in rising urgency ----

abbrev pub urgency_at : Instance → Events → Urgency
urgency_at at t = ((event at t).priority, id_of at)

abbrev pub is_over : Urgency → Option Urgency → Bool
is_over u None = true
is_over u (Some top) = is_more_urgent u top

-- each handler is strictly more urgent than the one that it interrupted
abbrev pub Rise : Events → List Frame → Type 0
Rise t [] = Unit {0}
Rise t (f ∷ fs) = (is_over (urgency_at f.at t) (top_urgency fs t) ≡ true) × Rise t fs

abbrev pub EachNestRises : Machine → Type 0
EachNestRises m = (h : ℕ) (x : Stack) → slice_get m.stacks h ≡ Some x → Rise m.events x.frames

-- ---- 4: what is chosen comes before the next op ----

abbrev pub is_op : StepNote → Bool
is_op (note.Scan bank rec) = false
is_op (note.Claim bank rec) = false
is_op (note.Read bank rec register) = false
is_op (note.Check bank rec torn) = false
is_op (note.Invalidate bank rec cleared) = false
is_op (note.Signal bank level id) = false
is_op (note.Deliver id) = false
is_op n = true

-- what a hart delivers was chosen for it, and where it makes an op nothing was
pub record IsPrompt (h : ℕ) (m : Machine) (n : StepNote) : Type 0 where
  pub delivers : (id : ℕ) → n ≡ note.Deliver id → option_map (λ at. (id_of at).0) (next_for h (reach h m)) ≡ Some id
  pub executes : is_op n ≡ true → next_for h (reach h m) ≡ None

abbrev pub EachStepIsPrompt : Plan → (ℕ → List Act) → BoardState → Type 0
EachStepIsPrompt plan acts s = (h : ℕ) (d : Stepped) → step plan acts (Hart h) s ≡ Some d → IsPrompt h s.machine d.note

-- ---- 5: what is published is what the record shows ----

-- a Check of a claimed record, and the copy is of the record's registers in the state before it
pub record IsOfItsRecord (plan : Plan) (s : BoardState) (n : StepNote) (p : Published) : Type 0 where
  pub rec : ℕ
  pub origin : Origin
  pub bank : BankState
  pub checks : n ≡ note.Check p.bank rec false
  pub begins : origin_at plan p.bank rec ≡ Some origin
  pub there : slice_get s.banks p.bank ≡ Some bank
  pub claimed : claimed_at origin rec bank.history ≡ true
  pub copy : p.copy ≡ copy_after origin (events_of rec bank.history)

abbrev pub EachCopyIsOfItsRecord : Plan → (ℕ → List Act) → BoardState → Type 0
EachCopyIsOfItsRecord plan acts s =
    (t : Step) (d : Stepped) (p : Published) → step plan acts t s ≡ Some d → d.published ≡ Some p
    → IsOfItsRecord plan s d.note p

-- ---- 6: each error has one fate ----

-- whether a piece of news is a Check that published the error of a step
abbrev pub shows_at : List Deed → ℕ → Option Origin → Bool
shows_at deeds number None = false
shows_at deeds number (Some origin) = is_shown origin deeds number

abbrev pub publishes : Plan → ℕ → News → List News → Bool
publishes plan number (Checks bank rec true) older = shows_at (deeds_of bank rec older) number (origin_at plan bank rec)
publishes plan number n older = false

-- how many Checks published it
abbrev pub times_published : Plan → ℕ → List News → ℕ
times_published plan number [] = 0
times_published plan number (n ∷ older) = bit (publishes plan number n older) + times_published plan number older

-- each error that was made has exactly one fate, and at most one Check published it
pub record EachHasOneFate (plan : Plan) (ns : List News) : Type 0 where
  pub one : (i : ℕ) (e : Error) → slice_get (errors_made ns) i ≡ Some e → ExactlyOne (λ fate. has_fate plan ns fate e)
  pub once : (number : ℕ) → times_published plan number ns ≤ 1

-- ---- Banks of the board ----

-- a bank of the board, as its plan says it and as it is
pub record IsThere (plan : Plan) (s : BoardState) (bank : ℕ) (d : BankDecl) (x : BankState) : Type 0 where
  pub known : slice_get plan.banks bank ≡ Some d
  pub there : slice_get s.banks bank ≡ Some x

abbrev pub origins_of : Plan → ℕ → BankDecl → List Origin
origins_of plan bank d = (bank_plan bank d plan.recs).origins

-- ---- 7: a signalled record's bank asks ----

abbrev pub EachSignalledAsks : Plan → BoardState → Type 0
EachSignalledAsks plan s =
    (bank rec : ℕ) (d : BankDecl) (x : BankState) → IsThere plan s bank d x
    → is_signalled_after (origins_of plan bank d) x.history rec ≡ true → asks (origins_of plan bank d) x.history ≡ true

-- ---- 8: a drain's record stays valid, and its slot holds its own copies ----

-- the phases of a drain that has taken a record and not left it yet
abbrev pub has_record : Phase → Bool
has_record Scan = false
has_record Signal = false
has_record phase = true

-- the phases of a drain that has its next copy still to publish
abbrev pub comes_to_publish : Phase → Bool
comes_to_publish Invalidate = false
comes_to_publish Signal = false
comes_to_publish phase = true

-- the newest so many of what was published, the oldest of them first
abbrev pub newest_copies : ℕ → List Publication → List RecordCopy
newest_copies zero ps = []
newest_copies (suc n) [] = []
newest_copies (suc n) (p ∷ ps) = newest_copies n ps ++ p.copy ∷ []

-- the greatest level of some copies
abbrev pub greatest_level : List RecordCopy → ℕ
greatest_level [] = 0
greatest_level (copy ∷ copies) = max (copy_level copy) (greatest_level copies)

-- a record that is there and valid
pub record IsValidAt (origins : List Origin) (history : List BankEvent) (rec : ℕ) : Type 0 where
  pub origin : Origin
  pub there : slice_get origins rec ≡ Some origin
  pub valid : is_any (errors_at origin rec history) ≡ true

pub record IsDrainSound (origins : List Origin) (gather : ℕ) (x : BankState) (u : Draining) : Type 0 where
  pub record_valid : has_record u.phase ≡ true → IsValidAt origins x.history u.rec
  pub slot : x.slot ≡ newest_copies (length x.slot) x.published
  pub at_most_own : length x.slot ≤ u.count
  pub own : u.count ≤ length x.published
  pub level : u.level ≡ greatest_level (newest_copies u.count x.published)
  pub gathered : u.count ≤ gather
  pub gathers_on : comes_to_publish u.phase ≡ true → u.count < gather

-- the bank that a drain's note names
abbrev pub drained_bank : StepNote → Option ℕ
drained_bank (note.Scan bank rec) = Some bank
drained_bank (note.Claim bank rec) = Some bank
drained_bank (note.Read bank rec register) = Some bank
drained_bank (note.Check bank rec torn) = Some bank
drained_bank (note.Invalidate bank rec cleared) = Some bank
drained_bank (note.Signal bank level id) = Some bank
drained_bank n = None

-- Each drain is sound. The hart that makes its steps is the bank's home, and has no other drain under way. The slot was
-- free when it began.
pub record EachDrainIsSound (plan : Plan) (acts : ℕ → List Act) (s : BoardState) : Type 0 where
  pub sound : (bank : ℕ) (d : BankDecl) (x : BankState) (u : Draining) → IsThere plan s bank d x → x.drain ≡ Some u
      → IsDrainSound (origins_of plan bank d) d.gather x u
  pub home : (h bank : ℕ) (made : Stepped) (d : BankDecl) (x : BankState) → IsThere plan s bank d x
      → step plan acts (Hart h) s ≡ Some made → drained_bank made.note ≡ Some bank → d.home ≡ h
  pub one : (a b : ℕ) (d e : BankDecl) (x y : BankState) (u v : Draining) → IsThere plan s a d x → IsThere plan s b e y
      → x.drain ≡ Some u → y.drain ≡ Some v → d.home ≡ e.home → a ≡ b
  pub begins_free : (h bank : ℕ) (made : Stepped) (d : BankDecl) (x : BankState) → IsThere plan s bank d x
      → step plan acts (Hart h) s ≡ Some made → drained_bank made.note ≡ Some bank → x.drain ≡ None → x.slot ≡ []

-- ---- 9: what is shown and published is about to be invalidated ----

-- it is the newest publication, it stands unchanged, and its drain's next phase is to invalidate it
pub record IsUnderInvalidate (x : BankState) (place : ℕ) (p : Publication) (origin : Origin) : Type 0 where
  pub newest : place ≡ 0
  pub drain : Draining
  pub under_way : x.drain ≡ Some drain
  pub phase : drain.phase ≡ Invalidate
  pub rec : drain.rec ≡ p.rec
  pub unwritten : claimed_at origin p.rec x.history ≡ true

abbrev pub EachShownPublishedIsUnderInvalidate : Plan → BoardState → Type 0
EachShownPublishedIsUnderInvalidate plan s =
    (bank place : ℕ) (d : BankDecl) (x : BankState) (p : Publication) (e : Error) (origin : Origin)
    → IsThere plan s bank d x → slice_get x.published place ≡ Some p → p.shown ≡ Some e →
    slice_get (origins_of plan bank d) p.rec ≡ Some origin
    → shown (errors_at origin p.rec x.history) ≡ Some e → IsUnderInvalidate x place p origin

-- ---- All nine ----

pub record IsSoundAt (plan : Plan) (acts : ℕ → List Act) (s : BoardState) (ns : List Noted) : Type 0 where
  pub arrows : EachChangeIsAnArrow plan acts s
  pub frames : EachRunsInItsFrame s.machine
  pub nests : EachNestRises s.machine
  pub prompt : EachStepIsPrompt plan acts s
  pub copies : EachCopyIsOfItsRecord plan acts s
  pub fates : EachHasOneFate plan (news ns)
  pub asking : EachSignalledAsks plan s
  pub drains : EachDrainIsSound plan acts s
  pub published : EachShownPublishedIsUnderInvalidate plan s

-- at each state of the run over these tries
abbrev pub IsSound : Plan → (ℕ → List Act) → List Step → Type 0
IsSound plan acts tries =
    (before after : List Step) → tries ≡ before ++ after
    → IsSoundAt plan acts (ran plan acts before).state (ran plan acts before).notes
