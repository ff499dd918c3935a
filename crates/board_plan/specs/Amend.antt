-- What becomes of an interrupted context while its handler runs: told from the notes of the hart's own steps alone. SBI
-- 3.0, "Supervisor Software Events": a completion goes on with the interrupted context, as sepc, sstatus and the
-- INTERRUPTED attributes have it. Which writes amend it, and where, is said here in this project's own words. Nothing
-- here reads a register, an attribute or a frame.
use Rattle.std.specs.Prelude.{◌≡◌, ℕ, suc, ◌==◌, ◌&&◌, not, Bool, true, false, if◌then◌else◌, List, [], ◌∷◌, map, take, drop, filter, length, slice_get, slice_index, Option, Some, None}
use Rattle.sse_base.specs.declared.contexts.Privilege.TheVariants.{User}
use Rattle.sse_base.specs.Ids.{id_of, instance_of}
use Rattle.sse_base.specs.declared.functions.Function.{Function}
use Rattle.sse_base.specs.declared.functions.Function.TheVariants as functions
use Rattle.sse_base.specs.Codes.{is_success}
use Rattle.sse_base.specs.Functions.{function_of}
use Rattle.sse_base.specs.Contexts.{Context, Frame, Stack, triple_of, with_triple, privilege_at}
use Rattle.sse_base.specs.Calls.{extension, with_interrupted_triple, with_interrupted_words}
use Rattle.ras_device.specs.declared.act.Act.{Act}
use Rattle.board_plan.specs.declared.notes.Step.{Step}
use Rattle.board_plan.specs.declared.notes.Step.TheVariants.{Hart, Reporter}
use Rattle.board_plan.specs.declared.notes.StepNote.{StepNote}
use Rattle.board_plan.specs.declared.notes.StepNote.TheVariants as note
use Rattle.board_plan.specs.declared.ops.Reg.{Reg}
use Rattle.board_plan.specs.declared.ops.Reg.TheVariants.{Sepc, Spp, Spie}
use Rattle.board_plan.specs.declared.plan.Plan.{Plan}
use Rattle.board_plan.specs.State.{BoardState}
use Rattle.board_plan.specs.Ops.{is_odd}
use Rattle.board_plan.specs.Step.{Stepped, step}
use Rattle.board_plan.specs.Run.{Noted, run, notes, ran}
use Rattle.board_plan.specs.Notes.{is_accepted_write}

-- ---- The notes of a hart, and the ids of its handlers ----

abbrev pub is_by : ℕ → Step → Bool
is_by h (Hart k) = k == h
is_by h (Reporter r) = false

abbrev pub own_notes : ℕ → List Noted → List StepNote
own_notes h ns = map (λ n. n.note) (filter (λ n. is_by h n.by) ns)

abbrev pub is_done : Option Function → Bool
is_done (Some functions.Complete) = true
is_done f = false

-- an accepted complete
abbrev pub is_complete : StepNote → Bool
is_complete (note.Call eid fid args code written) = (eid == extension) && is_done (function_of fid) && is_success code
is_complete n = false

-- the ids of handlers, the newest first
abbrev pub ids_of : List Frame → List ℕ
ids_of frames = map (λ f. (id_of f.at).0) frames

-- as notes tell them: a delivery adds its id, a completion takes the newest away
abbrev pub ids_with : StepNote → List ℕ → List ℕ
ids_with (note.Deliver id) ids = id ∷ ids
ids_with n ids = if is_complete n then drop 1 ids else ids

abbrev pub ids_after : List ℕ → List StepNote → List ℕ
ids_after ids [] = ids
ids_after ids (n ∷ ns) = ids_after (ids_with n ids) ns

-- what stands at a depth, in a list that has the newest first: the oldest is at depth 1
abbrev pub at_depth : {A : Type 0} → ℕ → List A → Option A
at_depth d [] = None
at_depth d (x ∷ xs) = if length (x ∷ xs) == d then Some x else at_depth d xs

-- ---- What a note makes of the context under the handler of a depth ----

-- what the handler writes to one of its return registers: the context's pc, privilege or sie
abbrev pub with_register : Reg → ℕ → Context → Context
with_register Sepc value k = record k { pc = value }
with_register Spp value k = record k { privilege = privilege_at (is_odd value) }
with_register Spie value k = record k { sie = is_odd value }
with_register reg value k = k

-- `sret` by that handler
abbrev pub after_sret : Context → Context
after_sret k = record k { privilege = User; sie = true }

abbrev pub is_id : ℕ → Option ℕ → Bool
is_id id None = false
is_id id (Some other) = other == id

-- An accepted write_attrs: attributes 8 and 9 of the event at the depth are the context's a6 and a7. Attributes 6 and 7
-- of the event one depth above are its pc, and its privilege and sie.
abbrev pub written_own : ℕ → ℕ → List ℕ → ℕ → List ℕ → Context → Context
written_own id base words d ids k = if is_id id (at_depth d ids) then with_interrupted_words base words k else k

abbrev pub written_below : ℕ → ℕ → List ℕ → ℕ → List ℕ → Context → Context
written_below id base words d ids k =
    if is_id id (at_depth (suc d) ids) then with_triple (with_interrupted_triple base words (triple_of k)) k else k

abbrev pub written_by : List ℕ → List ℕ → ℕ → List ℕ → Context → Context
written_by args written d ids k =
    let words = take (slice_index args 2) written in
    written_below (slice_index args 0) (slice_index args 1) words d ids
    (written_own (slice_index args 0) (slice_index args 1) words d ids k)

-- where handlers of these ids run
abbrev pub amend_by : StepNote → ℕ → List ℕ → Context → Context
amend_by (note.Set reg value) d ids k = if length ids == d then with_register reg value k else k
amend_by (note.Load reg value) d ids k = if length ids == d then with_register reg value k else k
amend_by note.Sret d ids k = if length ids == d then after_sret k else k
amend_by (note.Call eid fid args code written) d ids k =
    if is_accepted_write eid fid args code then written_by args written d ids k else k
amend_by n d ids k = k

-- the context after some notes, the oldest note first
abbrev pub amend : ℕ → List ℕ → Context → List StepNote → Context
amend d ids k [] = k
amend d ids k (n ∷ ns) = amend d (ids_with n ids) (amend_by n d ids k) ns

-- ---- Deliveries and their completions ----

-- the completion of the handler at a depth
abbrev pub completes : StepNote → ℕ → List ℕ → Bool
completes n d ids = is_complete n && (length ids == d)

-- no note completes it
abbrev pub is_open : ℕ → List ℕ → List StepNote → Bool
is_open d ids [] = true
is_open d ids (n ∷ ns) = not (completes n d ids) && is_open d (ids_with n ids) ns

-- A delivery of an event on a hart after some tries: the hart's stack before it, and what it leads to.
pub record Delivery (plan : Plan) (acts : ℕ → List Act) (h : ℕ) : Type 0 where
  pub older : List Step
  pub stack : Stack
  pub id : ℕ
  pub made : Stepped
  pub before : slice_get (ran plan acts older).state.machine.stacks h ≡ Some stack
  pub delivers : step plan acts (Hart h) (ran plan acts older).state ≡ Some made
  pub note : made.note ≡ note.Deliver id

module _ {plan : Plan} {acts : ℕ → List Act} {h : ℕ} where
  -- the depth of its handler, and the ids of the handlers that run then
  abbrev pub depth : Delivery plan acts h → ℕ
  depth b = suc (length b.stack.frames)

  abbrev pub ids : Delivery plan acts h → List ℕ
  ids b = b.id ∷ ids_of b.stack.frames

  -- the hart's own notes over further tries, and the state after them
  abbrev pub notes_since : Delivery plan acts h → List Step → List StepNote
  notes_since b tries = own_notes h (notes plan acts b.made.state tries)

  abbrev pub state_since : Delivery plan acts h → List Step → BoardState
  state_since b tries = run plan acts b.made.state tries

  -- the handler still runs after them
  abbrev pub StillRuns : Delivery plan acts h → List Step → Type 0
  StillRuns b tries = is_open (depth b) (ids b) (notes_since b tries) ≡ true

  -- the context that was live before the delivery, amended by those notes
  abbrev pub amended : Delivery plan acts h → List Step → Context
  amended b tries = amend (depth b) (ids b) b.stack.live (notes_since b tries)

-- while a handler runs, the context that it interrupted is saved as it was amended so far
abbrev pub EachFrameIsAmended : Plan → (ℕ → List Act) → Type 0
EachFrameIsAmended plan acts =
    (h : ℕ) (b : Delivery plan acts h) (tries : List Step) (y : Stack) → StillRuns b tries
    → slice_get (state_since b tries).machine.stacks h ≡ Some y
    → at_depth (depth b) y.frames ≡ Some (record { at = instance_of b.id h; saved = amended b tries })

-- right after its completion that context is live
abbrev pub EachCompletionRestores : Plan → (ℕ → List Act) → Type 0
EachCompletionRestores plan acts =
    (h : ℕ) (b : Delivery plan acts h) (tries : List Step) (e : Stepped) (z : Stack) → StillRuns b tries
    → step plan acts (Hart h) (state_since b tries) ≡ Some e
    → completes e.note (depth b) (ids_after (ids b) (notes_since b tries)) ≡ true
    → slice_get e.state.machine.stacks h ≡ Some z → z.live ≡ amended b tries

-- The triple below all handlers is (0, 0, 0), amended at depth 0. It has no a6 and a7, so those of the context don't
-- count.
abbrev pub EachBaseIsAmended : Plan → (ℕ → List Act) → Type 0
EachBaseIsAmended plan acts =
    (tries : List Step) (h : ℕ) (y : Stack) (k : Context)
    → slice_get (ran plan acts tries).state.machine.stacks h ≡ Some y
    → triple_of k ≡ record { sepc = 0; spp = User; spie = false }
    → y.base ≡ triple_of (amend 0 [] k (own_notes h (ran plan acts tries).notes))

-- the handlers of a hart are those that its notes tell
abbrev pub EachStackIsTold : Plan → (ℕ → List Act) → Type 0
EachStackIsTold plan acts =
    (tries : List Step) (h : ℕ) (y : Stack) → slice_get (ran plan acts tries).state.machine.stacks h ≡ Some y
    → ids_of y.frames ≡ ids_after [] (own_notes h (ran plan acts tries).notes)

pub record IsAmended (plan : Plan) (acts : ℕ → List Act) : Type 0 where
  pub frames : EachFrameIsAmended plan acts
  pub completions : EachCompletionRestores plan acts
  pub bases : EachBaseIsAmended plan acts
  pub stacks : EachStackIsTold plan acts
