-- What a step makes of a hart's handlers, as the hart's notes tell it, and what a run makes of them.
use Rattle.std.proofs.Common.{◌≡◌, ℕ, ◌≤◌, Bool, true, false, List, [], ◌∷◌, length, get_or, slice_get, Option, Some, refl, sym, ap, ◌∙◌, subst, arith}
use Rattle.std.specs.Prelude.{slice_index}
use Rattle.std.proofs.lemmas.Bool.{true≢false}
use Rattle.std.proofs.lemmas.Option.{slice_get_within, get_or_from_slice_get}
use Rattle.sse_base.specs.declared.functions.Function.{Function}
use Rattle.sse_base.specs.declared.functions.Function.TheVariants as functions
use Rattle.sse_base.specs.declared.arrows.Move.{Move}
use Rattle.sse_base.specs.declared.ids.Instance.{Instance}
use Rattle.sse_base.specs.Ids.{id_of, instance_of}
use Rattle.sse_base.specs.Functions.{function_of}
use Rattle.sse_base.specs.Events.{event, is_running}
use Rattle.sse_base.specs.Contexts.{Frame, Stack, bit, complete, with_pc}
use Rattle.sse_base.specs.Machine.{Machine, Reach}
use Rattle.sse_base.specs.Choice.{next_for}
use Rattle.sse_base.specs.declared.codes.SbiCode.{SbiCode}
use Rattle.sse_base.specs.declared.codes.SbiCode.TheVariants.{Success}
use Rattle.sse_base.specs.Calls.{Answer, complete_newest, delivered, no_words, padded, with_interrupted}
use Rattle.board_plan.specs.declared.notes.StepNote.{StepNote}
use Rattle.board_plan.specs.declared.notes.StepNote.TheVariants as note
use Rattle.board_plan.specs.declared.plan.Plan.{Plan}
use Rattle.board_plan.specs.Ops.{past, register, returned, set_register}
use Rattle.board_plan.specs.Step.{event_signalled}
use Rattle.board_plan.specs.Sound.{AreOf, is_move_of}
use Rattle.board_plan.specs.Amend.{is_done}
use Rattle.sbi_sse.specs.Kept.{times, ats}
use Rattle.sbi_sse.proofs.Counting.{part_of_running}
use Rattle.event_laws.proofs.Calls.{CallCases, call_cases}
use Rattle.event_laws.proofs.Framing.{frames_at}
use Rattle.event_laws.proofs.Outcomes.{StepCases, is_drains, is_plain}
use Rattle.event_laws.proofs.Standing.{Keeps}
use Rattle.context_laws.proofs.Amending.{Amends, IsQuiet, amends_quiet, amends_delivery}
use Rattle.context_laws.proofs.Ops.{plain_quiet, drains_quiet, amends_set, amends_load, amends_sret}
use Rattle.context_laws.proofs.Writing.{is_write, refused_quiet, other_quiet, completion, amends_complete, words_many, amends_write}

-- ---- A hart's step ----

-- what a hart's own step makes of its stack: its note tells of it, and a delivery saves what was live
pub record Tells (h : ℕ) (n : StepNote) (x y : Stack) : Type 0 where
  pub amends : Amends n x.frames x.base y
  pub begins : (id : ℕ) → n ≡ note.Deliver id → y.frames ≡ record { at = instance_of id h; saved = x.live } ∷ x.frames

-- a step that delivers nothing
only : (h : ℕ) (n : StepNote) (x y : Stack) → Amends n x.frames x.base y → ((id : ℕ) → n ≡ note.Deliver id → ⊥)
    → Tells h n x y
only h n x y a never = record { amends = a; begins = λ id is. absurd (never id is) }

plain_begins_nothing : (n : StepNote) (id : ℕ) → is_plain n ≡ true → n ≡ note.Deliver id → ⊥
plain_begins_nothing n id plain is = true≢false (sym plain ∙ ap is_plain is)

drains_begin_nothing : (n : StepNote) (id : ℕ) → is_drains n ≡ true → n ≡ note.Deliver id → ⊥
drains_begin_nothing n id drains is = true≢false (sym drains ∙ ap is_drains is)

-- the function of a move isn't to write
moves_nothing_written : (o : Option Function) (mv : Move) → is_move_of o mv ≡ true → is_write o ≡ false
moves_nothing_written (Some functions.WriteAttrs) mv e = absurd (true≢false (sym e))
moves_nothing_written o mv e = refl

-- what a hart's handlers are, by what the machine keeps: each of its instance on this hart, and none of them twice
pub record AreTidy (h : ℕ) (fs : List Frame) : Type 0 where
  pub of_hart : AreOf h fs
  pub once : (at : Instance) → times at (ats fs) ≤ 1

pub frames_tidy : (m : Machine) (h : ℕ) (x : Stack) → Keeps m → slice_get m.stacks h ≡ Some x → AreTidy h x.frames
frames_tidy m h x k there =
    record {
      of_hart = (frames_at m k).own h x there;
      once = λ at.
          let same : times at (ats (get_or m.stacks h x).frames) ≡ times at (ats x.frames) =
          ap (λ (z : Stack). times at (ats z.frames)) (get_or_from_slice_get m.stacks h x x there) in
          omega (
            arith,
            same,
            part_of_running at m.stacks h x (slice_get_within m.stacks h x there),
            k.kept.framed at,
            bit_small (is_running (event at m.events).state),
          );
    }
  where
    bit_small : (b : Bool) → bit b ≤ 1
    bit_small true = omega arith
    bit_small false = omega arith

-- a completion leaves the hart's stack without its newest handler, or as it is where there is none
complete_is : (r : Reach) → (complete_newest r).stack ≡ complete r.stack
complete_is r = go r.stack.frames
  where
    go : (fs : List Frame)
        → (complete_newest (record r { stack = record r.stack { frames = fs } })).stack
        ≡ complete (record r.stack { frames = fs })
    go [] = refl
    go (f ∷ fs) = refl

delivered_id : (a b : ℕ) → note.Deliver a ≡ note.Deliver b → a ≡ b
delivered_id a b e = cc

module _ (h : ℕ) (r : Reach) (tidy : AreTidy h r.stack.frames) (size : length r.memory ≡ 512) where
  quietly : (y : Stack) (n : StepNote) → IsQuiet n → ((id : ℕ) → n ≡ note.Deliver id → ⊥)
      → y.frames ≡ r.stack.frames → y.base ≡ r.stack.base → Tells h n r.stack y
  quietly y n quiet never frames base =
      only h n r.stack y (amends_quiet n r.stack.frames r.stack.base y quiet frames base) never

  -- the hart past its op
  abbrev next : Stack
  next = (past r).stack

  -- a call of another function than those that complete and write
  other : (eid fid : ℕ) (args : List ℕ) (code : SbiCode) (written : List ℕ) (o : Option Function)
      → function_of fid ≡ o → is_done o ≡ false → is_write o ≡ false
      → Tells h (note.Call eid fid args code written) r.stack next
  other eid fid args code written o is done write =
      quietly next (note.Call eid fid args code written)
      (other_quiet eid fid args code written (ap is_done is ∙ done) (ap is_write is ∙ write)) (λ id e. cc) refl refl

  calls : (eid fid : ℕ) (args : List ℕ) → CallCases h eid (function_of fid) args (past r)
      (λ (a : Answer). Tells h (note.Call eid fid args a.code a.written) r.stack a.reach.stack)
  calls eid fid args =
      record {
        refuses = λ code bad.
            quietly next (note.Call eid fid args code no_words) (refused_quiet eid fid args code no_words bad)
            (λ id e. cc) refl refl;
        reads = λ memory is. other eid fid args Success no_words (Some functions.ReadAttrs) is refl refl;
        writes = λ at base words same is named write.
            (let many : length words ≡ slice_index args 2 =
            ap length write.words_are
            ∙ words_many r.memory (slice_index args 3) (slice_index args 2) size write.in_memory in
            only h (note.Call eid fid args Success (padded words)) r.stack (with_interrupted base words at next)
            (rw (named.is, write.base_is)
            (amends_write h eid fid args words same is many (omega (arith, write.within)) next tidy.of_hart
            (tidy.once (instance_of (slice_index args 0) h))))
            (λ id e. cc));
        makes_move = λ at mv state new named move is.
            other eid fid args Success no_words (function_of fid) refl move.no_completion
            (moves_nothing_written (function_of fid) mv move.of_call);
        completes = λ same is.
            only h (note.Call eid fid args Success no_words) r.stack (complete_newest (past r)).stack
            (subst (Amends (note.Call eid fid args Success no_words) r.stack.frames r.stack.base)
            (sym (complete_is (past r)))
            (amends_complete (note.Call eid fid args Success no_words) next (completion eid fid args no_words same is)))
            (λ id e. cc);
        injects = λ at is named. other eid fid args Success no_words (Some functions.Inject) is refl refl;
        unmasks = λ is. other eid fid args Success no_words (Some functions.HartUnmask) is refl refl;
        masks = λ is. other eid fid args Success no_words (Some functions.HartMask) is refl refl;
      }

  -- any step of the hart, where what is delivered is the instance that its id means there
  pub hart_tells : (plan : Plan) (stacks : List Stack)
      → ((at : Instance) → next_for h r ≡ Some at → instance_of (id_of at).0 h ≡ at) → StepCases h plan stacks r
      (λ (q : Reach) (n : StepNote). Tells h n r.stack q.stack)
  hart_tells plan stacks means =
      record {
        drains = λ n drains.
            quietly r.stack n (drains_quiet n drains) (λ id e. drains_begin_nothing n id drains e) refl refl;
        signals = λ bank level d known.
            quietly r.stack (note.Signal bank level (event_signalled d r.events level))
            (record { ids = λ is. refl; amends = λ e is k. refl; no_completion = refl }) (λ id e. cc) refl refl;
        delivers = λ at chosen.
            record {
              amends = amends_delivery at r.stack.live r.stack.frames r.stack.base (delivered h at r).stack refl refl;
              begins = λ id e.
                  ap (λ (x : Instance). record { at = x; saved = r.stack.live } ∷ r.stack.frames)
                  (sym (means at chosen) ∙ ap (λ i. instance_of i h) (delivered_id (id_of at).0 id e));
            };
        executes = λ none. record {
          plain = λ n pc memory plain.
              quietly (with_pc pc next) n (plain_quiet n plain) (λ id e. plain_begins_nothing n id plain e) refl refl;
          sets = λ reg value.
              only h (note.Set reg value) r.stack (set_register reg value next) (amends_set reg value next)
              (λ id e. cc);
          loads = λ reg word.
              (let s = set_register reg word next in
              only h (note.Load reg (register reg s)) r.stack s (amends_load reg word next) (λ id e. cc));
          srets = only h note.Sret r.stack (returned next) (amends_sret next) (λ id e. cc);
          calls = λ eid fid args.
              call_cases (λ (a : Answer). Tells h (note.Call eid fid args a.code a.written) r.stack a.reach.stack) h eid
              fid args stacks (past r) (calls eid fid args);
        };
      }
