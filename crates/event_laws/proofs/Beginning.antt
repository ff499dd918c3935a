-- The machine at its start keeps what it is to keep, so it does in every run.
use Rattle.std.proofs.Common.{◌≡◌, ℕ, zero, suc, ◌+◌, ◌<◌, true, false, List, [], ◌∷◌, ◌++◌, length, map, slice_get, Some, refl, sym, ap, ◌∙◌, subst, inl, inr, arith}
use Rattle.std.specs.List.{flat_map, range_with_len}
use Rattle.std.proofs.lemmas.Bool.{cases_Bool, eqb-true}
use Rattle.std.proofs.lemmas.List.{length-map}
use Rattle.std.proofs.lemmas.Option.{none-some, same_Some}
use Rattle.sse_base.specs.declared.ids.EventId.{EventId}
use Rattle.sse_base.specs.declared.ids.Instance.{Instance}
use Rattle.sse_base.specs.declared.ids.Instance.TheVariants.{Local, Global}
use Rattle.sse_base.specs.declared.events.EventDecl.{EventDecl}
use Rattle.sse_base.specs.Ids.{id_of, in_order, instance_of, instances_of_event, is_global, may_run_on, on_harts, place, same_instance}
use Rattle.sse_base.specs.Contexts.{Stack, fresh_stack}
use Rattle.sse_base.specs.Events.{Events}
use Rattle.sse_base.proofs.Instances.{same_is}
use Rattle.sbi_sse.proofs.Fresh.{fresh_kept, fresh_serves}
use Rattle.ras_device.specs.declared.act.Act.{Act}
use Rattle.board_plan.specs.declared.notes.Step.{Step}
use Rattle.board_plan.specs.declared.plan.Plan.{Plan}
use Rattle.board_plan.specs.Plans.{IsPlan}
use Rattle.board_plan.specs.Run.{ran}
use Rattle.board_plan.specs.Sound.{Rise}
use Rattle.board_plan.specs.State.{BoardState, start_of, start_places, start_state}
use Rattle.event_laws.proofs.Runs.{each_state}
use Rattle.event_laws.proofs.Standing.{AreProper, Keeps, step_keeps}

-- ---- Instances are proper ----

record IsProper (x : Instance) : Type 0 where
  meant : (h : ℕ) → may_run_on h x ≡ true → instance_of (id_of x).0 h ≡ x

abbrev AllProper : List Instance → Type 0
AllProper [] = Unit {0}
AllProper (x ∷ xs) = IsProper x × AllProper xs

all_append : (xs ys : List Instance) → AllProper xs → AllProper ys → AllProper (xs ++ ys)
all_append [] ys p q = q
all_append (x ∷ xs) ys p q = (p.0, all_append xs ys p.1 q)

local_proper : (id : EventId) (k : ℕ) → is_global id.0 ≡ false → IsProper (Local id k)
local_proper id k own =
    record { meant = λ h here. rw own (ap (λ (j : ℕ). Local id j) (sym (eqb-true k h here))) }

harts_proper : (id : EventId) (n : ℕ) → is_global id.0 ≡ false → AllProper (on_harts id n)
harts_proper id zero own = tt
harts_proper id (suc n) own =
    all_append (on_harts id n) (Local id n ∷ []) (harts_proper id n own) (local_proper id n own, tt)

event_proper : (n : ℕ) (id : EventId) → AllProper (instances_of_event n id)
event_proper n id =
    elim (cases_Bool (is_global id.0)) [
      | inl whole ↦
          let one : IsProper (Global id) = record { meant = λ h here. rw whole refl } in
          rw whole (one, tt)
      | inr own ↦ rw own (harts_proper id n own)
    ]

all_proper : (n : ℕ) (ds : List EventDecl) → AllProper (flat_map (λ d. instances_of_event n d.id) ds)
all_proper n [] = tt
all_proper n (d ∷ ds) =
    all_append (instances_of_event n d.id) (flat_map (λ e. instances_of_event n e.id) ds) (event_proper n d.id)
    (all_proper n ds)

placed_proper : (xs : List Instance) (x : Instance) → AllProper xs → place x xs < length xs → IsProper x
placed_proper [] x all low = absurd (omega arith)
placed_proper (y ∷ xs) x all low =
    elim (cases_Bool (same_instance y x)) [
      | inl same ↦ subst IsProper (same_is y x same) all.0
      | inr other ↦
          let further : place x (y ∷ xs) ≡ suc (place x xs) = rw other refl in
          placed_proper xs x all.1 (omega (arith, further))
    ]

start_proper : (n : ℕ) (ds : List EventDecl) → AreProper (flat_map (λ d. instances_of_event n d.id) (in_order ds))
start_proper n ds =
    record {
      meant = λ h x low here. (placed_proper _ x (all_proper n (in_order ds)) low).meant h here;
    }

-- ---- Nothing runs ----

no_handlers : (t : Events) (starts : List ℕ) (h : ℕ) (x : Stack) → slice_get (map fresh_stack starts) h ≡ Some x
    → Rise t x.frames
no_handlers t [] h x there = absurd (none-some x there)
no_handlers t (pc ∷ starts) zero x there =
    subst (λ (z : Stack). Rise t z.frames) (same_Some (fresh_stack pc) x there) tt
no_handlers t (pc ∷ starts) (suc h) x there = no_handlers t starts h x there

length-range : (at n : ℕ) → length (range_with_len at n) ≡ n
length-range at zero = refl
length-range at (suc n) = ap suc (length-range (at + 1) n)

pub start_keeps : (plan : Plan) → IsPlan plan → Keeps (start_state plan).machine
start_keeps plan p =
    let places = start_places plan.harts plan.starts in
    let as_many : length places ≡ plan.harts =
    length-map (range_with_len 0 plan.harts) (λ (h : ℕ). start_of h plan.starts) ∙ length-range 0 plan.harts in
    record {
      kept = fresh_kept plan.harts plan.events places p.few_events p.distinct as_many;
      marks = (fresh_serves plan.harts plan.events p.few_events p.distinct).marks;
      proper = start_proper plan.harts plan.events;
      nests = λ h x there. no_handlers (start_state plan).machine.events places h x there;
    }

-- ---- In every run ----

pub run_keeps_machine : (plan : Plan) (acts : ℕ → List Act) (tries : List Step) → IsPlan plan
    → Keeps (ran plan acts tries).state.machine
run_keeps_machine plan acts tries p =
    each_state plan acts (λ (s : BoardState). Keeps s.machine) (start_keeps plan p)
    (record { keeps = λ t s d is k. step_keeps plan acts t s d is k }) tries
