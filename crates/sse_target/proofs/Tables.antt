-- The queues of a table of which one instance changes, and of a fresh one.
use Rattle.std.proofs.Common.{◌≡◌, ℕ, zero, suc, ◌<◌, Bool, true, false, cond, List, [], ◌∷◌, ◌++◌, length, get_or, set, map, refl, ap, sym, ◌∙◌, subst, arith, inl, inr}
use Rattle.std.specs.Prelude.{◌&&◌, filter}
use Rattle.std.proofs.lemmas.Bool.{cases_Bool, both_ways, false_from_ne_true}
use Rattle.std.proofs.lemmas.List.{get_or-replicate, length-replicate, get_or-set_same, set-get_or}
use Rattle.sse_base.specs.declared.ids.Instance.{Instance}
use Rattle.sse_base.specs.declared.events.Event.{Event}
use Rattle.sse_base.specs.declared.events.Slot.{Slot}
use Rattle.sse_base.specs.Ids.{place, may_run_on, FitsHarts}
use Rattle.sse_base.specs.Events.{Events, event, is_pending, is_enabled, fresh_event, IsOnBoard, joined, slots}
use Rattle.sse_base.specs.Choice.{target, is_hart, waits_for}
use Rattle.sse_base.proofs.Instances.{at_its_place, target_may_run}
use Rattle.sse_queue.specs.declared.urgency.Waiting.{Waiting}
use Rattle.sse_queue.specs.Order.{without}
use Rattle.sse_target.specs.Lines.{Lines, Holds, HoldsBut, line_for, lined_up, queue_at, fresh_lines}
use Rattle.sse_target.specs.Steps.{put_if}
use Rattle.sse_target.proofs.Entries.{Entry, entry, entries, entries-append, lined, lone, by_slots}
use Rattle.sse_target.proofs.Fits.{Few, few_slots, others}
use Rattle.sse_target.proofs.Waits.{waits_is_target}

-- the table with another event, and another mark, for one instance
abbrev pub put : Instance → Event → Bool → Events → Events
put at e b t =
    record {
      harts = t.harts;
      instances = t.instances;
      each = set t.each (place at t.instances) e;
      marks = set t.marks (place at t.instances) b;
    }

-- the slots before an instance's place and behind it
pub record Splits (is : List Instance) (es : List Event) (bs : List Bool) (i : ℕ) (at : Instance) : Type 0 where
  pub front : List Slot
  pub back : List Slot
  pub all : (e : Event) (b : Bool) → joined is (set es i e) (set bs i b) ≡ front ++ record {
    at = at;
    event = e;
    pending = b;
  } ∷ back

split : (is : List Instance) (es : List Event) (bs : List Bool) (i : ℕ) (at : Instance) → i < length is
    → i < length es → i < length bs →
    get_or is i at ≡ at → Splits is es bs i at
split [] es bs i at k l m p = absurd (omega arith)
split (x ∷ is) [] bs i at k l m p = absurd (omega arith)
split (x ∷ is) (y ∷ es) [] i at k l m p = absurd (omega arith)
split (x ∷ is) (y ∷ es) (z ∷ bs) zero at k l m p =
    record {
      front = [];
      back = joined is es bs;
      all = λ e b. ap (λ (w : Instance). record { at = w; event = e; pending = b } ∷ joined is es bs) p;
    }
split (x ∷ is) (y ∷ es) (z ∷ bs) (suc i) at k l m p =
    let rest = split is es bs i at (omega arith) (omega arith) (omega arith) p
    in record {
      front = record { at = x; event = y; pending = z } ∷ rest.front;
      back = rest.back;
      all = λ e b. ap (λ ss. record { at = x; event = y; pending = z } ∷ ss) (rest.all e b);
    }

abbrev slot_with : Instance → Event → Bool → Slot
slot_with at e b = record { at = at; event = e; pending = b }

-- what a table needs to be changed at an instance: it is there, with an event and a mark
pub record IsKeptIn (at : Instance) (t : Events) : Type 0 where
  pub on_board : IsOnBoard at t
  pub each : length t.each ≡ length t.instances
  pub marks : length t.marks ≡ length t.instances

split_of : (at : Instance) (t : Events) → IsKeptIn at t → Splits t.instances t.each t.marks (place at t.instances) at
split_of at t k =
    let on : place at t.instances < length t.instances = k.on_board
    in split t.instances t.each t.marks (place at t.instances) at on (omega (arith, k.each)) (omega (arith, k.marks))
    (at_its_place at t.instances at on)

own_slots : (at : Instance) (t : Events) (p : Splits t.instances t.each t.marks (place at t.instances) at) →
    slots t ≡ p.front ++ slot_with at (event at t) (is_pending at t) ∷ p.back
own_slots at t p =
    let i = place at t.instances
    in ap (λ es. joined t.instances es t.marks) (sym (set-get_or t.each i (fresh_event false 0)))
    ∙ ap (λ bs. joined t.instances (set t.each i (event at t)) bs) (sym (set-get_or t.marks i false))
    ∙ p.all (event at t) (is_pending at t)

-- one instance that doesn't wait
idle : (ps qs : List Entry) (e : Entry) → e.waits ≡ false → lined (ps ++ e ∷ qs) ≡ lined (ps ++ qs)
idle [] qs e w = ap (λ b. put_if b e.one (lined qs)) w
idle (p ∷ ps) qs e w = ap (put_if p.waits p.one) (idle ps qs e w)

abbrev line : ℕ → List Bool → List Slot → List Waiting
line h masks ss = lined_up (filter (waits_for h masks) ss)

line_split : (h : ℕ) (masks : List Bool) (front back : List Slot) (s : Slot) →
    line h masks (front ++ s ∷ back) ≡ lined (entries h masks front ++ entry h masks s ∷ entries h masks back)
line_split h masks front back s = by_slots h masks (front ++ s ∷ back)
    ∙ ap lined (entries-append h masks front (s ∷ back))

same_elsewhere : (h : ℕ) (masks : List Bool) (front back : List Slot) (s u : Slot) → waits_for h masks s ≡ false
    → waits_for h masks u ≡ false →
    line h masks (front ++ s ∷ back) ≡ line h masks (front ++ u ∷ back)
same_elsewhere h masks front back s u x y =
    line_split h masks front back s
    ∙ idle (entries h masks front) (entries h masks back) (entry h masks s) x
    ∙ sym (line_split h masks front back u ∙ idle (entries h masks front) (entries h masks back) (entry h masks u) y)

same_without : (h : ℕ) (masks : List Bool) (front back : List Slot) (at : Instance) (d e : Event) (a b : Bool) →
    Few (front ++ slot_with at d a ∷ back) → may_run_on h at ≡ true →
    without at (line h masks (front ++ slot_with at d a ∷ back))
    ≡ without at (line h masks (front ++ slot_with at e b ∷ back))
same_without h masks front back at d e a b few r =
    let none = (others h masks masks front back (slot_with at d a) few r).0
    in ap (without at) (line_split h masks front back (slot_with at d a))
    ∙ lone (entries h masks front) (entries h masks back) (entry h masks (slot_with at d a)) none
    ∙ sym (ap (without at) (line_split h masks front back (slot_with at e b))
    ∙ lone (entries h masks front) (entries h masks back) (entry h masks (slot_with at e b)) none)

event_put : (at : Instance) (e : Event) (b : Bool) (t : Events) → IsKeptIn at t → event at (put at e b t) ≡ e
event_put at e b t k =
    get_or-set_same t.each (place at t.instances) e (fresh_event false 0) (omega (arith, k.on_board, k.each))

-- a hart waits for it only where it is delivered, before and after
abbrev pub Prefers : Instance → Event → List Bool → Events → Type 0
Prefers at e masks t =
    (h : ℕ) → is_hart h (target at e.preferred masks) ≡ false → waits_for h masks (record {
      at = at;
      event = event at t;
      pending = is_pending at t;
    }) ≡ false

not_there : (h : ℕ) (masks : List Bool) (s : Slot) → is_hart h (target s.at s.event.preferred masks) ≡ false
    → waits_for h masks s ≡ false
not_there h masks s y =
    false_from_ne_true (waits_for h masks s) (λ z. both_ways (is_hart h (target s.at s.event.preferred masks)) y
    (waits_is_target h masks s z))

pub same_preferred : (at : Instance) (e : Event) (masks : List Bool) (t : Events)
    → e.preferred ≡ (event at t).preferred → Prefers at e masks t
same_preferred at e masks t p h y =
    not_there h masks (slot_with at (event at t) (is_pending at t)) (sym (ap (λ n. is_hart h (target at n masks)) p)
    ∙ y)

pub but_one : (at : Instance) (e : Event) (b : Bool) (l : Lines) (t : Events) → FitsHarts t.instances → IsKeptIn at t
    → Prefers at e l.masks t →
    Holds l t → HoldsBut at l (put at e b t)
but_one at e b l t f k p held =
    let sp = split_of at t k
    in let was = own_slots at t sp
    in let few : Few (sp.front ++ slot_with at (event at t) (is_pending at t) ∷ sp.back) =
    subst Few was (few_slots t.instances t.each t.marks f)
    in let away : (h : ℕ) → h < length l.queues → is_hart h (target at e.preferred l.masks) ≡ false
    → queue_at h l ≡ line_for h l.masks (put at e b t) =
    λ h n y.
    held.each h n ∙ ap (line h l.masks) was
    ∙ same_elsewhere h l.masks sp.front sp.back (slot_with at (event at t) (is_pending at t)) (slot_with at e b)
    (p h y) (not_there h l.masks (slot_with at e b) y)
    ∙ ap (line h l.masks) (sym (sp.all e b))
    in record {
      others = λ h n y. away h n
          (sym (ap (λ (v : Event). is_hart h (target at v.preferred l.masks)) (event_put at e b t k)) ∙ y);
      rest = λ h n. elim (cases_Bool (is_hart h (target at e.preferred l.masks))) [
        | inl y ↦
            ap (without at) (held.each h n ∙ ap (line h l.masks) was)
            ∙ same_without h l.masks sp.front sp.back at (event at t) e (is_pending at t) b few
            (target_may_run h at e.preferred l.masks y)
            ∙ ap (λ ss. without at (line h l.masks ss)) (sym (sp.all e b))
        | inr y ↦ ap (without at) (away h n y)
      ];
    }

-- an instance that isn't enabled waits nowhere
rests : (h : ℕ) (masks : List Bool) (s : Slot) → is_enabled s.event.state ≡ false → waits_for h masks s ≡ false
unfolding waits_for
rests h masks s e = ap (λ b. b && s.pending && is_hart h (target s.at s.event.preferred masks)) e

pub still_holds : (at : Instance) (e : Event) (b : Bool) (l : Lines) (t : Events) → IsKeptIn at t
    → is_enabled (event at t).state ≡ false →
    is_enabled e.state ≡ false → Holds l t → Holds l (put at e b t)
still_holds at e b l t k x y held =
    let sp = split_of at t k
    in record {
      each = λ h n.
          held.each h n ∙ ap (line h l.masks) (own_slots at t sp)
          ∙ same_elsewhere h l.masks sp.front sp.back (slot_with at (event at t) (is_pending at t)) (slot_with at e b)
          (rests h l.masks (slot_with at (event at t) (is_pending at t)) x) (rests h l.masks (slot_with at e b) y)
          ∙ ap (line h l.masks) (sym (sp.all e b));
    }

-- where nothing is pending nothing waits
none_pending : (a b : Bool) → (a && false && b) ≡ false
none_pending true b = refl
none_pending false b = refl

unmarked : (h : ℕ) (masks : List Bool) (at : Instance) (e : Event) → waits_for h masks (slot_with at e false) ≡ false
unfolding waits_for
unmarked h masks at e = none_pending (is_enabled e.state) (is_hart h (target at e.preferred masks))

nothing_waits : (h : ℕ) (masks : List Bool) (is : List Instance) (es : List Event) (js : List Instance) →
    line h masks (joined is es (map (λ (at : Instance). false) js)) ≡ []
nothing_waits h masks [] es js = refl
nothing_waits h masks (x ∷ is) [] js = refl
nothing_waits h masks (x ∷ is) (e ∷ es) [] = refl
nothing_waits h masks (x ∷ is) (e ∷ es) (j ∷ js) =
    let rest = joined is es (map (λ (at : Instance). false) js)
    in ap (λ b. lined_up (cond b (slot_with x e false
    ∷ filter (waits_for h masks) rest) (filter (waits_for h masks) rest))) (unmarked h masks x e)
    ∙ nothing_waits h masks is es js

pub fresh_holds : (n : ℕ) (t : Events) (js : List Instance) → t.marks ≡ map (λ at. false) js → Holds (fresh_lines n) t
fresh_holds n t js e =
    let none : List Waiting = []
    in record {
      each = λ h k.
          get_or-replicate n h none none (omega (arith, length-replicate n none))
          ∙ sym (ap (λ bs. line h (fresh_lines n).masks (joined t.instances t.each bs)) e
          ∙ nothing_waits h (fresh_lines n).masks t.instances t.each js);
    }
