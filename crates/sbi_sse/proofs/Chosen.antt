-- What is chosen may be delivered.
use Rattle.std.proofs.Common.{◌≡◌, ℕ, ◌<◌, ◌≤◌, Bool, true, false, List, [], ◌∷◌, get_or, refl, ap, sym, ◌∙◌, arith, ◌⊎◌, inl, inr, subst}
use Rattle.std.specs.Prelude.{filter, if◌then◌else◌, Option, Some, None, ◌&&◌}
use Rattle.std.proofs.lemmas.Bool.{cases_Bool}
use Rattle.sse_base.specs.declared.ids.Instance.{Instance}
use Rattle.sse_base.specs.declared.events.Event.{Event}
use Rattle.sse_base.specs.declared.events.Slot.{Slot}
use Rattle.sse_base.specs.Ids.{same_instance, place, may_run_on}
use Rattle.sse_base.specs.Events.{Events, event, fresh_event, is_enabled, IsOnBoard, joined, slots}
use Rattle.sse_base.specs.Contexts.{Stack, bit}
use Rattle.sse_base.specs.Choice.{Urgency, is_more_urgent, urgency_of, is_masked, target, is_hart, waits_for, deliverable, more_urgent_of, least, is_above, above, chosen}
use Rattle.sbi_sse.specs.Kept.{times, IsKept}
use Rattle.sse_base.proofs.Instances.{same_self, target_may_run}
use Rattle.sbi_sse.proofs.Counting.{standing_placed}

abbrev In : Slot → List Slot → Type 0
In s [] = ⊥
In s (r ∷ rs) = (r ≡ s) ⊎ In s rs

some_is : (s t : Slot) → Some s ≡ Some t → s ≡ t
some_is s t e = cc

-- the least of a list stands in it
first_or : (b : Bool) (r t s : Slot) (rs : List Slot) → (t ≡ s → In s rs) → (if b then t else r) ≡ s → In s (r ∷ rs)
first_or true r t s rs f e = inr (f e)
first_or false r t s rs f e = inl e

first_or_rest : (s r : Slot) (rs : List Slot) (m : Option Slot) → ((t : Slot) → m ≡ Some t → t ≡ s → In s rs)
    → more_urgent_of r m ≡ s → In s (r ∷ rs)
first_or_rest s r rs None f e = inl e
first_or_rest s r rs (Some t) f e = first_or (is_more_urgent (urgency_of t) (urgency_of r)) r t s rs (f t refl) e

least_in : (s : Slot) (rs : List Slot) → least rs ≡ Some s → In s rs
least_in s [] e = cc
least_in s (r ∷ rs) e =
    first_or_rest s r rs (least rs) (λ t q p. least_in s rs (q ∙ ap (λ (x : Slot). Some x) p))
    (some_is (more_urgent_of r (least rs)) s e)

-- what a filter passes
passed_first : (b : Bool) (p : Slot → Bool) (s r : Slot) (rs : List Slot) → p r ≡ b
    → (In s (filter p rs) → In s rs × (p s ≡ true)) →
    In s (if b then r ∷ filter p rs else filter p rs) → In s (r ∷ rs) × (p s ≡ true)
passed_first true p s r rs e f (inl q) = (inl q, ap p (sym q) ∙ e)
passed_first true p s r rs e f (inr i) = (inr (f i).0, (f i).1)
passed_first false p s r rs e f i = (inr (f i).0, (f i).1)

in_filter : (p : Slot → Bool) (s : Slot) (rs : List Slot) → In s (filter p rs) → In s rs × (p s ≡ true)
in_filter p s [] i = absurd i
in_filter p s (r ∷ rs) i = passed_first (p r) p s r rs refl (in_filter p s rs) i

-- a slot of the three lists, where its instance stands once
in_joined : (is : List Instance) (es : List Event) (bs : List Bool) (s : Slot) → In s (joined is es bs)
    → 0 < times s.at is
in_joined [] es bs s i = absurd i
in_joined (x ∷ is) [] bs s i = absurd i
in_joined (x ∷ is) (e ∷ es) [] s i = absurd i
in_joined (x ∷ is) (e ∷ es) (b ∷ bs) s (inl q) =
    let a : x ≡ s.at = ap (λ (r : Slot). r.at) q
    in let m : same_instance x s.at ≡ true = ap (λ (y : Instance). same_instance y s.at) a ∙ same_self s.at
    in rw m (omega arith)
in_joined (x ∷ is) (e ∷ es) (b ∷ bs) s (inr i) = omega (arith, in_joined is es bs s i)

event_of_slot : (is : List Instance) (es : List Event) (bs : List Bool) (s : Slot) (d : Event)
    → In s (joined is es bs) → times s.at is ≤ 1 →
    get_or es (place s.at is) d ≡ s.event
event_of_slot [] es bs s d i o = absurd i
event_of_slot (x ∷ is) [] bs s d i o = absurd i
event_of_slot (x ∷ is) (e ∷ es) [] s d i o = absurd i
event_of_slot (x ∷ is) (e ∷ es) (b ∷ bs) s d (inl q) o =
    let a : x ≡ s.at = ap (λ (r : Slot). r.at) q
    in let m : same_instance x s.at ≡ true = ap (λ (y : Instance). same_instance y s.at) a ∙ same_self s.at
    in let v : e ≡ s.event = ap (λ (r : Slot). r.event) q
    in rw m v
event_of_slot (x ∷ is) (e ∷ es) (b ∷ bs) s d (inr i) o =
    elim (cases_Bool (same_instance x s.at)) [
      | inl m ↦
          let n : bit (same_instance x s.at) ≡ 1 = rw m refl
          in absurd (omega (arith, in_joined is es bs s i))
      | inr m ↦
          let n : bit (same_instance x s.at) ≡ 0 = rw m refl
          in rw m (event_of_slot is es bs s d i (omega arith))
    ]

-- what waits is enabled, and may run on its target
both_true : (a b : Bool) → (a && b) ≡ true → (a ≡ true) × (b ≡ true)
both_true true b e = (refl, e)
both_true false b e = cc

waits_enabled : (h : ℕ) (masks : List Bool) (s : Slot) → waits_for h masks s ≡ true → is_enabled s.event.state ≡ true
unfolding waits_for
waits_enabled h masks s e =
    (both_true (is_enabled s.event.state) s.pending (both_true (is_enabled s.event.state
    && s.pending) (is_hart h (target s.at s.event.preferred masks)) e).0).0

waits_may : (h : ℕ) (masks : List Bool) (s : Slot) → waits_for h masks s ≡ true → may_run_on h s.at ≡ true
unfolding waits_for
waits_may h masks s e =
    target_may_run h s.at s.event.preferred masks (both_true (is_enabled s.event.state
    && s.pending) (is_hart h (target s.at s.event.preferred masks)) e).1

-- what may be delivered on a hart
pub record MayBegin (h : ℕ) (at : Instance) (t : Events) : Type 0 where
  pub on_board : IsOnBoard at t
  pub may_run : may_run_on h at ≡ true
  pub enabled : is_enabled (event at t).state ≡ true

slot_begins : (h : ℕ) (t : Events) (ms : List Bool) (ss : List Stack) (masks : List Bool) (s : Slot) → IsKept t ms ss →
    In s (filter (waits_for h masks) (slots t)) → MayBegin h s.at t
slot_begins h t ms ss masks s k i =
    let p = in_filter (waits_for h masks) s (slots t) i
    in let e : event s.at t ≡ s.event =
    event_of_slot t.instances t.each t.marks s (fresh_event false 0) p.0 (k.board.once s.at)
    in record {
      on_board = standing_placed s.at t.instances (in_joined t.instances t.each t.marks s p.0);
      may_run = waits_may h masks s p.1;
      enabled = ap (λ (v : Event). is_enabled v.state) e ∙ waits_enabled h masks s p.1;
    }

in_deliverable : (b : Bool) (s : Slot) (rs : List Slot) → In s (if b then [] else rs) → In s rs
in_deliverable true s rs i = absurd i
in_deliverable false s rs i = i

above_some : (b : Bool) (x at : Instance) → (if b then Some x else None) ≡ Some at → x ≡ at
above_some true x at e = cc
above_some false x at e = cc

above_is : (m : Option Slot) (top : Option Urgency) (at : Instance) → above m top ≡ Some at → (s : Slot)
    × (m ≡ Some s) × (s.at ≡ at)
above_is None top at e = cc
above_is (Some s) top at e = (s, refl, above_some (is_above s top) s.at at e)

pub chosen_begins : (h : ℕ) (t : Events) (ms : List Bool) (ss : List Stack) (masks : List Bool) (top : Option Urgency)
    (at : Instance) → IsKept t ms ss →
    chosen h masks top t ≡ Some at → MayBegin h at t
unfolding chosen
chosen_begins h t ms ss masks top at k e =
    let p = above_is (least (deliverable h masks t)) top at e
    in let i : In p.0 (filter (waits_for h masks) (slots t)) =
    in_deliverable (is_masked h masks) p.0 _ (least_in p.0 (deliverable h masks t) p.1)
    in subst (λ (x : Instance). MayBegin h x t) p.2 (slot_begins h t ms ss masks p.0 k i)
