-- What is chosen is above the newest handler.
use Rattle.std.proofs.Common.{◌≡◌, ℕ, ◌<◌, ◌≤◌, Bool, true, false, cond, List, [], ◌∷◌, get_or, Option, Some, None, refl, ap, ◌∙◌, subst, inl, inr, arith}
use Rattle.std.specs.Prelude.{filter}
use Rattle.std.proofs.lemmas.Bool.{cond_both, cases_Bool}
use Rattle.std.proofs.lemmas.Option.{none-some, same_Some}
use Rattle.sse_base.specs.declared.events.Event.{Event}
use Rattle.sse_base.specs.declared.events.Slot.{Slot}
use Rattle.sse_base.specs.declared.ids.Instance.{Instance}
use Rattle.sse_base.specs.Ids.{id_of, place, same_instance}
use Rattle.sse_base.specs.Events.{Events, event, fresh_event, joined, slots}
use Rattle.sse_base.specs.Contexts.{Stack, bit}
use Rattle.sse_base.specs.Choice.{Urgency, is_more_urgent, urgency_of, is_masked, waits_for, deliverable, more_urgent_of, least, is_above, above, chosen}
use Rattle.board_plan.specs.Sound.{is_over, urgency_at}
use Rattle.sse_base.proofs.Instances.{same_self}
use Rattle.sbi_sse.specs.Kept.{times, IsKept}

abbrev EachSlot : (Slot → Type 0) → List Slot → Type 0
EachSlot P [] = Unit {0}
EachSlot P (s ∷ ss) = P s × EachSlot P ss

each_so : (P Q : Slot → Type 0) (ss : List Slot) → ((s : Slot) → P s → Q s) → EachSlot P ss → EachSlot Q ss
each_so P Q [] f all = tt
each_so P Q (s ∷ ss) f all = (f s all.0, each_so P Q ss f all.1)

passed : (P : Slot → Type 0) (p : Slot → Bool) (ss : List Slot) → EachSlot P ss → EachSlot P (filter p ss)
passed P p [] all = tt
passed P p (s ∷ ss) all =
    cond_both (p s) (s ∷ filter p ss) (filter p ss) (EachSlot P) (λ yes. (all.0, passed P p ss all.1))
    (λ no. passed P p ss all.1)

more_has : (P : Slot → Type 0) (s : Slot) (o : Option Slot) → P s → ((t : Slot) → o ≡ Some t → P t)
    → P (more_urgent_of s o)
more_has P s None p q = p
more_has P s (Some t) p q =
    cond_both (is_more_urgent (urgency_of t) (urgency_of s)) t s P (λ yes. q t refl) (λ no. p)

least_has : (P : Slot → Type 0) (ss : List Slot) (s : Slot) → EachSlot P ss → least ss ≡ Some s → P s
least_has P [] s all is = absurd (none-some s is)
least_has P (r ∷ rs) s all is =
    subst P (same_Some (more_urgent_of r (least rs)) s is)
    (more_has P r (least rs) all.0 (λ t here. least_has P rs t all.1 here))

-- a slot's event is the event of its instance, where that stands once
record IsOwn (is : List Instance) (es : List Event) (d : Event) (s : Slot) : Type 0 where
  stands : 0 < times s.at is
  event_is : times s.at is ≤ 1 → get_or es (place s.at is) d ≡ s.event

own_further : (x : Instance) (e : Event) (is : List Instance) (es : List Event) (d : Event) (s : Slot)
    → IsOwn is es d s → IsOwn (x ∷ is) (e ∷ es) d s
own_further x e is es d s o =
    record {
      stands = omega (arith, o.stands);
      event_is = λ once.
          elim (cases_Bool (same_instance x s.at)) [
            | inl same ↦
                let one : bit (same_instance x s.at) ≡ 1 = rw same refl in
                absurd (omega (arith, once, o.stands))
            | inr other ↦ rw other (o.event_is (omega (arith, once)))
          ];
    }

all_own : (is : List Instance) (es : List Event) (bs : List Bool) (d : Event)
    → EachSlot (IsOwn is es d) (joined is es bs)
all_own [] es bs d = tt
all_own (x ∷ is) [] bs d = tt
all_own (x ∷ is) (e ∷ es) [] d = tt
all_own (x ∷ is) (e ∷ es) (b ∷ bs) d = (
  record {
    stands = (let one : bit (same_instance x x) ≡ 1 = rw (same_self x) refl in omega arith);
    event_is = λ once. rw (same_self x) refl;
  },
  each_so (IsOwn is es d) (IsOwn (x ∷ is) (e ∷ es) d) (joined is es bs) (own_further x e is es d)
      (all_own is es bs d),
)

record IsAbove (o : Option Slot) (top : Option Urgency) (at : Instance) : Type 0 where
  slot : Slot
  is : o ≡ Some slot
  instance : slot.at ≡ at
  goes_first : is_over (urgency_of slot) top ≡ true

over : (s : Slot) (top : Option Urgency) → is_above s top ≡ true → is_over (urgency_of s) top ≡ true
over s None e = refl
over s (Some u) e = e

above_some : (s : Slot) (top : Option Urgency) (at : Instance) (b : Bool) → is_above s top ≡ b
    → cond b (Some s.at) None ≡ Some at → IsAbove (Some s) top at
above_some s top at true first is =
    record { slot = s; is = refl; instance = same_Some s.at at is; goes_first = over s top first }
above_some s top at false first is = absurd (none-some at is)

above_is : (o : Option Slot) (top : Option Urgency) (at : Instance) → above o top ≡ Some at → IsAbove o top at
above_is None top at is = absurd (none-some at is)
above_is (Some s) top at is = above_some s top at (is_above s top) refl is

pub chosen_above : (h : ℕ) (t : Events) (ms : List Bool) (ss : List Stack) (masks : List Bool) (top : Option Urgency)
    (at : Instance) → IsKept t ms ss → chosen h masks top t ≡ Some at → is_over (urgency_at at t) top ≡ true
unfolding chosen
chosen_above h t ms ss masks top at k is =
    let a = above_is (least (deliverable h masks t)) top at is in
    let none : List Slot = [] in
    let all : EachSlot (IsOwn t.instances t.each (fresh_event false 0)) (deliverable h masks t) =
    cond_both (is_masked h masks) none (filter (waits_for h masks) (slots t))
    (EachSlot (IsOwn t.instances t.each (fresh_event false 0))) (λ yes. tt)
    (λ no. passed (IsOwn t.instances t.each (fresh_event false 0)) (waits_for h masks) (slots t)
    (all_own t.instances t.each t.marks (fresh_event false 0))) in
    let own = least_has (IsOwn t.instances t.each (fresh_event false 0)) (deliverable h masks t) a.slot all a.is in
    let same : event a.slot.at t ≡ a.slot.event = own.event_is (k.board.once a.slot.at) in
    subst (λ (x : Instance). is_over (urgency_at x t) top ≡ true) a.instance
    (ap (λ (e : Event). is_over (e.priority, id_of a.slot.at) top) same ∙ a.goes_first)
