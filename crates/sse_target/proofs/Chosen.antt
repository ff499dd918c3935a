-- The first in line is the least of those that can be delivered.
use Rattle.std.proofs.Common.{◌≡◌, ℕ, zero, suc, ◌<◌, Bool, true, false, cond, List, [], ◌∷◌, length, get_or, refl, ap, sym, ◌∙◌, arith}
use Rattle.std.specs.Prelude.{Option, Some, None, option_map, filter}
use Rattle.std.proofs.lemmas.List.{get_or_default}
use Rattle.sse_base.specs.declared.ids.Instance.{Instance}
use Rattle.sse_base.specs.declared.events.Slot.{Slot}
use Rattle.sse_base.specs.Ids.{id_of}
use Rattle.sse_base.specs.Events.{Events, slots}
use Rattle.sse_base.specs.Choice.{Urgency, is_more_urgent, urgency_of, is_masked, waits_for, deliverable, least, more_urgent_of, above, chosen}
use Rattle.sse_queue.specs.declared.urgency.Waiting.{Waiting}
use Rattle.sse_queue.specs.Order.{is_before, put_in, front}
use Rattle.sse_target.specs.Lines.{Lines, Holds, queue_at, line_for, lined_up, waiting_of}
use Rattle.sse_target.specs.Picked.{picked}

abbrev pair : Slot → ℕ × Instance
pair s = (s.event.priority, s.at)

-- the more urgent of one and the first of a queue
abbrev nearer : ℕ × Instance → Option (ℕ × Instance) → ℕ × Instance
nearer x None = x
nearer x (Some y) = cond (is_more_urgent (y.0, id_of y.1) (x.0, id_of x.1)) y x

first_put : (w : Waiting) (vs : List Waiting) → front (put_in w vs) ≡ Some (nearer (w.priority, w.at) (front vs))
first_put w [] = refl
first_put w (v ∷ vs) =
    elim (is_before v w) as (λ b. front (cond b (v ∷ put_in w vs) (w ∷ v ∷ vs))
    ≡ Some (cond b (v.priority, v.at) (w.priority, w.at))) [
      | true ↦ refl
      | false ↦ refl
    ]

nearer_is : (s : Slot) (o : Option Slot) → nearer (pair s) (option_map pair o) ≡ pair (more_urgent_of s o)
nearer_is s None = refl
nearer_is s (Some t) =
    elim (is_more_urgent (urgency_of t) (urgency_of s)) as (λ b. cond b (pair t) (pair s) ≡ pair (cond b t s)) [
      | true ↦ refl
      | false ↦ refl
    ]

pub first_is_least : (ss : List Slot) → front (lined_up ss) ≡ option_map pair (least ss)
first_is_least [] = refl
first_is_least (s ∷ ss) =
    first_put (waiting_of s) (lined_up ss)
    ∙ ap (λ o. Some (nearer (pair s) o)) (first_is_least ss)
    ∙ ap (λ x. Some x) (nearer_is s (least ss))

picked_is : (o : Option Slot) (top : Option Urgency) → picked (option_map pair o) top ≡ above o top
picked_is None top = refl
picked_is (Some s) None = refl
picked_is (Some s) (Some top) = refl

pub picked_chosen : (h : ℕ) (top : Option Urgency) (l : Lines) (t : Events) → is_masked h l.masks ≡ false
    → queue_at h l ≡ line_for h l.masks t →
    picked (front (queue_at h l)) top ≡ chosen h l.masks top t
unfolding chosen
picked_chosen h top l t u e =
    ap (λ q. picked (front q) top) e
    ∙ ap (λ o. picked o top) (first_is_least (filter (waits_for h l.masks) (slots t)))
    ∙ picked_is (least (filter (waits_for h l.masks) (slots t))) top
    ∙ sym (ap (λ b. above (least (cond b [] (filter (waits_for h l.masks) (slots t)))) top) u)

pub none_chosen : (h : ℕ) (top : Option Urgency) (masks : List Bool) (t : Events) → is_masked h masks ≡ true
    → None ≡ chosen h masks top t
unfolding chosen
none_chosen h top masks t u = sym (ap (λ b. above (least (cond b [] (filter (waits_for h masks) (slots t)))) top) u)

-- an unmasked hart is one of the board
within : (h : ℕ) (masks : List Bool) → is_masked h masks ≡ false → h < length masks
within h [] u = cc
within zero (m ∷ masks) u = omega arith
within (suc h) (m ∷ masks) u = omega (arith, within h masks u)

-- what is picked of a hart's queue is what is chosen there
pub first_chosen : (h : ℕ) (top : Option Urgency) (l : Lines) (t : Events) (q : List Waiting)
    → is_masked h l.masks ≡ false →
    length l.queues ≡ length l.masks → q ≡ get_or l.queues h q → Holds l t
    → picked (front q) top ≡ chosen h l.masks top t
first_chosen h top l t q u e here held =
    let none : List Waiting = []
    in let there : h < length l.queues = omega (arith, within h l.masks u)
    in ap (λ x. picked (front x) top) (here ∙ get_or_default l.queues h q none there)
    ∙ picked_chosen h top l t u (held.each h there)

-- where a hart is unmasked its queue is what can be delivered there
pub is_deliverable : (h : ℕ) (masks : List Bool) (t : Events) → is_masked h masks ≡ false
    → line_for h masks t ≡ lined_up (deliverable h masks t)
is_deliverable h masks t u = ap (λ b. lined_up (cond b [] (filter (waits_for h masks) (slots t)))) (sym u)
