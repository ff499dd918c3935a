-- Handlers go on nesting in rising urgency as long as the events that run keep their priority.
use Rattle.std.proofs.Common.{◌≡◌, ℕ, ◌<◌, true, List, [], ◌∷◌, Option, Some, None, refl, sym, ap, ◌∙◌, subst, arith}
use Rattle.sse_base.specs.declared.ids.Instance.{Instance}
use Rattle.sse_base.specs.Ids.{id_of, same_instance}
use Rattle.sse_base.specs.Events.{Events, event, is_running}
use Rattle.sse_base.specs.Contexts.{Frame, bit}
use Rattle.sse_base.specs.Choice.{Urgency, top_urgency}
use Rattle.board_plan.specs.Sound.{Rise, is_over, urgency_at}
use Rattle.sse_base.proofs.Instances.{same_self}
use Rattle.sbi_sse.specs.Kept.{times, ats}

-- what runs keeps its priority
pub record KeepsUrgency (t u : Events) : Type 0 where
  pub same : (x : Instance) → is_running (event x t).state ≡ true → (event x u).priority ≡ (event x t).priority

abbrev first_urgency : List Instance → Events → Option Urgency
first_urgency [] t = None
first_urgency (x ∷ xs) t = Some (urgency_at x t)

abbrev RiseOf : Events → List Instance → Type 0
RiseOf t [] = Unit {0}
RiseOf t (x ∷ xs) = (is_over (urgency_at x t) (first_urgency xs t) ≡ true) × RiseOf t xs

first_top : (fs : List Frame) (t : Events) → first_urgency (ats fs) t ≡ top_urgency fs t
first_top [] t = refl
first_top (f ∷ fs) t = refl

to_rise : (t : Events) (fs : List Frame) → RiseOf t (ats fs) → Rise t fs
to_rise t [] r = tt
to_rise t (f ∷ fs) r =
    (ap (is_over (urgency_at f.at t)) (sym (first_top fs t)) ∙ r.0, to_rise t fs r.1)

from_rise : (t : Events) (fs : List Frame) → Rise t fs → RiseOf t (ats fs)
from_rise t [] r = tt
from_rise t (f ∷ fs) r = (ap (is_over (urgency_at f.at t)) (first_top fs t) ∙ r.0, from_rise t fs r.1)

-- each instance of a list has the priority that it had
record KeepTheirs (t u : Events) (xs : List Instance) : Type 0 where
  each : (x : Instance) → 0 < times x xs → (event x u).priority ≡ (event x t).priority

first_keeps : (t u : Events) (x : Instance) (xs : List Instance) → KeepTheirs t u (x ∷ xs)
    → (event x u).priority ≡ (event x t).priority
first_keeps t u x xs k =
    k.each x (let one : bit (same_instance x x) ≡ 1 = rw (same_self x) refl in omega arith)

rest_keep : (t u : Events) (x : Instance) (xs : List Instance) → KeepTheirs t u (x ∷ xs) → KeepTheirs t u xs
rest_keep t u x xs k = record { each = λ y some. k.each y (omega (arith, some)) }

first_same : (t u : Events) (xs : List Instance) → KeepTheirs t u xs → first_urgency xs u ≡ first_urgency xs t
first_same t u [] k = refl
first_same t u (x ∷ xs) k = ap (λ (p : ℕ). Some (p, id_of x)) (first_keeps t u x xs k)

still_rise : (t u : Events) (xs : List Instance) → KeepTheirs t u xs → RiseOf t xs → RiseOf u xs
still_rise t u [] k r = tt
still_rise t u (x ∷ xs) k r =
    let rest = rest_keep t u x xs k in (
      ap (λ (p : ℕ). is_over (p, id_of x) (first_urgency xs u)) (first_keeps t u x xs k)
          ∙ ap (is_over (urgency_at x t)) (first_same t u xs rest) ∙ r.0,
      still_rise t u xs rest r.1,
    )

-- the handlers that run still rise, whatever becomes of what they interrupted
pub rises_on : (t u : Events) (fs gs : List Frame) → KeepsUrgency t u
    → ((x : Instance) → 0 < times x (ats fs) → is_running (event x t).state ≡ true) → ats gs ≡ ats fs → Rise t fs
    → Rise u gs
rises_on t u fs gs k run same r =
    to_rise u gs
    (subst (RiseOf u) (sym same)
    (still_rise t u (ats fs) (record { each = λ x some. k.same x (run x some) }) (from_rise t fs r)))

pub top_same : (t u : Events) (fs : List Frame) → KeepsUrgency t u
    → ((x : Instance) → 0 < times x (ats fs) → is_running (event x t).state ≡ true)
    → top_urgency fs u ≡ top_urgency fs t
top_same t u fs k run =
    sym (first_top fs u)
    ∙ first_same t u (ats fs) (record { each = λ x some. k.same x (run x some) }) ∙ first_top fs t
