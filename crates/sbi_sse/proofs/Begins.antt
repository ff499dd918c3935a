-- What is next on a hart may be delivered there.
use Rattle.std.proofs.Common.{◌≡◌, ℕ, Bool, List, ap, sym, ◌∙◌, subst}
use Rattle.std.specs.Prelude.{Some}
use Rattle.sse_base.specs.declared.ids.Instance.{Instance}
use Rattle.sse_base.specs.Events.{Events}
use Rattle.sse_base.specs.Contexts.{Stack}
use Rattle.sse_base.specs.Machine.{Machine, reach, stack_of}
use Rattle.sse_base.specs.Choice.{top_urgency, next_for}
use Rattle.sbi_sse.specs.Kept.{IsKept}
use Rattle.sbi_sse.proofs.Chosen.{MayBegin, chosen_begins}

pub next_begins : (h : ℕ) (t : Events) (ms : List Bool) (ss : List Stack) (words : List ℕ) (m : Machine)
    (x at : Instance) → IsKept t ms ss →
    record { events = t; masks = ms; stacks = ss; memory = words } ≡ m → Some at ≡ next_for h (reach h m) → x ≡ at
    → MayBegin h x t
next_begins h t ms ss words m x at k v e own =
    let n : Machine = record { events = t; masks = ms; stacks = ss; memory = words }
    in subst (λ (y : Instance). MayBegin h y t) (sym own)
    (chosen_begins h t ms ss ms (top_urgency (stack_of h n).frames t) at k
    (sym (e ∙ ap (λ (o : Machine). next_for h (reach h o)) (sym v))))
