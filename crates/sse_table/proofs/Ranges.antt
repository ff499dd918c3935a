-- Checks of a whole range at once.
use Rattle.std.proofs.Common.{◌≡◌, ℕ, zero, suc, ◌+◌, ◌≤◌, Bool, arith}
use Rattle.std.specs.Prelude.{◌&&◌, ◌||◌, not}
use Rattle.std.proofs.lemmas.Bool.Decides.{nat_tests}
use Rattle.sse_base.specs.declared.arrows.State.{State}
use Rattle.sse_base.specs.declared.ids.Instance.{Instance}
use Rattle.sse_base.specs.Ids.{is_local}
use Rattle.sse_base.specs.Events.{is_unused, is_registered}
use Rattle.sse_base.specs.Calls.{some_attribute, is_never_written, is_shut}
use Rattle.sse_table.specs.Ranges.{reaches}

pub never_reached : (at : Instance) (base n : ℕ) →
    some_attribute (is_never_written at) base n
    ≡ (reaches base n 0 0 || reaches base n 4 5 || (reaches base n 3 3 && is_local at))
unfolding is_never_written
never_reached at base zero = grind (arith, nat_tests)
never_reached at base (suc n) = grind (arith, nat_tests, never_reached at (base + 1) n)

pub shut_reached : (state : State) (here : Bool) (base n : ℕ) → base + n ≤ 10 →
    some_attribute (is_shut state here) base n
    ≡ ((reaches base n 1 3 && not (is_unused state || is_registered state)) || (reaches base n 6 9 && not here))
unfolding is_shut
shut_reached state here base zero h = grind (arith, nat_tests)
shut_reached state here base (suc n) h = grind (arith, nat_tests, shut_reached state here (base + 1) n)
