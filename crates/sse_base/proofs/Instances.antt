-- When instances are the same, where one stands, and which may run on a hart.
use Rattle.std.proofs.Common.{◌≡◌, ℕ, suc, ◌<◌, Bool, true, false, cond, List, [], ◌∷◌, length, get_or, refl, arith}
use Rattle.std.specs.Prelude.{◌==◌}
use Rattle.std.proofs.lemmas.Bool.Decides.{nat_tests}
use Rattle.sse_base.specs.declared.ids.Instance.{Instance}
use Rattle.sse_base.specs.declared.ids.Instance.TheVariants.{Local, Global}
use Rattle.sse_base.specs.Ids.{id_of, same_instance, place, may_run_on}
use Rattle.sse_base.specs.Choice.{target, is_hart}

pub same_is : (x y : Instance) → same_instance x y ≡ true → x ≡ y
unfolding same_instance
same_is (Local a h) (Local b k) e = grind (arith, nat_tests)
same_is (Local a h) (Global b) e = cc
same_is (Global a) (Local b k) e = cc
same_is (Global a) (Global b) e = grind (arith, nat_tests)

pub same_self : (x : Instance) → same_instance x x ≡ true
unfolding same_instance
same_self (Local a h) = grind (arith, nat_tests)
same_self (Global a) = grind (arith, nat_tests)

-- the same instance is of the same event
pub same_id : (x y : Instance) → same_instance x y ≡ true → ((id_of x).0 == (id_of y).0) ≡ true
unfolding same_instance
same_id (Local a h) (Local b k) e = grind (arith, nat_tests)
same_id (Local a h) (Global b) e = cc
same_id (Global a) (Local b k) e = cc
same_id (Global a) (Global b) e = grind (arith, nat_tests)

-- an instance stands at its place
pub at_its_place : (at : Instance) (is : List Instance) (d : Instance) → place at is < length is →
    get_or is (place at is) d ≡ at
at_its_place at [] d h = absurd (omega arith)
at_its_place at (x ∷ is) d h =
    elim (same_instance x at) as (λ b. same_instance x at ≡ b → get_or (x ∷ is) (cond b 0 (suc (place at is))) d ≡ at) [
      | true ↦ λ e. same_is x at e
      | false ↦ λ e. at_its_place at is d (grind (arith, e, h))
    ] refl

-- a hart on which an instance is delivered is one on which it may run
pub target_may_run : (h : ℕ) (at : Instance) (preferred : ℕ) (masks : List Bool) →
    is_hart h (target at preferred masks) ≡ true → may_run_on h at ≡ true
unfolding target
target_may_run h (Local id k) preferred masks e = e
target_may_run h (Global id) preferred masks e = refl
