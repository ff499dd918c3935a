-- The first unmasked hart as a position, and so many harts.
use Rattle.std.proofs.Common.{◌≡◌, ℕ, zero, suc, ◌+◌, Bool, true, false, List, [], ◌∷◌, ◌++◌, length, replicate, cond, refl, ap, sym, arith, add-one}
use Rattle.std.specs.Prelude.{Some, None, position, not, nat_lt}
use Rattle.std.specs.List.{position_or_len}
use Rattle.std.proofs.lemmas.Bool.Decides.{nat_tests}
use Rattle.sse_base.specs.Choice.{first_unmasked}
use Rattle.sse_queue.specs.declared.urgency.Waiting.{Waiting}

first_at : (masks : List Bool) →
    first_unmasked masks
    ≡ cond (nat_lt (position_or_len (λ m. not m) masks) (length masks))
    (Some (position_or_len (λ m. not m) masks)) None
first_at [] = refl
first_at (true ∷ masks) = grind (arith, nat_tests, first_at masks)
first_at (false ∷ masks) = grind (arith, nat_tests)

pub first_is_position : (masks : List Bool) → position (λ m. not m) masks ≡ first_unmasked masks
first_is_position masks = sym (first_at masks)

one_more : {A : Type 0} (n : ℕ) (x : A) → replicate n x ++ x ∷ [] ≡ replicate (n + 1) x
one_more zero x = refl
one_more (suc n) x = rw add-one (ap (λ xs. x ∷ xs) (rw add-one at (one_more n x)))

pub more_masks : (n : ℕ) → replicate n true ++ true ∷ [] ≡ replicate (n + 1) true
more_masks n = one_more n true

pub more_queues : (n : ℕ) → let none : List Waiting = [] in replicate n none ++ none ∷ [] ≡ replicate (n + 1) none
more_queues n = let none : List Waiting = [] in one_more n none
