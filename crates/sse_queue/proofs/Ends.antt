-- Taking out at the end.
use Rattle.std.proofs.Common.{◌≡◌, ℕ, zero, suc, ◌+◌, ◌-◌, List, [], ◌∷◌, length, take, refl, ap, arith}
use Rattle.std.specs.List.{remove}
use Rattle.sse_queue.specs.declared.urgency.Waiting.{Waiting}

pub take_last : (k : ℕ) (vs : List Waiting) → k + 1 ≡ length vs → remove vs k ≡ take (length vs - 1) vs
take_last k [] e = absurd (omega arith)
take_last zero (v ∷ []) e = refl
take_last zero (v ∷ w ∷ vs) e = absurd (omega arith)
take_last (suc k) (v ∷ vs) e =
    let n : suc (length vs) - 1 ≡ suc (length vs - 1) = omega arith
    in rw n (ap (λ xs. v ∷ xs) (take_last k vs (omega arith)))
