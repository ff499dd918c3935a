-- Lists that take turns, and the pulses before an overflow.
use Rattle.std.proofs.Common.{◌≡◌, ℕ, zero, suc, ◌-◌, ◌<◌, List, [], ◌∷◌, ◌++◌, replicate, refl, sym, ap, ◌∙◌, arith}
use Rattle.ras_device.specs.declared.act.Act.{Act}
use Rattle.ras_pulse.specs.Left.{pulses_left}
use Rattle.ras_pulse.specs.Lists.{in_turn, overflow, pulse, pulses}

-- behind the first act it is the other's turn
pub turn_after : (x : Act) (xs ys : List Act) → in_turn (x ∷ xs) ys ≡ x ∷ in_turn ys xs
turn_after x xs [] = refl
turn_after x [] (y ∷ ys) = refl
turn_after x (z ∷ xs) (y ∷ ys) = ap (λ l. x ∷ y ∷ l) (turn_after z xs ys)

-- with a whole period before the next overflow, all pulses are left
pub all_pulses : (hart period n : ℕ) → (pulses_left hart period period n).acts ≡ pulses hart period n
all_pulses hart period zero = refl
all_pulses hart period (suc n) = refl

-- without a pulse before it, the overflow is next
pub overflow_next : (hart period before n : ℕ) → before ≡ 0 → 0 < n
    → (pulses_left hart period before n).acts ≡ overflow hart ∷ (pulses_left hart period period (n - 1)).acts
overflow_next hart period before zero none some = absurd (omega (arith, some))
overflow_next hart period before (suc n) none some =
    let same : n ≡ suc n - 1 = omega arith in
    ap (λ k. replicate k pulse ++ overflow hart ∷ pulses hart period n) none
    ∙ ap (λ l. overflow hart ∷ l)
    (sym (all_pulses hart period n) ∙ ap (λ k. (pulses_left hart period period k).acts) same)
