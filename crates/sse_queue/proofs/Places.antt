-- Putting in and taking out at a place.
use Rattle.std.proofs.Common.{◌≡◌, ◌<◌, ◌≤◌, List, [], ◌∷◌, length, ltb, refl, arith}
use Rattle.std.specs.List.{insert, remove}
use Rattle.std.proofs.lemmas.Bool.Decides.{nat_tests}
use Rattle.sse_base.specs.declared.ids.Instance.{Instance}
use Rattle.sse_queue.specs.declared.urgency.Waiting.{Waiting}
use Rattle.sse_queue.specs.Order.{holds, put_in, without}
use Rattle.sse_queue.specs.Places.{spot_of, standing}

pub spot_at_most : (w : Waiting) (vs : List Waiting) → spot_of w vs ≤ length vs
spot_at_most w [] = omega arith
spot_at_most w (v ∷ vs) = grind (arith, spot_at_most w vs)

pub put_at_spot : (w : Waiting) (vs : List Waiting) → insert vs (spot_of w vs) w ≡ put_in w vs
put_at_spot w [] = refl
put_at_spot w (v ∷ vs) = grind (arith, put_at_spot w vs)

pub holds_standing : (at : Instance) (vs : List Waiting) → holds at vs ≡ ltb (standing at vs) (length vs)
holds_standing at [] = grind (arith, nat_tests)
holds_standing at (v ∷ vs) = grind (arith, nat_tests, holds_standing at vs)

pub taken_out : (at : Instance) (vs : List Waiting) → standing at vs < length vs → remove vs (standing at vs)
    ≡ without at vs
taken_out at [] h = absurd (omega arith)
taken_out at (v ∷ vs) h = grind (arith, taken_out at vs)

-- what stands nowhere isn't taken out
pub none_out : (at : Instance) (vs : List Waiting) → length vs ≤ standing at vs → without at vs ≡ vs
none_out at [] h = refl
none_out at (v ∷ vs) h = grind (arith, none_out at vs)
