-- Places in a queue. This describes the code; no public clause cites it.
use Rattle.std.specs.Prelude.{ℕ, suc, if◌then◌else◌, List, [], ◌∷◌}
use Rattle.sse_base.specs.declared.ids.Instance.{Instance}
use Rattle.sse_base.specs.Ids.{same_instance}
use Rattle.sse_queue.specs.declared.urgency.Waiting.{Waiting}
use Rattle.sse_queue.specs.Order.{is_before}

-- where one belongs: how many from the front are more urgent
abbrev pub spot_of : Waiting → List Waiting → ℕ
spot_of w [] = 0
spot_of w (v ∷ vs) = if is_before v w then suc (spot_of w vs) else 0

-- where an instance stands, or the length where it doesn't
abbrev pub standing : Instance → List Waiting → ℕ
standing at [] = 0
standing at (v ∷ vs) = if same_instance v.at at then 0 else suc (standing at vs)
