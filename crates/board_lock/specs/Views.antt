-- What a worker has at hand, read from its fields.
use Rattle.std.specs.Prelude.{ℕ, List, [], take, drop, Option, Some, None}
use Rattle.ras_device.specs.declared.act.Act.{Act}
use Rattle.ras_device.specs.Acts.{Remaining}
use Rattle.board_plan.specs.declared.notes.Step.TheVariants.{Hart, Reporter}
use Rattle.board_lock.specs.declared.hands.Hands.{Hands}
use Rattle.board_lock.specs.Hand.{Hand}

-- what a device still has to give; none where there is no device
abbrev pub left_or_none : {D : Type 0} → (D → Remaining) → Option D → List Act
left_or_none left None = []
left_or_none left (Some d) = (left d).acts

abbrev pub hand_in_hands : {D : Type 0} → (D → Remaining) → Hands D → Hand
hand_in_hands left h =
    record {
      actor = Reporter h.reporter;
      handed = take h.handed h.given.items;
      kept = drop h.handed h.given.items;
      left = left_or_none left h.device;
      limit = h.limit;
    }
