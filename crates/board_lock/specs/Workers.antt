-- A worker as what it has at hand.
use Rattle.std.specs.Prelude.{ℕ, List}
use Rattle.ras_device.specs.Acts.{Remaining}
use Rattle.board_lock.specs.declared.worker.Actor.{Actor}
use Rattle.board_lock.specs.declared.worker.Actor.TheVariants as actor
use Rattle.board_lock.specs.declared.worker.Worker.{Worker}
use Rattle.board_lock.specs.Hand.{Hand, hart_hand}
use Rattle.board_lock.specs.Views.{hand_in_hands}

abbrev pub hand_in : {D : Type 0} → (D → Remaining) → Actor D → Hand
hand_in left (actor.Hart h) = hart_hand h
hand_in left (actor.Reporter hands) = hand_in_hands left hands

abbrev pub hand_of : {D : Type 0} → (D → Remaining) → Worker D → Hand
hand_of left w = hand_in left w.actor
