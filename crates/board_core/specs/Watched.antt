-- What becomes of who is told of steps, one after another. This project's own, over the runs of the board book.
use Rattle.std.specs.Prelude.{◌≡◌, List, [], ◌∷◌}
use Rattle.board_plan.specs.Run.{Noted}

module _ {W : Type 0} where
  -- it was told of these steps, one after another, the first of them first
  abbrev pub ToldAll : (W → Noted → W → Type 0) → List Noted → W → W → Type 0
  ToldAll told [] v w = v ≡ w
  ToldAll told (n ∷ ns) v w = (u : W) × told v n u × ToldAll told ns u w
