-- An instance and its number, as whoever looked it up keeps them. This project's own.
use Rattle.std.specs.Prelude.{◌≡◌, ◌<◌, List, length}
use Rattle.sse_base.specs.declared.ids.Instance.{Instance}
use Rattle.sse_base.specs.Ids.{place}
use Rattle.sse_table.specs.declared.places.Place.{Place}

-- its instance is one of the board's, and stands at this number
pub record IsPlace (p : Place) (instances : List Instance) : Type 0 where
  pub on_board : place p.at instances < length instances
  pub index : p.index ≡ place p.at instances
