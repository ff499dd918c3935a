-- What a slot keeps at all times. This describes the code; no public clause cites it.
use Rattle.std.specs.Prelude.{◌≡◌, ◌≤◌, ℕ, List, length, take}
use Rattle.reri_fields.specs.declared.report.RecordCopy.{RecordCopy}
use Rattle.reri_fields.specs.Block.{AreCopies, slot_text}

-- at most four copies that a block can hold, and their block at the front of the bytes
pub record Holds (copies : List RecordCopy) (bytes : List ℕ) (used : ℕ) : Type 0 where
  pub each : AreCopies copies
  pub few : length copies ≤ 4
  pub fits : used ≤ 500
  pub text : take used bytes ≡ slot_text copies
