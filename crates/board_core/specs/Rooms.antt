-- Room for steps and copies (describes code). This project's own.
use Rattle.std.specs.Prelude.{◌≡◌, ℕ}
use Rattle.board_core.specs.declared.log.Log.{Log}

-- there is room for so many of each
pub record HasRoom (room : ℕ) (log : Log) : Type 0 where
  pub steps : log.steps.room ≡ room
  pub published : log.published.room ≡ room

-- there is as much room as before
pub record HasSameRoom (old new : Log) : Type 0 where
  pub steps : new.steps.room ≡ old.steps.room
  pub published : new.published.room ≡ old.published.room
