-- A bank in which no drain is due: this describes the code.
use Rattle.std.specs.Prelude.{◌≡◌, false, None}
use Rattle.board_bank.specs.Standing.{BankParts}

-- it doesn't ask, and no drain of it is under way
pub record IsQuiet (b : BankParts) : Type 0 where
  pub asks : b.bank.asks ≡ false
  pub drain : b.drain ≡ None
