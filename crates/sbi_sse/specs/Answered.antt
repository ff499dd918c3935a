-- What a call of one hart answered and left, against the book. This describes the code; no public clause cites it.
use Rattle.std.specs.Prelude.{◌≡◌, ℕ, List, false}
use Rattle.sse_base.specs.declared.codes.SbiCode.{SbiCode}
use Rattle.sse_base.specs.Codes.{is_success}
use Rattle.sse_base.specs.Machine.{Machine, placed}
use Rattle.sse_base.specs.Calls.{Answer}

-- The code, the words that were taken and the machine are those of the book's answer. A refused call leaves the
-- machine, and none changes the board.
pub record Answers (hart : ℕ) (old new : Machine) (code : SbiCode) (words : List ℕ) (answer : Answer) : Type 0 where
  pub code_is : code ≡ answer.code
  pub written : words ≡ answer.written
  pub next : new ≡ placed hart answer.reach old
  pub refused : is_success code ≡ false → new ≡ old
  pub harts : new.events.harts ≡ old.events.harts
  pub instances : new.events.instances ≡ old.events.instances
