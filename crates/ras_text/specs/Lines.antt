-- What a contract sees of a line under way. The rules are this project's own.
use Rattle.std.specs.Prelude.{◌≡◌, ℕ, List, take}
use Rattle.std.specs.Borrow.{MutBor}
use Rattle.ras_text.specs.declared.line.Line.{Line}

module _ {K : Type 0} where
  -- the text of the line so far
  abbrev pub text_of : Line K → List ℕ
  text_of line = take line.len line.bytes

  -- the sink that the line goes to
  abbrev pub sink_of : Line K → K
  sink_of line = line.sink.now

  -- the line borrows this sink
  abbrev pub Borrows : Line K → MutBor K → Type 0
  Borrows line sink = line.sink.ghost_name ≡ sink.ghost_name

  -- both lines borrow the same sink
  abbrev pub SameSink : Line K → Line K → Type 0
  SameSink new old = new.sink.ghost_name ≡ old.sink.ghost_name
