-- A source and a sink over std's readers and writers. The rules are this project's own.
use Rattle.std.specs.Prelude.{ℕ, List, Option}
use Rattle.std.specs.Io.KnownBytes.{append_known}

-- a source: the bytes left, where the reader tells them, and the count of faults
pub record Incoming : Type 0 where
  pub left : Option (List ℕ)
  pub faults : ℕ

-- a sink: the bytes that the writer was given, where it tells them, those that wait to be given,
-- and the counts of writes and of faults
pub record Outgoing : Type 0 where
  pub out : Option (List ℕ)
  pub waiting : List ℕ
  pub writes : ℕ
  pub faults : ℕ

-- the bytes that were written to the sink
abbrev pub written_to : Outgoing → Option (List ℕ)
written_to s = append_known s.out s.waiting
