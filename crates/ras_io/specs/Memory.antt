-- A source and a sink over memory, for tests. The rules are this project's own.
use Rattle.std.specs.Prelude.{ℕ, ◌+◌, min, Bool, not, ◌&&◌, nat_le, nat_eq, List, ◌++◌, length, drop, if◌then◌else◌}
use Rattle.std.specs.List.{list_any}
use Rattle.ras_io.specs.Causes.{one_more}

-- a source: the bytes left, the most that one read gives, the numbers of the calls that fail,
-- how many calls were made, and the count of faults
pub record Supply : Type 0 where
  pub left : List ℕ
  pub most : ℕ
  pub fails : List ℕ
  pub calls : ℕ
  pub faults : ℕ

-- the next call is one of those that fail
abbrev pub fails_next : List ℕ → ℕ → Bool
fails_next fails calls = list_any (λ call. nat_eq call calls) fails

-- how many bytes a read with so much room gives
abbrev pub given : ℕ → Supply → ℕ
given room s = min (min s.most room) (length s.left)

-- the source after a read with so much room
abbrev pub after_read : ℕ → Supply → Supply
after_read room s = if fails_next s.fails s.calls
    then record s { calls = one_more s.calls; faults = one_more s.faults }
    else record s { calls = one_more s.calls; left = drop (given room s) s.left }

-- a sink: the bytes written, how many it has room for, the numbers of the calls that fail,
-- how many calls were made, and the count of faults
pub record Store : Type 0 where
  pub written : List ℕ
  pub room : ℕ
  pub fails : List ℕ
  pub calls : ℕ
  pub faults : ℕ

-- the next write takes these bytes
abbrev pub takes : List ℕ → Store → Bool
takes bytes s = nat_le (length s.written + length bytes) s.room && not (fails_next s.fails s.calls)

-- the sink after a write of these bytes
abbrev pub after_write : List ℕ → Store → Store
after_write bytes s = if takes bytes s
    then record s { calls = one_more s.calls; written = s.written ++ bytes }
    else record s { calls = one_more s.calls; faults = one_more s.faults }
