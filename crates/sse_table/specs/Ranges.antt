-- Ranges of attributes. This describes the code; no public clause cites it.
use Rattle.std.specs.Prelude.{ℕ, ◌+◌, ◌&&◌, nat_lt, nat_le, Bool}

-- a range has an attribute from one to another
abbrev pub reaches : ℕ → ℕ → ℕ → ℕ → Bool
reaches base count first last = nat_lt 0 count && nat_le base last && nat_lt first (base + count)
