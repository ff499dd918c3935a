-- Marks as bits of words. This describes the code; no public clause cites it.
use Rattle.std.specs.Prelude.{ℕ, ◌/◌, ◌%◌, ◌==◌, Bool, List, map, slice_index}
use Rattle.std.specs.Int.{bit_at}
use Rattle.std.specs.List.{range_with_len}

-- whether a bit is set, where each word has 64
abbrev pub is_set : List ℕ → ℕ → Bool
is_set words i = bit_at (slice_index words (i / 64)) (i % 64) == 1

-- so many bits
abbrev pub bits : List ℕ → ℕ → List Bool
bits words n = map (is_set words) (range_with_len 0 n)
