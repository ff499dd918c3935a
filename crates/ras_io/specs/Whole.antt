-- What reading a whole source says. The rules are this project's own.
use Rattle.std.specs.Prelude.{◌≡◌, ℕ, ◌+◌, ◌≤◌, List, length, Option}
use Rattle.std.specs.Io.KnownBytes.{Consumes}

-- one byte more than so many was taken
abbrev pub TakesOneTooMany : Option (List ℕ) → Option (List ℕ) → ℕ → Type 0
TakesOneTooMany old new most = (bytes : List ℕ) × (length bytes ≡ most + 1) × Consumes old new bytes

-- no more bytes than so many were taken
abbrev pub TakesAtMost : Option (List ℕ) → Option (List ℕ) → ℕ → Type 0
TakesAtMost old new most = (bytes : List ℕ) × (length bytes ≤ most) × Consumes old new bytes
