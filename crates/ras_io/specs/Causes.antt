-- Faults of the outside, and what a write leaves. The rules are this project's own.
use Rattle.std.specs.Prelude.{◌≡◌, ℕ, ◌+◌, ◌-◌, ◌^◌, ◌≤◌, min, List, ◌++◌, OnOk, OnErr, Option, Result}
use Rattle.std.specs.Io.KnownBytes.{Appends}

-- a count rose: it is greater now, or stands at its last value
abbrev pub Rose : ℕ → ℕ → Type 0
Rose before now = min (before + 1) (2 ^ 64 - 1) ≤ now

-- a count after one more, which stays at its last value
abbrev pub one_more : ℕ → ℕ
one_more n = min (n + 1) (2 ^ 64 - 1)

-- the count of faults never falls, rose at an Err, and stayed at an Ok
pub record HasCause {T E : Type 0} (before now : ℕ) (result : Result T E) : Type 0 where
  pub later : before ≤ now
  pub failed : OnErr result (Rose before now)
  pub kept : OnOk result (now ≡ before)

-- known bytes grew by a front of these
abbrev pub AppendsFront : Option (List ℕ) → Option (List ℕ) → List ℕ → Type 0
AppendsFront old new bytes = (front : List ℕ) × (rest : List ℕ) × (front ++ rest ≡ bytes) × Appends old new front

-- known bytes grew by all of these at an Ok, and by a front of them at an Err
pub record Puts {T E : Type 0} (old new : Option (List ℕ)) (result : Result T E) (bytes : List ℕ) : Type 0 where
  pub all : OnOk result (Appends old new bytes)
  pub front : OnErr result (AppendsFront old new bytes)
