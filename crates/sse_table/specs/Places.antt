-- Where instances stand. This describes the code; no public clause cites it.
use Rattle.std.specs.Prelude.{◌≡◌, ℕ, List, Some, slice_get}
use Rattle.sse_base.specs.declared.ids.Instance.{Instance}
use Rattle.sse_base.specs.Ids.{place}

-- the instance with this number, if there is one, stands there first
abbrev pub StandsFirst : List Instance → ℕ → Type 0
StandsFirst is k = (x : Instance) → slice_get is k ≡ Some x → place x is ≡ k
