-- The instance of the same event on another hart. This describes the code; no public clause cites it.
use Rattle.std.specs.Prelude.{ℕ, nat_lt, if◌then◌else◌, Option, Some, None}
use Rattle.sse_base.specs.declared.ids.Instance.{Instance}
use Rattle.sse_base.specs.declared.ids.Instance.TheVariants.{Local, Global}

abbrev pub elsewhere : Instance → ℕ → ℕ → Option Instance
elsewhere (Local id k) hart harts = if nat_lt hart harts then Some (Local id hart) else None
elsewhere (Global id) hart harts = Some (Global id)
