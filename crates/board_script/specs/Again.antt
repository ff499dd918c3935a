-- Which plans are read again from their canonical text. This project's own.
use Rattle.std.specs.Prelude.{ℕ, List}
use Rattle.board_plan.specs.declared.plan.Plan.{Plan}
use Rattle.board_plan.specs.Script.{Reads}
use Rattle.board_plan.specs.Canonical.{canonical}

-- if any text is a script of the plan, its canonical text is one
abbrev pub IsReadAgain : Plan → Type 0
IsReadAgain plan = (text : List ℕ) → Reads text plan → Reads (canonical plan) plan

-- if any text is a script of the old plan, the canonical text of the new one is a script of that
abbrev pub IsReadWhenMoved : Plan → Plan → Type 0
IsReadWhenMoved old new = (text : List ℕ) → Reads text old → Reads (canonical new) new
