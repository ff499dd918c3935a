-- The bytes of a run's reports and of its trace, over the texts of the board book. This project's own; public clauses
-- cite it.
use Rattle.std.specs.Prelude.{ℕ, Bool, true, false, List}
use Rattle.board_plan.specs.declared.plan.Plan.{Plan}
use Rattle.board_plan.specs.Run.{Ran}
use Rattle.board_plan.specs.Text.{bytes_of, full_lines, short_lines, trace_lines}

-- the lines of the short report, or of the full one
abbrev pub report_lines : Bool → Plan → Ran → List (List ℕ)
report_lines true plan r = short_lines plan r
report_lines false plan r = full_lines plan r

-- the bytes of the reports, and of the trace, whose steps are numbered from 1 on
unfoldable pub full_bytes : Plan → Ran → List ℕ
full_bytes plan r = bytes_of (full_lines plan r)

unfoldable pub short_bytes : Plan → Ran → List ℕ
short_bytes plan r = bytes_of (short_lines plan r)

abbrev pub report_bytes : Bool → Plan → Ran → List ℕ
report_bytes true plan r = short_bytes plan r
report_bytes false plan r = full_bytes plan r

unfoldable pub trace_bytes : Ran → List ℕ
trace_bytes r = bytes_of (trace_lines 1 r.notes)
