-- The words of each statement that the writer can be given. No rule of its own: the lines are those of the canonical
-- text.
use Rattle.std.specs.Prelude.{ℕ, nat_le, Bool, true, List, length}
use Rattle.board_plan.specs.Canonical.{board_line, event_line, bank_line, plat_line, gather_line, record_line, at_line, op_line, start_line, list_line, device_line, act_line, schedule_line}
use Rattle.script_write.specs.declared.statement.Statement.{Statement}
use Rattle.script_write.specs.declared.statement.Statement.TheVariants as of

abbrev pub words_of : Statement → List (List ℕ)
words_of (of.Board version harts) = board_line version harts
words_of (of.Event e) = event_line e
words_of (of.Bank b) = bank_line b
words_of (of.Plat bank id) = plat_line bank id
words_of (of.Gather bank count) = gather_line bank count
words_of (of.Record r) = record_line r
words_of (of.At pc) = at_line pc
words_of (of.Op op) = op_line op
words_of (of.Start s) = start_line s
words_of of.List = list_line
words_of (of.Device k limit) = device_line k limit
words_of (of.Act reporter act) = act_line reporter act
words_of (of.Schedule steps) = schedule_line steps.now

-- a line holds 16 entries of a schedule at most
abbrev pub fits_line : Statement → Bool
fits_line (of.Schedule steps) = nat_le (length steps.now) 16
fits_line s = true
