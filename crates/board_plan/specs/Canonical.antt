-- The canonical text of a plan: each statement once, in one order, each number in decimal. This project's own. The
-- statements stand in this order: the board; events; each bank with its `plat` and its `gather`; records; ops;
-- starts; reporters, each with its acts; the schedule.
use Rattle.std.specs.Prelude.{ℕ, ◌+◌, ◌==◌, ◌&&◌, not, Bool, if◌then◌else◌}
use Rattle.std.specs.Prelude.{List, [], ◌∷◌, ◌++◌, map, length, Option, Some, None, codes, decimal}
use Rattle.std.specs.List.{join_with_byte}
use Rattle.sse_base.specs.declared.events.EventDecl.{EventDecl}
use Rattle.reri_fields.specs.declared.report.Report.{Report}
use Rattle.ras_device.specs.declared.act.Act.{Act}
use Rattle.ras_device.specs.declared.act.Act.TheVariants.{Error, Raise}
use Rattle.board_plan.specs.declared.notes.Step.{Step}
use Rattle.board_plan.specs.declared.notes.Step.TheVariants as step
use Rattle.board_plan.specs.declared.ops.Op.{Op}
use Rattle.board_plan.specs.declared.ops.Op.TheVariants.{Nop, Sbi, Set, Load, Save, Store, Inc, Jump, Jlt, Sret, Ack, Unplug}
use Rattle.board_plan.specs.declared.ops.Placed.{Placed}
use Rattle.board_plan.specs.declared.plan.BankDecl.{BankDecl}
use Rattle.board_plan.specs.declared.plan.RecDecl.{RecDecl}
use Rattle.board_plan.specs.declared.plan.Start.{Start}
use Rattle.board_plan.specs.declared.plan.Reporter.{Reporter}
use Rattle.board_plan.specs.declared.plan.Plan.{Plan}
use Rattle.board_plan.specs.Notes.{choice_word, reg_word, severity_word}

-- a line: its words with one space between them, and a newline
unfoldable pub line_text : List (List ℕ) → List ℕ
line_text ws = join_with_byte 32 ws ++ 10 ∷ []

unfoldable pub lines_text : List (List (List ℕ)) → List ℕ
lines_text [] = []
lines_text (ws ∷ wss) = line_text ws ++ lines_text wss

-- ---- The board, events and banks ----

abbrev pub board_line : ℕ → ℕ → List (List ℕ)
board_line version harts = codes "board" ∷ decimal version ∷ decimal harts ∷ []

unfoldable pub event_line : EventDecl → List (List ℕ)
event_line e = codes "event" ∷ decimal e.id.0 ∷ choice_word (codes "inject") (codes "noinject") e.inject ∷ []

unfoldable pub bank_line : BankDecl → List (List ℕ)
bank_line b = codes "bank" ∷ decimal b.home ∷ choice_word (codes "global") (codes "local") b.global ∷ decimal b.recs
    ∷ []

abbrev pub plat_line : ℕ → ℕ → List (List ℕ)
plat_line n id = codes "plat" ∷ decimal n ∷ decimal id ∷ []

abbrev pub gather_line : ℕ → ℕ → List (List ℕ)
gather_line n gather = codes "gather" ∷ decimal n ∷ decimal gather ∷ []

unfoldable pub plat_lines : ℕ → Option ℕ → List (List (List ℕ))
plat_lines n None = []
plat_lines n (Some id) = plat_line n id ∷ []

-- version 1 has no gather numbers, and in version 2 the usual one is 4
abbrev pub has_gather : ℕ → ℕ → Bool
has_gather version gather = (version == 2) && not (gather == 4)

unfoldable pub gather_lines : ℕ → ℕ → ℕ → List (List (List ℕ))
gather_lines version n gather = if has_gather version gather then gather_line n gather ∷ [] else []

unfoldable pub lines_of_bank : ℕ → ℕ → BankDecl → List (List (List ℕ))
lines_of_bank version n b = bank_line b ∷ plat_lines n b.plat ++ gather_lines version n b.gather

-- the banks from number n on
unfoldable pub bank_lines : ℕ → ℕ → List BankDecl → List (List (List ℕ))
bank_lines version n [] = []
bank_lines version n (b ∷ bs) = lines_of_bank version n b ++ bank_lines version (n + 1) bs

unfoldable pub record_line : RecDecl → List (List ℕ)
record_line r = codes "record" ∷ decimal r.bank ∷ decimal r.rec ∷ decimal r.control ∷ decimal r.count ∷ []

-- ---- Ops and starts ----

abbrev pub op_words : Op → List (List ℕ)
op_words Nop = codes "nop" ∷ []
op_words (Sbi eid fid args) = codes "sbi" ∷ decimal eid ∷ decimal fid ∷ map decimal args
op_words (Set reg value) = codes "set" ∷ reg_word reg ∷ decimal value ∷ []
op_words (Load reg addr) = codes "load" ∷ reg_word reg ∷ decimal addr ∷ []
op_words (Save reg addr) = codes "save" ∷ reg_word reg ∷ decimal addr ∷ []
op_words (Store addr value) = codes "store" ∷ decimal addr ∷ decimal value ∷ []
op_words (Inc addr) = codes "inc" ∷ decimal addr ∷ []
op_words (Jump pc) = codes "jump" ∷ decimal pc ∷ []
op_words (Jlt addr value pc) = codes "jlt" ∷ decimal addr ∷ decimal value ∷ decimal pc ∷ []
op_words Sret = codes "sret" ∷ []
op_words (Ack bank) = codes "ack" ∷ decimal bank ∷ []
op_words (Unplug reporter) = codes "unplug" ∷ decimal reporter ∷ []

unfoldable pub op_line : Op → List (List ℕ)
op_line op = codes "op" ∷ op_words op

abbrev pub at_line : ℕ → List (List ℕ)
at_line pc = codes "at" ∷ decimal pc ∷ []

-- an `at`, where the op doesn't stand at the next address
unfoldable pub at_lines : ℕ → ℕ → List (List (List ℕ))
at_lines next pc = if pc == next then [] else at_line pc ∷ []

-- ops, of which the first would stand at this address
unfoldable pub op_lines : ℕ → List Placed → List (List (List ℕ))
op_lines next [] = []
op_lines next (p ∷ ps) = at_lines next p.pc ++ op_line p.op ∷ op_lines (p.pc + 4) ps

unfoldable pub start_line : Start → List (List ℕ)
start_line s = codes "start" ∷ decimal s.hart ∷ decimal s.pc ∷ decimal s.budget ∷ []

-- ---- Reporters and their acts ----

abbrev pub error_words : Report → List (List ℕ)
error_words r =
    codes "error" ∷ decimal r.bank ∷ decimal r.rec ∷ severity_word r.severity ∷ decimal r.priority ∷ decimal r.code
    ∷ decimal r.address ∷ decimal r.info ∷ decimal r.supplement ∷ decimal r.time ∷ []

abbrev pub act_words : Act → List (List ℕ)
act_words (Error r) = error_words r
act_words (Raise id hart) = codes "raise" ∷ decimal id ∷ decimal hart ∷ []

unfoldable pub act_line : ℕ → Act → List (List ℕ)
act_line n act = codes "act" ∷ decimal n ∷ act_words act

abbrev pub list_line : List (List ℕ)
list_line = codes "reporter" ∷ codes "list" ∷ []

unfoldable pub device_line : ℕ → ℕ → List (List ℕ)
device_line k limit = codes "reporter" ∷ codes "device" ∷ decimal k ∷ decimal limit ∷ []

-- a list and its acts, or a device and its limit
unfoldable pub lines_of_reporter : ℕ → Option ℕ → ℕ → List Act → List (List (List ℕ))
lines_of_reporter n None limit acts = list_line ∷ map (act_line n) acts
lines_of_reporter n (Some k) limit acts = device_line k limit ∷ []

-- the reporters from number n on
unfoldable pub reporter_lines : ℕ → List Reporter → List (List (List ℕ))
reporter_lines n [] = []
reporter_lines n (r ∷ rs) = lines_of_reporter n r.device r.limit r.acts ++ reporter_lines (n + 1) rs

-- ---- The schedule ----

abbrev pub step_word : Step → List ℕ
step_word (step.Hart h) = codes "h" ++ decimal h
step_word (step.Reporter r) = codes "r" ++ decimal r

unfoldable pub schedule_line : List Step → List (List ℕ)
schedule_line steps = codes "schedule" ∷ map step_word steps

-- entries on lines: each is put behind those on the line under way, or on a new line where that one has 16
unfoldable pub in_lines : List Step → List Step → List (List Step)
in_lines line [] = line ∷ []
in_lines line (s ∷ ss) = if length line == 16 then line ∷ in_lines (s ∷ []) ss else in_lines (line ++ s ∷ []) ss

-- an empty schedule that was given has a line without entries
unfoldable pub schedule_lines : Option (List Step) → List (List (List ℕ))
schedule_lines None = []
schedule_lines (Some steps) = map schedule_line (in_lines [] steps)

-- ---- The whole text ----

unfoldable pub later_lines : Plan → List (List (List ℕ))
later_lines p =
    map event_line p.events
    ++ bank_lines p.version 0 p.banks
    ++ map record_line p.recs
    ++ op_lines 0x1000 p.ops
    ++ map start_line p.starts
    ++ reporter_lines 0 p.reporters
    ++ schedule_lines p.schedule

unfoldable pub canonical : Plan → List ℕ
canonical p = lines_text (board_line p.version p.harts ∷ later_lines p)

-- ---- The move to version 2 ----

abbrev pub with_gather_1 : BankDecl → BankDecl
with_gather_1 b = record b { gather = 1 }

-- a plan of version 1 as one of version 2: its banks go on gathering one copy
abbrev pub moved : Plan → Plan
moved p = if p.version == 2 then p else record p { version = 2; banks = map with_gather_1 p.banks }
