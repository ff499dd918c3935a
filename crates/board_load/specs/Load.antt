-- The script of the load of a number: four harts that raise an event on one another in a loop, and 2000 errors from
-- four reporters, drawn by a generator that the number starts. This project's own. Each line is the list of its words.
use Rattle.std.specs.Prelude.{ℕ, zero, suc, ◌+◌, ◌*◌, ◌/◌, ◌%◌, ◌^◌, ◌==◌, nat_lt, if◌then◌else◌}
use Rattle.std.specs.Prelude.{List, [], ◌∷◌, ◌++◌, codes, decimal}
use Rattle.std.specs.List.{join_with_byte}

-- ---- Lines ----

-- a line: its words with one space between them, and a newline
unfoldable pub line_text : List (List ℕ) → List ℕ
line_text words = join_with_byte 32 words ++ 10 ∷ []

unfoldable pub lines_text : List (List (List ℕ)) → List ℕ
lines_text [] = []
lines_text (line ∷ lines) = line_text line ++ lines_text lines

-- the lines that f gives of 0, of 1 and so on, of so many numbers
unfoldable pub lines_below : (ℕ → List (List (List ℕ))) → ℕ → List (List (List ℕ))
lines_below f zero = []
lines_below f (suc k) = lines_below f k ++ f k

-- the same, where f gives one line of each number
unfoldable pub line_below : (ℕ → List (List ℕ)) → ℕ → List (List (List ℕ))
line_below f zero = []
line_below f (suc k) = line_below f k ++ f k ∷ []

-- ---- The board, its events, banks and records ----

abbrev pub board_lines : List (List (List ℕ))
board_lines =
    (codes "board" ∷ codes "1" ∷ codes "4" ∷ [])
    ∷ (codes "event" ∷ codes "0x0" ∷ codes "noinject" ∷ [])
    ∷ (codes "event" ∷ codes "0x8000" ∷ codes "noinject" ∷ [])
    ∷ (codes "event" ∷ codes "0x100000" ∷ codes "noinject" ∷ [])
    ∷ (codes "event" ∷ codes "0x108000" ∷ codes "noinject" ∷ [])
    ∷ (codes "event" ∷ codes "0xffff0000" ∷ codes "inject" ∷ [])
    ∷ (codes "bank" ∷ codes "0" ∷ codes "local" ∷ codes "4" ∷ [])
    ∷ (codes "bank" ∷ codes "1" ∷ codes "local" ∷ codes "4" ∷ [])
    ∷ (codes "bank" ∷ codes "2" ∷ codes "global" ∷ codes "4" ∷ [])
    ∷ []

-- enabled, with counting where the sum of the bank, the record and the load's number is odd
abbrev pub control_word : ℕ → List ℕ
control_word sum = if sum % 2 == 1 then codes "0x97" else codes "0x95"

abbrev pub record_line : ℕ → ℕ → ℕ → List (List ℕ)
record_line n bank rec =
    codes "record" ∷ decimal bank ∷ decimal rec ∷ control_word (bank + rec + n) ∷ codes "0" ∷ []

-- the four records of a bank
unfoldable pub bank_lines : ℕ → ℕ → List (List (List ℕ))
bank_lines n bank = line_below (record_line n bank) 4

-- ---- What a hart does ----

-- where a hart's program begins
abbrev pub start_of : ℕ → ℕ
start_of hart = 4096 * (hart + 1)

-- a handler of the events that banks signal
abbrev pub bank_handler : ℕ → ℕ
bank_handler hart = start_of hart + 1024

-- a handler of the event that harts raise on one another
abbrev pub raise_handler : ℕ → ℕ
raise_handler hart = start_of hart + 2048

-- three counts in memory: of the loop's turns, and of what each handler did
abbrev pub turns_word : ℕ → ℕ
turns_word hart = 2147483648 + 8 * hart

abbrev pub bank_count : ℕ → ℕ
bank_count hart = turns_word hart + 128

abbrev pub raise_count : ℕ → ℕ
raise_count hart = turns_word hart + 256

-- where a hart's loop begins: behind 7 ops, and on hart 0, which registers two more events, behind 11
abbrev pub loop_of : ℕ → ℕ
loop_of hart = start_of hart + (if hart == 0 then 44 else 28)

abbrev pub at_line : ℕ → List (List ℕ)
at_line address = codes "at" ∷ decimal address ∷ []

-- a call of the firmware with no argument
abbrev pub call_line : List ℕ → List (List ℕ)
call_line function = codes "op" ∷ codes "sbi" ∷ codes "0x535345" ∷ function ∷ []

abbrev pub register_line : List ℕ → ℕ → List (List ℕ)
register_line id entry =
    codes "op" ∷ codes "sbi" ∷ codes "0x535345" ∷ codes "2" ∷ id ∷ decimal entry ∷ codes "0" ∷ []

abbrev pub enable_line : List ℕ → List (List ℕ)
enable_line id = codes "op" ∷ codes "sbi" ∷ codes "0x535345" ∷ codes "4" ∷ id ∷ []

abbrev pub unmask_line : List (List ℕ)
unmask_line = call_line (codes "8")

abbrev pub complete_line : List (List ℕ)
complete_line = call_line (codes "6")

abbrev pub inc_line : ℕ → List (List ℕ)
inc_line word = codes "op" ∷ codes "inc" ∷ decimal word ∷ []

-- the event is raised on the next hart
abbrev pub inject_line : ℕ → List (List ℕ)
inject_line hart =
    codes "op" ∷ codes "sbi" ∷ codes "0x535345" ∷ codes "7" ∷ codes "0xffff0000" ∷ decimal ((hart + 1) % 4) ∷ []

-- back to where the loop begins, before its turn 200
abbrev pub again_line : ℕ → List (List ℕ)
again_line hart = codes "op" ∷ codes "jlt" ∷ decimal (turns_word hart) ∷ codes "200" ∷ decimal (loop_of hart) ∷ []

abbrev pub start_line : ℕ → List (List ℕ)
start_line hart = codes "start" ∷ decimal hart ∷ decimal (start_of hart) ∷ codes "10000" ∷ []

-- an event is registered with its handler, and enabled
unfoldable pub register_lines : List ℕ → ℕ → List (List (List ℕ))
register_lines id entry = register_line id entry ∷ enable_line id ∷ []

-- the global events are hart 0's
unfoldable pub global_lines : ℕ → List (List (List ℕ))
global_lines hart =
    if hart == 0
    then register_lines (codes "0x8000") (bank_handler hart) ++ register_lines (codes "0x108000") (bank_handler hart)
    else []

unfoldable pub event_lines : ℕ → List (List (List ℕ))
event_lines hart =
    register_lines (codes "0x0") (bank_handler hart)
    ++ (register_lines (codes "0x100000") (bank_handler hart)
    ++ (register_lines (codes "0xffff0000") (raise_handler hart) ++ global_lines hart))

-- the hart is unmasked, and raises the event in each turn of its loop, which begins at the second line
unfoldable pub loop_lines : ℕ → List (List (List ℕ))
loop_lines hart = unmask_line ∷ inc_line (turns_word hart) ∷ inject_line hart ∷ again_line hart ∷ []

-- the block of each bank is taken
abbrev pub ack_lines : List (List (List ℕ))
ack_lines =
    (codes "op" ∷ codes "ack" ∷ codes "0" ∷ [])
    ∷ (codes "op" ∷ codes "ack" ∷ codes "1" ∷ [])
    ∷ (codes "op" ∷ codes "ack" ∷ codes "2" ∷ [])
    ∷ []

unfoldable pub bank_handler_lines : ℕ → List (List (List ℕ))
bank_handler_lines hart =
    at_line (bank_handler hart) ∷ inc_line (bank_count hart) ∷ ack_lines ++ complete_line ∷ []

unfoldable pub raise_handler_lines : ℕ → List (List (List ℕ))
raise_handler_lines hart = at_line (raise_handler hart) ∷ inc_line (raise_count hart) ∷ complete_line ∷ []

unfoldable pub hart_lines : ℕ → List (List (List ℕ))
hart_lines hart =
    at_line (start_of hart)
    ∷ event_lines hart ++ (loop_lines hart
    ++ (bank_handler_lines hart ++ (raise_handler_lines hart ++ start_line hart ∷ [])))

-- ---- The errors ----

-- the generator's next state
abbrev pub next_state : ℕ → ℕ
next_state x = (x * 6364136223846793005 + 1442695040888963407) % 2 ^ 64

-- its state after so many draws, from a load's number
unfoldable pub state_after : ℕ → ℕ → ℕ
state_after n zero = n + 1
state_after n (suc k) = next_state (state_after n k)

-- what the draw after so many others gives: the upper half of the state that it leaves
unfoldable pub drawn : ℕ → ℕ → ℕ
drawn n k = state_after n (suc k) / 2 ^ 32

-- of 8 values two are errors that weren't corrected, one of either kind
abbrev pub severity_word : ℕ → List ℕ
severity_word s = if nat_lt s 6 then codes "ce" else (if s == 6 then codes "ued" else codes "uec")

-- the act of a number of a reporter, from what was drawn for it; its number is also its info and its time
abbrev pub error_line : ℕ → ℕ → ℕ → List (List ℕ)
error_line reporter i r =
    codes "act" ∷ decimal reporter ∷ codes "error" ∷ decimal (r % 3) ∷ decimal (r / 3 % 4)
    ∷ severity_word (r / 12 % 8) ∷ decimal (r / 96 % 4) ∷ decimal (r / 384 % 256) ∷ decimal (4096 * (r / 98304 % 64))
    ∷ decimal i ∷ codes "0" ∷ decimal i ∷ []

-- the draws run on through the acts of all reporters
unfoldable pub act_line : ℕ → ℕ → ℕ → List (List ℕ)
act_line n reporter i = error_line reporter i (drawn n (500 * reporter + i))

-- the 500 acts of a reporter
unfoldable pub reporter_lines : ℕ → ℕ → List (List (List ℕ))
reporter_lines n reporter = line_below (act_line n reporter) 500

abbrev pub list_lines : List (List (List ℕ))
list_lines =
    (codes "reporter" ∷ codes "list" ∷ [])
    ∷ (codes "reporter" ∷ codes "list" ∷ [])
    ∷ (codes "reporter" ∷ codes "list" ∷ [])
    ∷ (codes "reporter" ∷ codes "list" ∷ [])
    ∷ []

-- ---- The whole script ----

unfoldable pub load_lines : ℕ → List (List (List ℕ))
load_lines n =
    board_lines
    ++ (lines_below (bank_lines n) 3
    ++ (lines_below hart_lines 4 ++ (list_lines ++ lines_below (reporter_lines n) 4)))

-- the script of the load of a number
unfoldable pub load_text : ℕ → List ℕ
load_text n = lines_text (load_lines n)
