-- Which text is a script and of which plan, and at which line and why every other text is refused. This project's own.
-- Empty lines and comments, which begin with `#`, are passed over; every other line is a statement. Each form of
-- statement is one definition: its words as a pattern (another number of them is refused with Count), then what is
-- looked at, in order, then the plan with what the line states. A form changes what the statements before it made.
use Rattle.std.specs.Prelude.{◌≡◌, ℕ, ◌+◌, ◌==◌, ◌&&◌, not, nat_lt, nat_le, Bool, true, false, if◌then◌else◌}
use Rattle.std.specs.Prelude.{List, [], ◌∷◌, ◌++◌, length, slice_get, slice_set, Option, Some, None, is_none, Result, Ok, Err, codes}
use Rattle.std.specs.List.{list_any}
use Rattle.ras_text.specs.Pieces.{lines, words}
use Rattle.sse_base.specs.declared.events.EventDecl.{EventDecl}
use Rattle.ras_device.specs.declared.act.Act.{Act}
use Rattle.ras_device.specs.declared.act.Act.TheVariants.{Error, Raise}
use Rattle.board_plan.specs.declared.notes.Step.{Step}
use Rattle.board_plan.specs.declared.ops.Op.{Op}
use Rattle.board_plan.specs.declared.ops.Placed.{Placed}
use Rattle.board_plan.specs.declared.plan.BankDecl.{BankDecl}
use Rattle.board_plan.specs.declared.plan.RecDecl.{RecDecl}
use Rattle.board_plan.specs.declared.plan.Start.{Start}
use Rattle.board_plan.specs.declared.plan.Reporter.{Reporter}
use Rattle.board_plan.specs.declared.plan.Plan.{Plan}
use Rattle.board_plan.specs.declared.plan.LineFault.{LineFault}
use Rattle.board_plan.specs.declared.plan.LineFault.TheVariants.{Head, Word, Count, Unknown, Twice, Full}
use Rattle.board_plan.specs.Words.{◌>>=◌, otherwise, found, is, first_of_two, severity, any_number, number_upto, number_from_1_to, number_below, known_below, op_address, event_id, platform_id, entry}
use Rattle.board_plan.specs.OpForms.{op_of}

-- ---- What the statements so far made ----

-- the plan, the address of the next op, and the banks whose gather number was given
pub record Half : Type 0 where
  pub plan : Plan
  pub next : ℕ
  pub gathered : List ℕ

unfoldable pub has_event : ℕ → List EventDecl → Bool
has_event id events = list_any (λ e. e.id.0 == id) events

unfoldable pub has_number : ℕ → List ℕ → Bool
has_number n numbers = list_any (λ k. k == n) numbers

unfoldable pub has_record : ℕ → ℕ → List RecDecl → Bool
has_record bank rec recs = list_any (λ r. (r.bank == bank) && (r.rec == rec)) recs

unfoldable pub has_op : ℕ → List Placed → Bool
has_op pc ops = list_any (λ p. p.pc == pc) ops

unfoldable pub has_start : ℕ → List Start → Bool
has_start hart starts = list_any (λ s. s.hart == hart) starts

-- whether it is this number
unfoldable pub is_number : ℕ → Option ℕ → Bool
is_number k None = false
is_number k (Some n) = n == k

unfoldable pub has_device : ℕ → List Reporter → Bool
has_device k reporters = list_any (λ r. is_number k r.device) reporters

-- a reporter with acts of its own
unfoldable pub is_list : Option Reporter → Bool
is_list None = false
is_list (Some r) = is_none r.device

unfoldable pub total_budget : List Start → ℕ
total_budget [] = 0
total_budget (s ∷ ss) = s.budget + total_budget ss

-- ---- The board ----

abbrev pub most_harts : ℕ → ℕ
most_harts version = if version == 1 then 8 else 32

abbrev pub most_records : ℕ → ℕ
most_records version = if version == 1 then 16 else 63

-- a bank's gather number where none is given; version 1 has no other
abbrev pub usual_gather : ℕ → ℕ
usual_gather version = if version == 1 then 1 else 4

-- a board with nothing on it: its ops begin at 0x1000
abbrev pub bare_board : ℕ → ℕ → Half
bare_board version harts =
    record {
      plan = record {
        version = version;
        harts = harts;
        events = [];
        banks = [];
        recs = [];
        ops = [];
        starts = [];
        reporters = [];
        schedule = None;
      };
      next = 0x1000;
      gathered = [];
    }

unfoldable pub version_of : List ℕ → Result ℕ LineFault
version_of word = if is word (codes "1") then Ok 1 else (if is word (codes "2") then Ok 2 else Err Head)

unfoldable pub board_of : ℕ → List (List ℕ) → Result Half LineFault
board_of version (harts ∷ []) = do
  harts ← number_from_1_to (most_harts version) harts
  Ok (bare_board version harts)
board_of version words = Err Count

unfoldable pub versioned : List (List ℕ) → Result Half LineFault
versioned [] = Err Count
versioned (version ∷ words) = do
  version ← version_of version
  board_of version words

-- board VERSION HARTS, the first statement
unfoldable pub board : List (List ℕ) → Result Half LineFault
board [] = Err Head
board (name ∷ words) = if is name (codes "board") then versioned words else Err Head

-- ---- Events and banks ----

-- event ID inject, event ID noinject
unfoldable pub with_event : Half → List (List ℕ) → Result Half LineFault
with_event h (id ∷ how ∷ []) = do
  id ← event_id id
  inject ← first_of_two (codes "inject") (codes "noinject") how
  _ ← otherwise Twice (not (has_event id h.plan.events))
  _ ← otherwise Full (nat_lt (length h.plan.events) 8)
  Ok (record h {
    plan = record h.plan { events = h.plan.events ++ record { id = record { 0 = id }; inject = inject } ∷ [] };
  })
with_event h words = Err Count

abbrev pub fresh_bank : ℕ → ℕ → Bool → ℕ → BankDecl
fresh_bank version home global recs =
    record { home = home; global = global; recs = recs; plat = None; gather = usual_gather version }

unfoldable pub bank_of : Half → List ℕ → List ℕ → List ℕ → Result Half LineFault
bank_of h home scope recs = do
  home ← number_below h.plan.harts home
  global ← first_of_two (codes "global") (codes "local") scope
  recs ← number_from_1_to (most_records h.plan.version) recs
  _ ← otherwise Full (nat_lt (length h.plan.banks) 4)
  Ok (record h { plan = record h.plan { banks = h.plan.banks ++ fresh_bank h.plan.version home global recs ∷ [] } })

-- bank HOME local RECORDS, bank HOME global RECORDS
unfoldable pub with_bank : Half → List (List ℕ) → Result Half LineFault
with_bank h (home ∷ scope ∷ recs ∷ []) = bank_of h home scope recs
with_bank h words = Err Count

unfoldable pub plat_of : Half → List ℕ → List ℕ → Result Half LineFault
plat_of h bank id = do
  bank ← known_below (length h.plan.banks) bank
  id ← platform_id id
  _ ← otherwise Unknown (has_event id h.plan.events)
  b ← found Unknown (slice_get h.plan.banks bank)
  _ ← otherwise Twice (is_none b.plat)
  Ok (record h { plan = record h.plan { banks = slice_set h.plan.banks bank (record b { plat = Some id }) } })

-- plat BANK ID
unfoldable pub with_plat : Half → List (List ℕ) → Result Half LineFault
with_plat h (bank ∷ id ∷ []) = plat_of h bank id
with_plat h words = Err Count

unfoldable pub gather_of : Half → List ℕ → List ℕ → Result Half LineFault
gather_of h bank count = do
  bank ← known_below (length h.plan.banks) bank
  count ← number_from_1_to 4 count
  b ← found Unknown (slice_get h.plan.banks bank)
  _ ← otherwise Twice (not (has_number bank h.gathered))
  Ok (record h {
    plan = record h.plan { banks = slice_set h.plan.banks bank (record b { gather = count }) };
    gathered = h.gathered ++ bank ∷ [];
  })

-- gather BANK N, in version 2
unfoldable pub with_gather : Half → List (List ℕ) → Result Half LineFault
with_gather h (bank ∷ count ∷ []) = gather_of h bank count
with_gather h words = Err Count

unfoldable pub record_of : Half → List ℕ → List ℕ → List ℕ → List ℕ → Result Half LineFault
record_of h bank rec control count = do
  bank ← known_below (length h.plan.banks) bank
  b ← found Unknown (slice_get h.plan.banks bank)
  rec ← known_below b.recs rec
  control ← number_upto 0xff control
  count ← number_upto 65535 count
  _ ← otherwise Twice (not (has_record bank rec h.plan.recs))
  Ok (record h {
    plan = record h.plan {
      recs = h.plan.recs ++ record { bank = bank; rec = rec; control = control; count = count }
          ∷ [];
    };
  })

-- record BANK RECORD CONTROL COUNT
unfoldable pub with_record : Half → List (List ℕ) → Result Half LineFault
with_record h (bank ∷ rec ∷ control ∷ count ∷ []) = record_of h bank rec control count
with_record h words = Err Count

-- ---- Ops and starts ----

-- at ADDR
unfoldable pub with_address : Half → List (List ℕ) → Result Half LineFault
with_address h (addr ∷ []) = do
  addr ← op_address addr
  Ok (record h { next = addr })
with_address h words = Err Count

-- an op stands at the next address, and the address behind it is 4 more
unfoldable pub placed : Half → Op → Result Half LineFault
placed h op = do
  _ ← otherwise Twice (not (has_op h.next h.plan.ops))
  _ ← otherwise Full (nat_lt (length h.plan.ops) 4096)
  Ok (record h {
    plan = record h.plan { ops = h.plan.ops ++ record { pc = h.next; op = op } ∷ [] };
    next = h.next + 4;
  })

-- op NAME ..
unfoldable pub with_op : Half → List (List ℕ) → Result Half LineFault
with_op h [] = Err Count
with_op h (name ∷ words) = do
  op ← op_of name words
  placed h op

unfoldable pub start_of : Half → List ℕ → List ℕ → List ℕ → Result Half LineFault
start_of h hart pc budget = do
  hart ← number_below h.plan.harts hart
  pc ← any_number pc
  budget ← number_upto 10000 budget
  _ ← otherwise Twice (not (has_start hart h.plan.starts))
  _ ← otherwise Full (nat_le (total_budget h.plan.starts + budget) 80000)
  Ok (record h {
    plan = record h.plan { starts = h.plan.starts ++ record { hart = hart; pc = pc; budget = budget } ∷ [] };
  })

-- start HART PC BUDGET
unfoldable pub with_start : Half → List (List ℕ) → Result Half LineFault
with_start h (hart ∷ pc ∷ budget ∷ []) = start_of h hart pc budget
with_start h words = Err Count

-- ---- Reporters and their acts ----

-- a reporter with acts of its own, none so far
abbrev pub fresh_list : Reporter
fresh_list = record { device = None; limit = 0; acts = [] }

abbrev pub device_of : ℕ → ℕ → Reporter
device_of k limit = record { device = Some k; limit = limit; acts = [] }

unfoldable pub added : Half → Reporter → Result Half LineFault
added h r = do
  _ ← otherwise Full (nat_lt (length h.plan.reporters) 8)
  Ok (record h { plan = record h.plan { reporters = h.plan.reporters ++ r ∷ [] } })

-- reporter list
unfoldable pub with_list : Half → List (List ℕ) → Result Half LineFault
with_list h [] = added h fresh_list
with_list h words = Err Count

-- reporter device K LIMIT
unfoldable pub with_device : Half → List (List ℕ) → Result Half LineFault
with_device h (k ∷ limit ∷ []) = do
  k ← number_upto 7 k
  limit ← number_upto 10000 limit
  _ ← otherwise Twice (not (has_device k h.plan.reporters))
  added h (device_of k limit)
with_device h words = Err Count

unfoldable pub with_reporter : Half → List (List ℕ) → Result Half LineFault
with_reporter h [] = Err Count
with_reporter h (kind ∷ words) =
    if is kind (codes "list") then with_list h words
    else (if is kind (codes "device") then with_device h words
    else Err Word)

-- the number of a reporter with acts of its own
unfoldable pub known_list : List Reporter → List ℕ → Result ℕ LineFault
known_list reporters word = do
  n ← known_below (length reporters) word
  _ ← otherwise Unknown (is_list (slice_get reporters n))
  Ok n

-- a reporter with one more act: its limit is the number of its acts
abbrev pub and_act : Act → Reporter → Reporter
and_act act r = record r { limit = length (r.acts ++ act ∷ []); acts = r.acts ++ act ∷ [] }

unfoldable pub with_one_act : Half → ℕ → Act → Result Half LineFault
with_one_act h n act = do
  r ← found Unknown (slice_get h.plan.reporters n)
  _ ← otherwise Full (nat_lt (length r.acts) 10000)
  Ok (record h { plan = record h.plan { reporters = slice_set h.plan.reporters n (and_act act r) } })

-- the nine words of an error
unfoldable pub error_of :
    List ℕ → List ℕ → List ℕ → List ℕ → List ℕ → List ℕ → List ℕ → List ℕ → List ℕ → Result Act LineFault
error_of bank rec sev pri code addr info supp time = do
  bank ← number_upto 255 bank
  rec ← number_upto 255 rec
  sev ← severity sev
  pri ← number_upto 3 pri
  code ← number_upto 255 code
  addr ← any_number addr
  info ← any_number info
  supp ← any_number supp
  time ← any_number time
  Ok (Error (record {
    bank = bank;
    rec = rec;
    severity = sev;
    priority = pri;
    code = code;
    address = addr;
    info = info;
    supplement = supp;
    time = time;
  }))

unfoldable pub error_act : List (List ℕ) → Result Act LineFault
error_act (bank ∷ rec ∷ sev ∷ pri ∷ code ∷ addr ∷ info ∷ supp ∷ time ∷ []) =
    error_of bank rec sev pri code addr info supp time
error_act words = Err Count

-- act R error BANK RECORD SEV PRI CODE ADDR INFO SUPP TIME, by the words behind `error`
unfoldable pub with_error : Half → List ℕ → List (List ℕ) → Result Half LineFault
with_error h reporter words = do
  _ ← otherwise Count (length words == 9)
  n ← known_list h.plan.reporters reporter
  act ← error_act words
  with_one_act h n act

unfoldable pub raise_of : List ℕ → List ℕ → Result Act LineFault
raise_of id hart = do
  id ← number_upto 0xffffffff id
  hart ← number_upto 255 hart
  Ok (Raise id hart)

-- act R raise ID HART, by the words behind `raise`
unfoldable pub with_raise : Half → List ℕ → List (List ℕ) → Result Half LineFault
with_raise h reporter (id ∷ hart ∷ []) = do
  n ← known_list h.plan.reporters reporter
  act ← raise_of id hart
  with_one_act h n act
with_raise h reporter words = Err Count

-- act R KIND ..
unfoldable pub with_act : Half → List (List ℕ) → Result Half LineFault
with_act h (reporter ∷ kind ∷ words) =
    if is kind (codes "error") then with_error h reporter words
    else (if is kind (codes "raise") then with_raise h reporter words
    else Err Word)
with_act h words = Err Count

-- ---- The schedule ----

-- the entries so far; none before the first `schedule`
abbrev pub steps_of : Option (List Step) → List Step
steps_of None = []
steps_of (Some steps) = steps

-- steps with the entries of further words behind them
unfoldable pub with_entries : ℕ → ℕ → List Step → List (List ℕ) → Result (List Step) LineFault
with_entries harts reporters steps [] = Ok steps
with_entries harts reporters steps (word ∷ words) =
    entry harts reporters word >>= λ step. with_entries harts reporters (steps ++ step ∷ []) words

-- schedule E E ..
unfoldable pub with_schedule : Half → List (List ℕ) → Result Half LineFault
with_schedule h words = do
  steps ← with_entries h.plan.harts (length h.plan.reporters) (steps_of h.plan.schedule) words
  _ ← otherwise Full (nat_le (length steps) 200000)
  Ok (record h { plan = record h.plan { schedule = Some steps } })

-- ---- Statements and texts ----

-- a statement behind the first one
unfoldable pub statement : Half → List (List ℕ) → Result Half LineFault
statement h [] = Err Word
statement h (name ∷ words) =
    if is name (codes "act") then with_act h words
    else (if is name (codes "op") then with_op h words
    else (if is name (codes "at") then with_address h words
    else (if is name (codes "schedule") then with_schedule h words
    else (if is name (codes "record") then with_record h words
    else (if is name (codes "event") then with_event h words
    else (if is name (codes "bank") then with_bank h words
    else (if is name (codes "plat") then with_plat h words
    else (if is name (codes "gather") && (h.plan.version == 2) then with_gather h words
    else (if is name (codes "start") then with_start h words
    else (if is name (codes "reporter") then with_reporter h words
    else (if is name (codes "board") then Err Twice
    else Err Word)))))))))))

-- the line of a text that is refused, and why
pub record Refusal : Type 0 where
  pub line : ℕ
  pub kind : LineFault

abbrev pub at_line : {A : Type 0} → ℕ → Result A LineFault → Result A Refusal
at_line n (Ok x) = Ok x
at_line n (Err kind) = Err (record { line = n; kind = kind })

-- the first word begins with #
abbrev pub is_comment : List ℕ → Bool
is_comment [] = false
is_comment (b ∷ bs) = b == 35

-- a line that isn't a statement, by its words
abbrev pub is_passed : List (List ℕ) → Bool
is_passed [] = true
is_passed (word ∷ words) = is_comment word

-- what a line behind the first statement leaves, by its words
unfoldable pub after_line : ℕ → Half → List (List ℕ) → Result Half Refusal
after_line n h words = if is_passed words then Ok h else at_line n (statement h words)

-- the lines from number n on, behind the first statement
unfoldable pub follow : ℕ → Half → List (List ℕ) → Result Plan Refusal
follow n h [] = Ok h.plan
follow n h (l ∷ ls) = after_line n h (words l) >>= λ k. follow (n + 1) k ls

-- the lines from number n on, before the first statement: a text without any is refused behind its last line
unfoldable pub begin : ℕ → List (List ℕ) → Result Plan Refusal
begin n [] = Err (record { line = n; kind = Head })
begin n (l ∷ ls) =
    if is_passed (words l) then begin (n + 1) ls
    else (at_line n (board (words l)) >>= λ k. follow (n + 1) k ls)

-- the plan of a text, or the first line that is refused and why
unfoldable pub script : List ℕ → Result Plan Refusal
script text = begin 1 (lines text)

-- the text is a script, and of this plan
abbrev pub Reads : List ℕ → Plan → Type 0
Reads text plan = script text ≡ Ok plan

-- the text is refused at this line, and this is why
abbrev pub IsRefused : List ℕ → ℕ → LineFault → Type 0
IsRefused text line kind = script text ≡ Err (record { line = line; kind = kind })
