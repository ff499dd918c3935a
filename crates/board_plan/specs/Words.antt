-- What the words of a script's line stand for, and why a word that can't stand there is refused. This project's own.
-- Each form is a list of steps in the order in which they are looked at: the first that is wrong says why.
use Rattle.std.specs.Prelude.{ℕ, ◌==◌, ◌%◌, ◌&&◌, not, nat_lt, nat_le, Bool, true, false, if◌then◌else◌}
use Rattle.std.specs.Prelude.{List, [], ◌∷◌, Option, Some, None, Result, Ok, Err, codes, bytes_eq}
use Rattle.std.specs.List.{list_all}
use Rattle.ras_text.specs.Numbers.{is_digit_of, number}
use Rattle.ras_text.specs.Pieces.{is_word}
use Rattle.sse_base.specs.Ids.{class_of, is_platform}
use Rattle.sse_base.specs.Calls.{is_reserved_class}
use Rattle.reri_fields.specs.declared.severity.Severity.{Severity}
use Rattle.reri_fields.specs.declared.severity.Severity.TheVariants.{Ce, Ued, Uec}
use Rattle.board_plan.specs.declared.ops.Reg.{Reg}
use Rattle.board_plan.specs.declared.ops.Reg.TheVariants.{A6, A7, Sepc, Spp, Spie, Sie}
use Rattle.board_plan.specs.declared.notes.Step.{Step}
use Rattle.board_plan.specs.declared.notes.Step.TheVariants.{Hart, Reporter}
use Rattle.board_plan.specs.declared.plan.LineFault.{LineFault}
use Rattle.board_plan.specs.declared.plan.LineFault.TheVariants.{Word, Number, Range, Unknown}

infixl 10 ◌>>=◌
abbrev pub ◌>>=◌ : {A B E : Type 0} → Result A E → (A → Result B E) → Result B E
(Ok x) >>= f = f x
(Err e) >>= f = Err e

-- the refusal, unless the test holds
abbrev pub otherwise : LineFault → Bool → Result (Unit {0}) LineFault
otherwise fault holds = if holds then Ok tt else Err fault

-- the refusal, where there is none
abbrev pub found : {A : Type 0} → LineFault → Option A → Result A LineFault
found fault None = Err fault
found fault (Some x) = Ok x

-- ---- Keywords ----

unfoldable pub is : List ℕ → List ℕ → Bool
is word keyword = bytes_eq word keyword

-- whether it is the first of two keywords
unfoldable pub first_of_two : List ℕ → List ℕ → List ℕ → Result Bool LineFault
first_of_two first second word = if is word first then Ok true else (if is word second then Ok false else Err Word)

unfoldable pub severity : List ℕ → Result Severity LineFault
severity word =
    if is word (codes "ce") then Ok Ce
    else (if is word (codes "ued") then Ok Ued
    else (if is word (codes "uec") then Ok Uec
    else Err Word))

unfoldable pub register : List ℕ → Result Reg LineFault
register word =
    if is word (codes "a6") then Ok A6
    else (if is word (codes "a7") then Ok A7
    else (if is word (codes "sepc") then Ok Sepc
    else (if is word (codes "spp") then Ok Spp
    else (if is word (codes "spie") then Ok Spie
    else (if is word (codes "sie") then Ok Sie
    else Err Word)))))

-- ---- Numbers ----

unfoldable pub any_number : List ℕ → Result ℕ LineFault
any_number word = found Number (number word)

unfoldable pub number_upto : ℕ → List ℕ → Result ℕ LineFault
number_upto most word = do
  n ← any_number word
  _ ← otherwise Range (nat_le n most)
  Ok n

unfoldable pub number_from_1_to : ℕ → List ℕ → Result ℕ LineFault
number_from_1_to most word = do
  n ← number_upto most word
  _ ← otherwise Range (nat_lt 0 n)
  Ok n

unfoldable pub number_below : ℕ → List ℕ → Result ℕ LineFault
number_below limit word = do
  n ← any_number word
  _ ← otherwise Range (nat_lt n limit)
  Ok n

-- the number of one of so many things
unfoldable pub known_below : ℕ → List ℕ → Result ℕ LineFault
known_below count word = do
  n ← any_number word
  _ ← otherwise Unknown (nat_lt n count)
  Ok n

-- an address at which an op can stand
unfoldable pub op_address : List ℕ → Result ℕ LineFault
op_address word = do
  n ← number_upto 0xffff0000 word
  _ ← otherwise Range (n % 2 == 0)
  Ok n

-- the value of a register: 0 or 1 where it has one bit
unfoldable pub value_of : Reg → List ℕ → Result ℕ LineFault
value_of A6 word = any_number word
value_of A7 word = any_number word
value_of Sepc word = any_number word
value_of Spp word = number_upto 1 word
value_of Spie word = number_upto 1 word
value_of Sie word = number_upto 1 word

-- ---- Ids of events ----

-- an id that a board can have: one of SBI's table or the platform's, and not the double trap's
unfoldable pub may_be_on_board : ℕ → Bool
may_be_on_board id = not (is_reserved_class (class_of id)) && not (id == 1)

unfoldable pub event_id : List ℕ → Result ℕ LineFault
event_id word = do
  id ← number_upto 0xffffffff word
  _ ← otherwise Range (may_be_on_board id)
  Ok id

-- an id with the platform's bit
unfoldable pub platform_id : List ℕ → Result ℕ LineFault
platform_id word = do
  id ← number_upto 0xffffffff word
  _ ← otherwise Range (is_platform id)
  Ok id

-- ---- Entries of a schedule ----

-- one decimal digit or more
unfoldable pub is_digits : List ℕ → Bool
is_digits word = is_word word && list_all (is_digit_of 10) word

unfoldable pub entry_number : List ℕ → Result ℕ LineFault
entry_number digits = do
  _ ← otherwise Word (is_digits digits)
  n ← found Range (number digits)
  _ ← otherwise Range (nat_le n 255)
  Ok n

unfoldable pub hart_entry : ℕ → List ℕ → Result Step LineFault
hart_entry harts digits = do
  n ← entry_number digits
  _ ← otherwise Unknown (nat_lt n harts)
  Ok (Hart n)

unfoldable pub reporter_entry : ℕ → List ℕ → Result Step LineFault
reporter_entry reporters digits = do
  n ← entry_number digits
  _ ← otherwise Unknown (nat_lt n reporters)
  Ok (Reporter n)

-- h or r, and the number of a hart or a reporter in decimal digits
unfoldable pub entry : ℕ → ℕ → List ℕ → Result Step LineFault
entry harts reporters [] = Err Word
entry harts reporters (letter ∷ digits) =
    if letter == 104 then hart_entry harts digits
    else (if letter == 114 then reporter_entry reporters digits
    else Err Word)
