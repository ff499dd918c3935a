-- The ops that a script can state, by the words behind `op`. This project's own.
use Rattle.std.specs.Prelude.{ℕ, nat_le, if◌then◌else◌, List, [], ◌∷◌, length, slice_get, Option, Some, None, Result, Ok, Err, codes}
use Rattle.board_plan.specs.declared.ops.Op.{Op}
use Rattle.board_plan.specs.declared.ops.Op.TheVariants.{Nop, Sbi, Set, Load, Save, Store, Inc, Jump, Jlt, Sret, Ack, Unplug}
use Rattle.board_plan.specs.declared.plan.LineFault.{LineFault}
use Rattle.board_plan.specs.declared.plan.LineFault.TheVariants.{Word, Count}
use Rattle.board_plan.specs.Words.{◌>>=◌, otherwise, is, any_number, number_upto, register, value_of}

-- an op without words of its own
unfoldable pub bare_op : Op → List (List ℕ) → Result Op LineFault
bare_op op [] = Ok op
bare_op op words = Err Count

-- an argument of a call, 0 where it is missing
abbrev pub argument : Option (List ℕ) → Result ℕ LineFault
argument None = Ok 0
argument (Some word) = any_number word

unfoldable pub argument_at : List (List ℕ) → ℕ → Result ℕ LineFault
argument_at words i = argument (slice_get words i)

-- up to five arguments
unfoldable pub arguments : List (List ℕ) → Result (List ℕ) LineFault
arguments words = do
  a ← argument_at words 0
  b ← argument_at words 1
  c ← argument_at words 2
  d ← argument_at words 3
  e ← argument_at words 4
  Ok (a ∷ b ∷ c ∷ d ∷ e ∷ [])

unfoldable pub call_of : List ℕ → List ℕ → List (List ℕ) → Result Op LineFault
call_of eid fid words = do
  _ ← otherwise Count (nat_le (length words) 5)
  eid ← any_number eid
  fid ← any_number fid
  args ← arguments words
  Ok (Sbi eid fid args)

-- sbi EID FID A0 .. A4
unfoldable pub sbi_op : List (List ℕ) → Result Op LineFault
sbi_op (eid ∷ fid ∷ words) = call_of eid fid words
sbi_op words = Err Count

-- set REG N
unfoldable pub set_op : List (List ℕ) → Result Op LineFault
set_op (reg ∷ value ∷ []) = do
  reg ← register reg
  value ← value_of reg value
  Ok (Set reg value)
set_op words = Err Count

-- load REG ADDR
unfoldable pub load_op : List (List ℕ) → Result Op LineFault
load_op (reg ∷ addr ∷ []) = do
  reg ← register reg
  addr ← any_number addr
  Ok (Load reg addr)
load_op words = Err Count

-- save REG ADDR
unfoldable pub save_op : List (List ℕ) → Result Op LineFault
save_op (reg ∷ addr ∷ []) = do
  reg ← register reg
  addr ← any_number addr
  Ok (Save reg addr)
save_op words = Err Count

-- store ADDR N
unfoldable pub store_op : List (List ℕ) → Result Op LineFault
store_op (addr ∷ value ∷ []) = do
  addr ← any_number addr
  value ← any_number value
  Ok (Store addr value)
store_op words = Err Count

-- inc ADDR
unfoldable pub inc_op : List (List ℕ) → Result Op LineFault
inc_op (addr ∷ []) = do
  addr ← any_number addr
  Ok (Inc addr)
inc_op words = Err Count

-- jump PC
unfoldable pub jump_op : List (List ℕ) → Result Op LineFault
jump_op (pc ∷ []) = do
  pc ← any_number pc
  Ok (Jump pc)
jump_op words = Err Count

-- jlt ADDR N PC
unfoldable pub jlt_op : List (List ℕ) → Result Op LineFault
jlt_op (addr ∷ value ∷ pc ∷ []) = do
  addr ← any_number addr
  value ← any_number value
  pc ← any_number pc
  Ok (Jlt addr value pc)
jlt_op words = Err Count

-- ack BANK
unfoldable pub ack_op : List (List ℕ) → Result Op LineFault
ack_op (bank ∷ []) = do
  bank ← number_upto 255 bank
  Ok (Ack bank)
ack_op words = Err Count

-- unplug REPORTER
unfoldable pub unplug_op : List (List ℕ) → Result Op LineFault
unplug_op (reporter ∷ []) = do
  reporter ← number_upto 255 reporter
  Ok (Unplug reporter)
unplug_op words = Err Count

-- the op of a name and the words behind it
unfoldable pub op_of : List ℕ → List (List ℕ) → Result Op LineFault
op_of name words =
    if is name (codes "nop") then bare_op Nop words
    else (if is name (codes "sbi") then sbi_op words
    else (if is name (codes "set") then set_op words
    else (if is name (codes "load") then load_op words
    else (if is name (codes "save") then save_op words
    else (if is name (codes "store") then store_op words
    else (if is name (codes "inc") then inc_op words
    else (if is name (codes "jump") then jump_op words
    else (if is name (codes "jlt") then jlt_op words
    else (if is name (codes "sret") then bare_op Sret words
    else (if is name (codes "ack") then ack_op words
    else (if is name (codes "unplug") then unplug_op words
    else Err Word)))))))))))
