-- The commands of the top call, by their words. This project's own.
use Rattle.std.specs.Prelude.{ℕ, nat_le, ◌≤◌, ◌&&◌, Bool, true, false, if◌then◌else◌, List, [], ◌∷◌, length, Option, Some, None, codes, bytes_eq}
use Rattle.std.specs.Borrow.{Bor}
use Rattle.ras_text.specs.Numbers.{number}
use Rattle.board_plan.specs.Words.{is_digits}
use Rattle.board_load.specs.Load.{load_text}
use Rattle.board_run.specs.declared.command.Shown.TheVariants.{Full, Traced, Short, Pages}
use Rattle.board_run.specs.declared.command.Command.{Command}
use Rattle.board_run.specs.declared.command.Command.TheVariants.{Play, Load, Move}

-- ---- Words ----

-- what may stand behind `play`
abbrev pub option_of : List ℕ → Option Command
option_of word =
    if bytes_eq word (codes "--trace") then Some (Play Traced)
    else (if bytes_eq word (codes "--short") then Some (Play Short)
    else None)

-- a number from `least` to 1000
abbrev pub from_to_1000 : ℕ → Option ℕ → Option ℕ
from_to_1000 least None = None
from_to_1000 least (Some n) = if nat_le least n && nat_le n 1000 then Some n else None

-- such a number, which is spelled by one to four decimal digits; zeros may lead
unfoldable pub argument : ℕ → List ℕ → Option ℕ
argument least word =
    if is_digits word && nat_le (length word) 4 then from_to_1000 least (number word) else None

abbrev pub load_of : Option ℕ → Option Command
load_of None = None
load_of (Some n) = Some (Load n)

abbrev pub pages_of : Option ℕ → Option Command
pages_of None = None
pages_of (Some n) = Some (Play (Pages n))

-- the command of a first word with a second
abbrev pub command_with : List ℕ → List ℕ → Option Command
command_with name word =
    if bytes_eq name (codes "play") then option_of word
    else (if bytes_eq name (codes "load") then load_of (argument 0 word)
    else (if bytes_eq name (codes "pages") then pages_of (argument 1 word)
    else None))

-- the command that these words name; all others are no command
abbrev pub command_of : List (Bor (List ℕ)) → Option Command
command_of (name ∷ []) =
    if bytes_eq name.now (codes "play") then Some (Play Full)
    else (if bytes_eq name.now (codes "move") then Some Move
    else None)
command_of (name ∷ word ∷ []) = command_with name.now word.now
command_of words = None

-- ---- Inputs ----

-- whether a command reads its script; a load's is made
abbrev pub reads_source : Command → Bool
reads_source (Load n) = false
reads_source command = true

-- the script that a command is about: the load's own, or what the source has left, where it tells
abbrev pub input_of : Command → Option (List ℕ) → Option (List ℕ)
input_of (Load n) left = Some (load_text n)
input_of command left = left

-- a load's number is at most 1000, as of each command that words name
abbrev pub IsWithin : Command → Type 0
IsWithin (Load n) = n ≤ 1000
IsWithin command = Unit {0}

-- the longest script that a command is about, in bytes
abbrev pub limit : ℕ
limit = 1048576
