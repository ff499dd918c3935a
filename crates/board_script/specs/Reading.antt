-- What the parts of the reader answer, against the rules of scripts in the board book. This project's own.
use Rattle.std.specs.Prelude.{◌≡◌, ℕ, ◌<◌, ◌==◌, List, [], ◌∷◌, length, map, filter, slice_get, Some, Result, Ok, Err, if◌then◌else◌}
use Rattle.std.specs.Borrow.{Bor}
use Rattle.ras_text.specs.Pieces.{is_word, without_return}
use Rattle.board_plan.specs.declared.notes.Step.{Step}
use Rattle.board_plan.specs.declared.notes.Step.TheVariants.{Hart, Reporter}
use Rattle.board_plan.specs.declared.plan.LineFault.{LineFault}
use Rattle.board_plan.specs.declared.plan.Plan.{Plan}
use Rattle.board_plan.specs.Script.{Refusal, steps_of}
use Rattle.board_script.specs.declared.fault.ReadFault.{ReadFault}
use Rattle.board_script.specs.declared.fault.ReadFault.TheVariants as fault
use Rattle.board_script.specs.declared.fault.ScriptError.{ScriptError}
use Rattle.board_script.specs.declared.fault.ScriptError.TheVariants.{BadLine, NoMemory}

-- what words hold
abbrev pub texts : List (Bor (List ℕ)) → List (List ℕ)
texts ws = map (λ w. w.now) ws

-- a text up to its first newline
abbrev pub before_newline : List ℕ → List ℕ
before_newline [] = []
before_newline (b ∷ bs) = if b == 10 then [] else b ∷ before_newline bs

-- the first line of a text
unfoldable pub line_of : List ℕ → List ℕ
line_of text = without_return (before_newline text)

-- a part of a line as its words: one, or none where it is empty
abbrev pub as_word : List ℕ → List (List ℕ)
as_word part = filter is_word (part ∷ [])

-- a failure is the line's refusal, or that memory is wanting
abbrev pub Fails : {Y : Type 0} → ReadFault → Result Y LineFault → Type 0
Fails (fault.Line kind) wanted = wanted ≡ Err kind
Fails fault.NoMemory wanted = Unit {0}

-- what was answered is what is wanted
abbrev pub Gives : {Y : Type 0} → Result Y ReadFault → Result Y LineFault → Type 0
Gives (Ok y) wanted = wanted ≡ Ok y
Gives (Err e) wanted = Fails e wanted

-- what it is afterwards is what is wanted
abbrev pub Moves : {X Y : Type 0} → Result X ReadFault → Y → Result Y LineFault → Type 0
Moves (Ok x) new wanted = wanted ≡ Ok new
Moves (Err e) new wanted = Fails e wanted

-- the refusal of a text, or that memory is wanting
abbrev pub IsFault : {Y : Type 0} → ScriptError → Result Y Refusal → Type 0
IsFault (BadLine line kind) wanted = wanted ≡ Err (record { line = line; kind = kind })
IsFault NoMemory wanted = Unit {0}

-- what it is after a line is what is wanted
abbrev pub Passes : {X Y : Type 0} → Result X ScriptError → Y → Result Y Refusal → Type 0
Passes (Ok x) new wanted = wanted ≡ Ok new
Passes (Err e) new wanted = IsFault e wanted

-- an entry of a schedule that names a hart or a reporter of the board
abbrev pub IsOfBoard : Plan → Step → Type 0
IsOfBoard plan (Hart h) = h < plan.harts
IsOfBoard plan (Reporter r) = r < length plan.reporters

-- each entry of a given schedule is one
abbrev pub EntriesAreOfBoard : Plan → Type 0
EntriesAreOfBoard plan = (i : ℕ) (t : Step) → slice_get (steps_of plan.schedule) i ≡ Some t → IsOfBoard plan t
