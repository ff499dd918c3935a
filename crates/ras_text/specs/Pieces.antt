-- The lines of a text and the words of a line. The rules are this project's own.
use Rattle.std.specs.Prelude.{ℕ, ◌-◌, ◌==◌, Bool, true, false, ◌||◌, List, [], ◌∷◌, length, take, map, filter, slice_index, if◌then◌else◌}
use Rattle.std.specs.List.{onto_first, slice_split}

-- the pieces of a text between its newlines; after a final newline there is no further one
abbrev pub pieces : List ℕ → List (List ℕ)
pieces [] = []
pieces (b ∷ bs) = if b == 10 then [] ∷ pieces bs else onto_first b (pieces bs)

-- a line without the carriage return at its end
abbrev pub without_return : List ℕ → List ℕ
without_return line = if slice_index line (length line - 1) == 13 then take (length line - 1) line else line

-- the lines of a text
abbrev pub lines : List ℕ → List (List ℕ)
lines text = map without_return (pieces text)

-- the text after its first newline, or nothing where there is none
abbrev pub after_newline : List ℕ → List ℕ
after_newline [] = []
after_newline (b ∷ bs) = if b == 10 then bs else after_newline bs

-- a space or a tab
abbrev pub is_blank : ℕ → Bool
is_blank b = b == 32 || b == 9

-- a part of a line that isn't empty
abbrev pub is_word : List ℕ → Bool
is_word [] = false
is_word (b ∷ bs) = true

-- the words of a line: its parts between spaces and tabs that aren't empty
unfoldable pub words : List ℕ → List (List ℕ)
words line = filter is_word (slice_split is_blank line)
