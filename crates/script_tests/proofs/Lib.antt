-- Worked scripts, computed from the board book.
mod WorkedScripts
