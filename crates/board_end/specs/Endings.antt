-- How the program ends, and with which number. This project's own.
use Rattle.std.specs.Prelude.{ℕ, Result, Ok, Err}
use Rattle.ras_io.specs.declared.faults.SinkFault.{SinkFault}
use Rattle.board_run.specs.declared.status.Status.{Status}
use Rattle.board_run.specs.declared.status.Status.TheVariants as answers
use Rattle.board_end.specs.declared.failure.Failure.{Failure}
use Rattle.board_end.specs.declared.failure.Failure.TheVariants as failures

-- the exit status of each failure
abbrev pub number_of : Failure → ℕ
number_of failures.Usage = 2
number_of (failures.BadScript line kind) = 3
number_of failures.ReadFault = 4
number_of failures.WriteFault = 5
number_of failures.NoMemory = 6
number_of failures.TooLong = 8

-- the ending by the answer of the command and by what the flush behind it gave
abbrev pub ending : Status → Result (Unit {0}) SinkFault → Result (Unit {0}) Failure
ending answers.Ok (Ok u) = Ok u
ending answers.Ok (Err fault) = Err failures.WriteFault
ending answers.Usage flushed = Err failures.Usage
ending (answers.BadScript line kind) flushed = Err (failures.BadScript line kind)
ending answers.ReadFault flushed = Err failures.ReadFault
ending answers.WriteFault flushed = Err failures.WriteFault
ending answers.NoMemory flushed = Err failures.NoMemory
ending answers.TooLong flushed = Err failures.TooLong
