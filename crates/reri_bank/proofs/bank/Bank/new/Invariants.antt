-- What the loop that makes a bank keeps.
use Rattle.std.proofs.Common.{map, take}
use Rattle.reri_bank.specs.Registers.{origin_of}
use Rattle.reri_bank.proofs.Starting.{Started}
use Rattle.reri_bank.proofs.bank.Bank.new.Given as goal

-- the words so far are a bank to which nothing has happened
abbrev pub invariant-loop-control : goal.invariant-loop-control
invariant-loop-control l = Started (map origin_of (take l.control-index l.start)) l.words.items
