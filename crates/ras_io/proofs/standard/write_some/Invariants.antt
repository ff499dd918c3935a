-- What the loop of `write_some` keeps.
use Rattle.std.specs.Io.KnownBytes.{Keeps}
use Rattle.ras_io.proofs.standard.write_some.Given as goal

abbrev pub invariant-loop : goal.invariant-loop
invariant-loop g l = Keeps (g.W.Write.contents l.fn.to) (g.W.Write.contents l.to)
