-- No declaration so far names the record.
use Rattle.std.proofs.Common.{◌≡◌, drop}
use Rattle.board_plan.specs.State.{origin_of}
use Rattle.board_parts.proofs.making.origin.Given as goal

abbrev pub invariant-loop-decl : goal.invariant-loop-decl
invariant-loop-decl l = origin_of l.bank l.rec l.recs ≡ origin_of l.bank l.rec (drop l.decl-index l.recs)
