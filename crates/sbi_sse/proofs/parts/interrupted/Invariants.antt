-- The first hart that has it is among the rest.
use Rattle.std.proofs.Common.{◌≡◌, ℕ, drop}
use Rattle.sse_base.specs.Calls.{interrupted_on}
use Rattle.sbi_sse.proofs.parts.interrupted.Given as goal

abbrev pub invariant-loop-stack : goal.invariant-loop-stack
invariant-loop-stack l = (attr : ℕ)
    → interrupted_on attr l.at l.stacks ≡ interrupted_on attr l.at (drop l.stack-index l.stacks)
