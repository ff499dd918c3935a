-- So many masks and queues.
use Rattle.std.proofs.Common.{◌≡◌, [], replicate}
use Rattle.std.specs.Prelude.{true}
use Rattle.sse_target.proofs.targets.Targets.new.Given as goal

abbrev pub invariant-loop : goal.invariant-loop
invariant-loop l = record {
  masks : l.masks.items ≡ replicate l.counter true;
  queues : l.queues.items ≡ replicate l.counter [];
}
