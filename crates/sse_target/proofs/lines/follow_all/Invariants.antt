-- The instances so far wait by the new masks, the others by the old ones.
use Rattle.std.proofs.Common.{◌≡◌, ℕ, ◌<◌, [], length, get_or}
use Rattle.sse_base.specs.Events.{slots}
use Rattle.sse_target.proofs.Waits.{between}
use Rattle.sse_target.proofs.lines.follow_all.Given as goal

abbrev pub invariant-loop-i : goal.invariant-loop-i
invariant-loop-i l = (h : ℕ) → h < length l.queues
    → get_or l.queues h [] ≡ between h l.i l.before l.after (slots l.table)
