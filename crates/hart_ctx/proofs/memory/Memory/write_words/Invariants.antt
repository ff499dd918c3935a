-- What is left to write.
use Rattle.std.proofs.Common.{◌≡◌, ◌+◌, drop}
use Rattle.sse_base.specs.Words.{put_words}
use Rattle.hart_ctx.proofs.memory.Memory.write_words.Given as goal

abbrev pub invariant-loop-i : goal.invariant-loop-i
invariant-loop-i l = put_words l.self-inside.words (l.start + l.i) (drop l.i l.words)
    ≡ put_words l.fn.self l.start l.words
