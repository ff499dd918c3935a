-- What the loop of `word_in` keeps.
use Rattle.std.proofs.Common.{◌≡◌, ℕ, ◌<◌, true, slice_index}
use Rattle.ras_text.specs.Pieces.{is_blank}
use Rattle.ras_text.proofs.word_iter.word_in.Given as goal

abbrev pub invariant-loop-i : goal.invariant-loop-i
invariant-loop-i l = (k : ℕ) → k < l.i → is_blank (slice_index l.text k) ≡ true
