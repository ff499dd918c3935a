-- A hart's stack that is put back where it was.
use Rattle.std.proofs.Common.{◌≡◌, ℕ, List, get_or, set}
use Rattle.std.proofs.lemmas.List.{set-get_or}
use Rattle.sse_base.specs.Contexts.{Stack, fresh_stack}

pub stays : (ss : List Stack) (h : ℕ) → set ss h (get_or ss h (fresh_stack 0)) ≡ ss
stays ss h = set-get_or ss h (fresh_stack 0)
