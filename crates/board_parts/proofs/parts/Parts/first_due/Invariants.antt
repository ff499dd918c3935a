-- No bank so far drains, and the first so far that waits is known.
use Rattle.std.proofs.Common.{◌≡◌, ◌<◌, ℕ, false, length, slice_get}
use Rattle.std.specs.Prelude.{IfSome}
use Rattle.board_plan.specs.declared.plan.Plan.{Plan}
use Rattle.board_plan.specs.State.{BoardState}
use Rattle.board_plan.specs.Step.{passes, is_draining}
use Rattle.board_parts.specs.Shows.{Shows}
use Rattle.board_parts.specs.Walked.{waits_below}
use Rattle.board_parts.proofs.parts.Parts.first_due.Given as goal

abbrev pub invariant-loop-at : goal.invariant-loop-at
invariant-loop-at l =
    record {
      none : (plan : Plan) (s : BoardState) → Shows plan s l.self → (k : ℕ) → k < l.at
          → passes (is_draining l.hart plan k) (slice_get plan.banks k) (slice_get s.banks k) ≡ false;
      first : (plan : Plan) (s : BoardState) → Shows plan s l.self
          → waits_below l.hart plan s.banks l.at ≡ l.waiting;
      there : IfSome l.waiting (λ bank. bank < length l.self.banks.items);
    }
