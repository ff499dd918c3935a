-- How far a walk over the banks has come: this describes the code.
use Rattle.std.specs.Prelude.{ℕ, List, Option, find, slice_get}
use Rattle.std.specs.List.{range_with_len}
use Rattle.reri_fields.specs.Drain.{BankState}
use Rattle.board_plan.specs.declared.plan.Plan.{Plan}
use Rattle.board_plan.specs.Step.{is_waiting, passes}

-- the first bank of a hart, among so many, whose drain may begin
unfoldable pub waits_below : ℕ → Plan → List BankState → ℕ → Option ℕ
waits_below h plan banks n =
    find (λ b. passes (is_waiting h plan b) (slice_get plan.banks b) (slice_get banks b)) (range_with_len 0 n)
