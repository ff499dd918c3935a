-- The origins so far.
use Rattle.std.proofs.Common.{◌≡◌, ◌≤◌, map, All}
use Rattle.std.specs.List.{range_with_len}
use Rattle.reri_bank.specs.Registers.{origin_of as origin_from}
use Rattle.board_plan.specs.State.{origin_of}
use Rattle.board_parts.proofs.making.origins.Given as goal

abbrev pub invariant-loop-rec : goal.invariant-loop-rec
invariant-loop-rec l =
    record {
      values : map origin_from l.origins ≡ map (λ rec. origin_of l.bank rec l.recs) (range_with_len 0 l.rec);
      controls : All (λ first. first.0 ≤ 0xff) l.origins;
    }
