-- One record more.
use Rattle.std.proofs.Common.{◌≤◌, ℕ, All, ap, sym, ◌∙◌, map, subst, List}
use Rattle.std.proofs.lemmas.List.Elements.{All-push}
use Rattle.reri_bank.specs.Registers.{origin_of as origin_from}
use Rattle.board_plan.specs.State.{origin_of}
use Rattle.board_parts.proofs.MadeOf.{one_more_seen}
use Rattle.board_parts.proofs.making.origins.Goals as goal

pub loop-rec-preserved : goal.loop-rec-preserved
loop-rec-preserved c =
    record {
      values = ap (map origin_from) c.in_ok-push.ensures.ok
          ∙ one_more_seen origin_from (λ rec. origin_of c.args.bank rec c.args.recs.now) c.loop-rec.origins
          c.origin.result c.loop-rec.rec c.loop-rec.invariant.values c.origin.ensures.value;
      controls = subst (λ (xs : List (ℕ × ℕ)). All (λ first. first.0 ≤ 0xff) xs) (sym c.in_ok-push.ensures.ok)
          (All-push (λ first. first.0 ≤ 0xff) c.loop-rec.origins c.origin.result c.loop-rec.invariant.controls
          c.origin.ensures.control);
    }
