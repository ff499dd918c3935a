-- A hint is at the place of its instance.
use Rattle.std.proofs.Common.{All, length, refl, sym, ap, ◌∙◌, subst, arith, length-set}
use Rattle.std.proofs.lemmas.List.Elements.{All-replicate, All-set}
use Rattle.sse_table.specs.Places.{StandsFirst}
use Rattle.sse_table.proofs.Hints.{at_place, nowhere}
use Rattle.sse_table.proofs.places.hints.Goals as goal
use Rattle.sse_table.proofs.places.hints.Goals.{then-place-i, else-place-i}

pub loop-i-init : goal.loop-i-init
loop-i-init c =
    record {
      room = refl;
      first = All-replicate (StandsFirst c.args.instances.now) 1024 0xffff
          (nowhere c.args.instances.now 0xffff (omega (arith, c.requires)));
    }

pub loop-i-preserved : goal.loop-i-preserved
loop-i-preserved c =
    elim c.if-place-i.branch [
      | then-place-i w ↦ record {
        room = ap length w.hints-is ∙ length-set c.loop-i.hints w.hint_of.result c.loop-i.i ∙ c.loop-i.invariant.room;
        first = subst (All (StandsFirst c.args.instances.now)) (sym w.hints-is)
            (All-set (StandsFirst c.args.instances.now) c.loop-i.hints w.hint_of.result c.loop-i.i
            (at_place _ _ _ (sym c.place.ensures ∙ w.if-place-i.true)) c.loop-i.invariant.first);
      }
      | else-place-i w ↦ record {
        room = ap length w.hints-is ∙ c.loop-i.invariant.room;
        first = subst (All (StandsFirst c.args.instances.now)) (sym w.hints-is) c.loop-i.invariant.first;
      }
    ]
