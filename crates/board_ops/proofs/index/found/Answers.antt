-- One op more stands at its address.
use Rattle.std.proofs.Common.{All, sym, ap, ◌∙◌, subst}
use Rattle.std.specs.Option.{option_copied}
use Rattle.std.proofs.lemmas.List.Elements.{All-push}
use Rattle.board_ops.specs.Indexes.{IsThere}
use Rattle.board_ops.proofs.index.found.Goals as goal
use Rattle.board_ops.proofs.index.found.Goals.{in-Some+in_ok-push, in_default}

pub loop-placed-preserved : goal.loop-placed-preserved
loop-placed-preserved c = λ all h.
    elim c.match-get.branch [
      | in-Some+in_ok-push w ↦
          subst (λ v. All (IsThere all) v.items) (sym w.near-is)
          (subst (All (IsThere all)) (sym w.in_ok-push.ensures.items)
          (All-push (IsThere all) c.loop-placed.near.items _ (c.loop-placed.invariant all h)
          (sym (c.get.ensures all h) ∙ ap option_copied w.in-Some.is)))
      | in_default w ↦ subst (λ v. All (IsThere all) v.items) (sym w.near-is) (c.loop-placed.invariant all h)
    ]
