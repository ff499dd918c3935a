-- One hart more.
use Rattle.std.proofs.Common.{◌≡◌, ℕ, Bool, ◌||◌, [], map, refl, sym, ap, ◌∙◌, subst, arith}
use Rattle.std.specs.List.{range_with_len}
use Rattle.board_plan.specs.declared.plan.Plan.{Plan}
use Rattle.board_play.specs.Tried.{Goes}
use Rattle.board_plan.specs.declared.notes.Step.TheVariants.{Hart}
use Rattle.board_play.proofs.Playing.{goes-more, goes-nil}
use Rattle.board_play.proofs.Telling.{tells-nil, tells-then}
use Rattle.board_play.proofs.tries.try_harts.Goals as goal
use Rattle.board_play.proofs.tries.try_harts.Goals.{then-made, else-made}

pub loop-hart-init : goal.loop-hart-init
loop-hart-init g c =
    record {
      goes = λ left. goes-nil c.args.board.now left;
      tells = tells-nil g.W.Watch.told c.args.board.now c.args.watch.now;
      plan = refl;
    }

pub loop-hart-preserved : goal.loop-hart-preserved
loop-hart-preserved g c =
    let moved = c.try_hart-moved.result in
    record {
      goes = λ left.
          goes-more _ _ _ _ _ _ Hart c.loop-hart.hart c.loop-hart.made moved c.if-made.made
          (c.loop-hart.invariant.goes left) (c.try_hart-moved.ensures.goes left)
          (elim c.if-made.branch [
            | then-made w ↦ ap (λ (b : Bool). b || moved) w.if-made.true ∙ sym w.if-made.true ∙ sym w.made-is
            | else-made w ↦ ap (λ (b : Bool). b || moved) w.if-made.false ∙ sym w.made-is
          ]);
      tells = tells-then g.W.Watch.told _ _ _ _ _ _ c.loop-hart.invariant.tells c.try_hart-moved.ensures.tells;
      plan = (c.try_hart-moved.ensures.goes []).plan ∙ c.loop-hart.invariant.plan;
    }

pub returns : goal.returns
returns g c =
    let before = c.args.board.now in
    let all : c.loop-hart.hart ≡ before.plan.harts =
    omega (arith, c.loop-hart-test.false, c.loop-hart.auto.hart-end, ap (λ (p : Plan). p.harts) c.plan.ensures) in
    record {
      goes = λ left.
          subst
          (λ (n : ℕ). Goes before left (map Hart (range_with_len 0 n)) c.loop-hart.made c.loop-hart.board left) all
          (c.loop-hart.invariant.goes left);
      tells = c.loop-hart.invariant.tells;
    }
